-- The image of a move under orders of the columns and cells: it takes and puts what the move did.
use Rattle.std.proofs.Common.{◌&&◌, ◌<◌, ◌==◌, ◌∙◌, ◌≡◌, [], All, ap, ap₂, arith, Bool, get_or, length, List, ltb, None}
use Rattle.std.proofs.Common.{Option, refl, slice_index, sym, true, ℕ}
use Rattle.std.proofs.lemmas.Bool.{agree_below, agree_below_at, and_parts, eqb-true, ltb-true}
use Rattle.std.proofs.lemmas.List.{Elements.{All-map, All-weaker}, FromFn.{length-range_with_len}, map-id}
use Rattle.std.proofs.lemmas.Simd.{map-map}
use Rattle.fc_card.{proofs.LaneLemmas.{map-agree}, specs.{inverse_order, IsOrder, laws.OrderLaws.{get_or-pick}}}
use Rattle.fc_card.specs.laws.OrderLaws.{inverse_order-IsOrder, length-inverse_order, length-pick, pick-inverse}
use Rattle.fc_card.specs.laws.OrderLaws.{pick-IsOrder, place_of-IsOrder, places-IsOrder, slice_index-places}
use Rattle.fc_card.specs.{pick, place_of, places}
use Rattle.fc_board.specs.{Games.{Game}, laws.ListWords.{images, run_images}}
use Rattle.fc_board.specs.Moves.{both_columns, Fits, move_between, PlaceFits, RunFits, SourceFits}
use Rattle.fc_board.specs.Passages.{AreOrders, image, run_image, source_image, target_image}
use Rattle.fc_board.specs.declared.moves.{Move.{Move}, Place.{Place}}
use Rattle.fc_board.specs.declared.moves.{Place.TheVariants.{Cell as ToCell, Column as ToColumn, Home}, Source.{Source}}
use Rattle.fc_board.specs.declared.moves.Source.TheVariants.{Cell as FromCell, Column as FromColumn}
use Rattle.fc_board.specs.declared.run_move.RunMove.{RunMove, TheVariants.{One, Run}}

-- ---- where an order has a place
pub place_inside : (order : List ℕ) (count place : ℕ) → IsOrder order → length order ≡ count → place < count → place_of order place < count
place_inside order count place is long inside = let there = place_of-IsOrder order is place (omega arith) in let low = there.0 in omega arith

pub place_in_places : (count place : ℕ) → place < count → place_of (places count) place ≡ place
place_in_places count place inside =
    let long = length-range_with_len 0 count in
    let there = place_of-IsOrder (places count) (places-IsOrder count) place (omega arith) in
    let low = there.0 in
    sym (slice_index-places count (place_of (places count) place) (omega arith)) ∙ there.1

pub place_in_product : (first next : List ℕ) (place : ℕ) → IsOrder first → IsOrder next → length first ≡ length next → place < length first
    → place_of (pick first next) place ≡ place_of next (place_of first place)
place_in_product first next place one two long inside =
    let (low, there) = place_of-IsOrder first one place inside in
    let (low', there') = place_of-IsOrder next two (place_of first place) (omega arith) in
    let within : (i : ℕ) → i < length next → slice_index next i < length first = λ i h. let small = two.within i h in omega arith in
    let joined_long = length-pick first next within in
    let joined = pick-IsOrder first next one two long in
    let (found, is) = place_of-IsOrder (pick first next) joined place (omega arith) in
    joined.distinct (place_of (pick first next) place) (place_of next (place_of first place)) found (omega arith)
    (is ∙ sym (get_or-pick first next (place_of next (place_of first place)) 0 within (omega arith) ∙ ap (slice_index first) there' ∙ there))

-- what was at the place is where the order has it
pub picked_there : {U : Type 0} (items : List U) (order : List ℕ) (place : ℕ) (d : U) → IsOrder order → length items ≡ length order →
    place < length order
    → get_or (pick items order) (place_of order place) d ≡ get_or items place d
picked_there items order place d is long inside =
    let (low, there) = place_of-IsOrder order is place inside in
    let within : (i : ℕ) → i < length order → slice_index order i < length items = λ i h. let small = is.within i h in omega arith in
    get_or-pick items order (place_of order place) d within low ∙ ap (λ at. get_or items at d) there

-- ---- moves
source_image-fits : (game : Game) (columns cells : List ℕ) (source : Source) → AreOrders game columns cells → SourceFits game source →
    SourceFits game (source_image columns cells source)
source_image-fits game columns cells (FromColumn column) are fits = place_inside columns 8 column are.of_columns are.eight_columns fits
source_image-fits game columns cells (FromCell cell) are fits = place_inside cells game.cells cell are.of_cells are.all_cells fits

target_image-fits : (game : Game) (columns cells : List ℕ) (target : Place) → AreOrders game columns cells → PlaceFits game target →
    PlaceFits game (target_image columns cells target)
target_image-fits game columns cells (ToColumn column) are fits = place_inside columns 8 column are.of_columns are.eight_columns fits
target_image-fits game columns cells (ToCell cell) are fits = place_inside cells game.cells cell are.of_cells are.all_cells fits
target_image-fits game columns cells Home are fits = tt

pub image-Fits : (game : Game) (columns cells : List ℕ) (move : Move) → AreOrders game columns cells → Fits game move →
    Fits game (image columns cells move)
image-Fits game columns cells move are fits =
    (source_image-fits game columns cells move.from are fits.0, target_image-fits game columns cells move.to are fits.1)

source_stays : (game : Game) (source : Source) → SourceFits game source → source_image (places 8) (places game.cells) source ≡ source
source_stays game (FromColumn column) fits = rw (place_in_places 8 column fits)
source_stays game (FromCell cell) fits = rw (place_in_places game.cells cell fits)

target_stays : (game : Game) (target : Place) → PlaceFits game target → target_image (places 8) (places game.cells) target ≡ target
target_stays game (ToColumn column) fits = rw (place_in_places 8 column fits)
target_stays game (ToCell cell) fits = rw (place_in_places game.cells cell fits)
target_stays game Home fits = refl

pub image-identity : (game : Game) (move : Move) → Fits game move → image (places 8) (places game.cells) move ≡ move
image-identity game move fits = ap₂ move_between (source_stays game move.from fits.0) (target_stays game move.to fits.1)

source_twice : (game : Game) (columns cells next_columns next_cells : List ℕ) (source : Source) → AreOrders game columns cells →
    AreOrders game next_columns next_cells → SourceFits game source
    → source_image (pick columns next_columns) (pick cells next_cells) source ≡ source_image next_columns next_cells (source_image columns cells source)
source_twice game columns cells next_columns next_cells (FromColumn column) one two fits =
    let long = one.eight_columns in
    rw (place_in_product columns next_columns column one.of_columns two.of_columns (one.eight_columns ∙ sym two.eight_columns) (omega arith))
source_twice game columns cells next_columns next_cells (FromCell cell) one two fits =
    let long = one.all_cells in
    rw (place_in_product cells next_cells cell one.of_cells two.of_cells (one.all_cells ∙ sym two.all_cells) (omega arith))

target_twice : (game : Game) (columns cells next_columns next_cells : List ℕ) (target : Place) → AreOrders game columns cells →
    AreOrders game next_columns next_cells → PlaceFits game target
    → target_image (pick columns next_columns) (pick cells next_cells) target ≡ target_image next_columns next_cells (target_image columns cells target)
target_twice game columns cells next_columns next_cells (ToColumn column) one two fits =
    let long = one.eight_columns in
    rw (place_in_product columns next_columns column one.of_columns two.of_columns (one.eight_columns ∙ sym two.eight_columns) (omega arith))
target_twice game columns cells next_columns next_cells (ToCell cell) one two fits =
    let long = one.all_cells in
    rw (place_in_product cells next_cells cell one.of_cells two.of_cells (one.all_cells ∙ sym two.all_cells) (omega arith))
target_twice game columns cells next_columns next_cells Home one two fits = refl

pub image-product : (game : Game) (columns cells next_columns next_cells : List ℕ) (move : Move) → AreOrders game columns cells →
    AreOrders game next_columns next_cells → Fits game move
    → image (pick columns next_columns) (pick cells next_cells) move ≡ image next_columns next_cells (image columns cells move)
image-product game columns cells next_columns next_cells move one two fits =
    ap₂ move_between (source_twice game columns cells next_columns next_cells move.from one two fits.0) (target_twice game columns cells next_columns next_cells move.to one two fits.1)

pub AreOrders-inverse : (game : Game) (columns cells : List ℕ) → AreOrders game columns cells →
    AreOrders game (inverse_order columns) (inverse_order cells)
AreOrders-inverse game columns cells are = record {
  of_columns = inverse_order-IsOrder columns are.of_columns;
  eight_columns = length-inverse_order columns ∙ are.eight_columns;
  of_cells = inverse_order-IsOrder cells are.of_cells;
  all_cells = length-inverse_order cells ∙ are.all_cells;
}

pub image-inverse : (game : Game) (columns cells : List ℕ) (move : Move) → AreOrders game columns cells → Fits game move
    → image (inverse_order columns) (inverse_order cells) (image columns cells move) ≡ move
image-inverse game columns cells move are fits =
    let back = AreOrders-inverse game columns cells are in
    sym (image-product game columns cells (inverse_order columns) (inverse_order cells) move are back fits)
    ∙ ap₂ (λ new_columns new_cells. image new_columns new_cells move)
    (pick-inverse columns are.of_columns ∙ ap places are.eight_columns) (pick-inverse cells are.of_cells ∙ ap places are.all_cells)
    ∙ image-identity game move fits

-- ---- lists of moves: what holds of each move of a list holds of the list
pub images-Fit : (game : Game) (columns cells : List ℕ) (moves : List Move) → AreOrders game columns cells → All (Fits game) moves →
    All (Fits game) (images columns cells moves)
images-Fit game columns cells moves are fits =
    All-map (Fits game) (image columns cells) moves
    (All-weaker (Fits game) (λ move. Fits game (image columns cells move)) (λ move fits. image-Fits game columns cells move are fits) moves fits)

pub images-identity : (game : Game) (moves : List Move) → All (Fits game) moves → images (places 8) (places game.cells) moves ≡ moves
images-identity game moves fits =
    map-agree (Fits game) (image (places 8) (places game.cells)) (λ move. move) (image-identity game) moves fits ∙ map-id moves

pub images-product : (game : Game) (columns cells next_columns next_cells : List ℕ) (moves : List Move) → AreOrders game columns cells →
    AreOrders game next_columns next_cells → All (Fits game) moves
    → images (pick columns next_columns) (pick cells next_cells) moves ≡ images next_columns next_cells (images columns cells moves)
images-product game columns cells next_columns next_cells moves one two fits =
    map-agree (Fits game) (image (pick columns next_columns) (pick cells next_cells)) (λ move. image next_columns next_cells (image columns cells move))
    (λ move fits. image-product game columns cells next_columns next_cells move one two fits) moves fits
    ∙ sym (map-map (image next_columns next_cells) (image columns cells) moves)

pub images-inverse : (game : Game) (columns cells : List ℕ) (moves : List Move) → AreOrders game columns cells → All (Fits game) moves
    → images (inverse_order columns) (inverse_order cells) (images columns cells moves) ≡ moves
images-inverse game columns cells moves are fits =
    map-map (image (inverse_order columns) (inverse_order cells)) (image columns cells) moves
    ∙ map-agree (Fits game) (λ move. image (inverse_order columns) (inverse_order cells) (image columns cells move)) (λ move. move)
    (λ move fits. image-inverse game columns cells move are fits) moves fits
    ∙ map-id moves

-- ---- the piles that a move names
pub same_source_column : (columns cells : List ℕ) (piles : List (List ℕ)) (column new : ℕ) → IsOrder columns → length piles ≡ length columns →
    column < length columns
    → source_image columns cells (FromColumn column) ≡ FromColumn new → get_or (pick piles columns) new [] ≡ get_or piles column []
same_source_column columns cells piles column new is long inside e =
    let there : new ≡ place_of columns column = cc in
    rw there (picked_there piles columns column [] is long inside)

pub same_source_cell : (columns cells : List ℕ) (contents : List (Option ℕ)) (cell new : ℕ) → IsOrder cells → length contents ≡ length cells →
    cell < length cells
    → source_image columns cells (FromCell cell) ≡ FromCell new → get_or (pick contents cells) new None ≡ get_or contents cell None
same_source_cell columns cells contents cell new is long inside e =
    let there : new ≡ place_of cells cell = cc in
    rw there (picked_there contents cells cell None is long inside)

pub same_target_column : (columns cells : List ℕ) (piles : List (List ℕ)) (column new : ℕ) → IsOrder columns → length piles ≡ length columns →
    column < length columns
    → target_image columns cells (ToColumn column) ≡ ToColumn new → get_or (pick piles columns) new [] ≡ get_or piles column []
same_target_column columns cells piles column new is long inside e =
    let there : new ≡ place_of columns column = cc in
    rw there (picked_there piles columns column [] is long inside)

pub same_target_cell : (columns cells : List ℕ) (contents : List (Option ℕ)) (cell new : ℕ) → IsOrder cells → length contents ≡ length cells →
    cell < length cells
    → target_image columns cells (ToCell cell) ≡ ToCell new → get_or (pick contents cells) new None ≡ get_or contents cell None
same_target_cell columns cells contents cell new is long inside e =
    let there : new ≡ place_of cells cell = cc in
    rw there (picked_there contents cells cell None is long inside)

-- ---- orders of a game
pub AreOrders-places : (game : Game) → AreOrders game (places 8) (places game.cells)
AreOrders-places game = record {
  of_columns = places-IsOrder 8;
  eight_columns = length-range_with_len 0 8;
  of_cells = places-IsOrder game.cells;
  all_cells = length-range_with_len 0 game.cells;
}

length-product : (first next : List ℕ) → IsOrder first → IsOrder next → length first ≡ length next → length (pick first next) ≡ length next
length-product first next one two long = length-pick first next (λ i h. let small = two.within i h in omega arith)

pub AreOrders-product : (game : Game) (columns cells next_columns next_cells : List ℕ) → AreOrders game columns cells →
    AreOrders game next_columns next_cells
    → AreOrders game (pick columns next_columns) (pick cells next_cells)
AreOrders-product game columns cells next_columns next_cells one two =
    let long = one.eight_columns ∙ sym two.eight_columns in
    let long' = one.all_cells ∙ sym two.all_cells in record {
      of_columns = pick-IsOrder columns next_columns one.of_columns two.of_columns long;
      eight_columns = length-product columns next_columns one.of_columns two.of_columns long ∙ two.eight_columns;
      of_cells = pick-IsOrder cells next_cells one.of_cells two.of_cells long';
      all_cells = length-product cells next_cells one.of_cells two.of_cells long' ∙ two.all_cells;
    }

-- each place of the list is within it, and is found where it is
abbrev pub leads_back : List ℕ → Bool
leads_back order =
    agree_below (λ i. ltb (slice_index order i) (length order) && (place_of order (slice_index order i) == i)) (λ _. true) (length order)

pub IsOrder-leads_back : (order : List ℕ) → leads_back order ≡ true → IsOrder order
IsOrder-leads_back order back =
    let parts : (i : ℕ) → i < length order → ltb (slice_index order i) (length order) ≡ true × (place_of order (slice_index order i) == i) ≡ true =
    λ i h. and_parts (ltb (slice_index order i) (length order)) (place_of order (slice_index order i) == i)
    (agree_below_at (λ i. ltb (slice_index order i) (length order) && (place_of order (slice_index order i) == i)) (λ _. true) (length order) i back h) in
    let found : (i : ℕ) → i < length order → place_of order (slice_index order i) ≡ i = λ i h. eqb-true (place_of order (slice_index order i)) i (parts i h).1 in record {
      within = λ i h. ltb-true (slice_index order i) (length order) (parts i h).0;
      distinct = λ i j a b same. sym (found i a) ∙ ap (place_of order) same ∙ found j b;
    }

-- ---- the image of a move of several cards under orders of the columns and cells
pub same_form : (columns cells : List ℕ) (source : Source) (place : Place)
    → both_columns (source_image columns cells source) (target_image columns cells place) ≡ both_columns source place
same_form columns cells (FromColumn column) (ToColumn other) = refl
same_form columns cells (FromColumn column) (ToCell cell) = refl
same_form columns cells (FromColumn column) Home = refl
same_form columns cells (FromCell cell) (ToColumn column) = refl
same_form columns cells (FromCell cell) (ToCell other) = refl
same_form columns cells (FromCell cell) Home = refl

pub run_image-Fits : (game : Game) (columns cells : List ℕ) (token : RunMove) → AreOrders game columns cells → RunFits game token
    → RunFits game (run_image columns cells token)
run_image-Fits game columns cells (One move) are fits =
    (image-Fits game columns cells move are fits.0, same_form columns cells move.from move.to ∙ fits.1)
run_image-Fits game columns cells (Run from to said) are fits = (
  place_inside columns 8 from are.of_columns are.eight_columns fits.0,
  place_inside columns 8 to are.of_columns are.eight_columns fits.1,
  fits.2,
)

pub run_image-identity : (game : Game) (token : RunMove) → RunFits game token → run_image (places 8) (places game.cells) token ≡ token
run_image-identity game (One move) fits = rw (image-identity game move fits.0)
run_image-identity game (Run from to said) fits =
    ap₂ (λ source target. Run source target said) (place_in_places 8 from fits.0) (place_in_places 8 to fits.1)

pub run_image-product : (game : Game) (columns cells next_columns next_cells : List ℕ) (token : RunMove)
    → AreOrders game columns cells → AreOrders game next_columns next_cells → RunFits game token
    → run_image (pick columns next_columns) (pick cells next_cells) token ≡ run_image next_columns next_cells (run_image columns cells token)
run_image-product game columns cells next_columns next_cells (One move) one two fits =
    rw (image-product game columns cells next_columns next_cells move one two fits.0)
run_image-product game columns cells next_columns next_cells (Run from to said) one two fits =
    let there : (column : ℕ) → column < 8 → place_of (pick columns next_columns) column ≡ place_of next_columns (place_of columns column) =
    λ column inside. place_in_product columns next_columns column one.of_columns two.of_columns (one.eight_columns ∙ sym two.eight_columns)
    (omega (arith, one.eight_columns)) in
    ap₂ (λ source target. Run source target said) (there from fits.0) (there to fits.1)

pub run_image-inverse : (game : Game) (columns cells : List ℕ) (token : RunMove) → AreOrders game columns cells → RunFits game token
    → run_image (inverse_order columns) (inverse_order cells) (run_image columns cells token) ≡ token
run_image-inverse game columns cells token are fits =
    let back = AreOrders-inverse game columns cells are in
    sym (run_image-product game columns cells (inverse_order columns) (inverse_order cells) token are back fits)
    ∙ ap₂ (λ new_columns new_cells. run_image new_columns new_cells token)
    (pick-inverse columns are.of_columns ∙ ap places are.eight_columns) (pick-inverse cells are.of_cells ∙ ap places are.all_cells)
    ∙ run_image-identity game token fits

-- ---- lists
pub run_images-Fit : (game : Game) (columns cells : List ℕ) (tokens : List RunMove) → AreOrders game columns cells → All (RunFits game) tokens
    → All (RunFits game) (run_images columns cells tokens)
run_images-Fit game columns cells tokens are fits =
    All-map (RunFits game) (run_image columns cells) tokens
    (All-weaker (RunFits game) (λ token. RunFits game (run_image columns cells token))
    (λ token fits. run_image-Fits game columns cells token are fits) tokens fits)

pub run_images-identity : (game : Game) (tokens : List RunMove) → All (RunFits game) tokens →
    run_images (places 8) (places game.cells) tokens ≡ tokens
run_images-identity game tokens fits =
    map-agree (RunFits game) (run_image (places 8) (places game.cells)) (λ token. token) (run_image-identity game) tokens fits ∙ map-id tokens

pub run_images-product : (game : Game) (columns cells next_columns next_cells : List ℕ) (tokens : List RunMove)
    → AreOrders game columns cells → AreOrders game next_columns next_cells → All (RunFits game) tokens
    → run_images (pick columns next_columns) (pick cells next_cells) tokens ≡ run_images next_columns next_cells (run_images columns cells tokens)
run_images-product game columns cells next_columns next_cells tokens one two fits =
    map-agree (RunFits game) (run_image (pick columns next_columns) (pick cells next_cells))
    (λ token. run_image next_columns next_cells (run_image columns cells token))
    (λ token fits. run_image-product game columns cells next_columns next_cells token one two fits) tokens fits
    ∙ sym (map-map (run_image next_columns next_cells) (run_image columns cells) tokens)

pub run_images-inverse : (game : Game) (columns cells : List ℕ) (tokens : List RunMove) → AreOrders game columns cells → All (RunFits game) tokens
    → run_images (inverse_order columns) (inverse_order cells) (run_images columns cells tokens) ≡ tokens
run_images-inverse game columns cells tokens are fits =
    map-map (run_image (inverse_order columns) (inverse_order cells)) (run_image columns cells) tokens
    ∙ map-agree (RunFits game) (λ token. run_image (inverse_order columns) (inverse_order cells) (run_image columns cells token)) (λ token. token)
    (λ token fits. run_image-inverse game columns cells token are fits) tokens fits
    ∙ map-id tokens
