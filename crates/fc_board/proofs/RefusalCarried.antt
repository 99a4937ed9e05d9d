-- Piles renamed and put in another order, and why a game refuses the image of a move.
use Rattle.std.proofs.Common.{◌+◌, ◌-◌, ◌<◌, ◌==◌, ◌∙◌, ◌≡◌, [], ap, arith, length, List, map, None, Option, refl, set}
use Rattle.std.proofs.{Common.{slice_index_or, Some, sym, ℕ}, lemmas.List.{get_or-map, length-map, map-set, take-map}}
use Rattle.std.{proofs.lemmas.Option.{slice_get-map}, specs.Option.{IfSome, is_none}}
use Rattle.fc_card.{proofs.PermutationLemmas.{pick-set, same_place}, specs.{IsCard, IsOrder, IsRenaming}}
use Rattle.fc_card.specs.laws.RenamingLaws.{rank_of-renamed_card, suit_of-below, suit_of-renamed_card}
use Rattle.fc_card.specs.{pick, place_of, rank_of, renamed_card, suit_of}
use Rattle.fc_board.proofs.{BoardLemmas.{in_cells, in_columns}, CarriedLemmas.{height-renamed}}
use Rattle.fc_board.proofs.{DeckLemmas.{found_is_card}, ImageLemmas.{picked_there}}
use Rattle.fc_board.specs.{Boards.{Board, HasAllPiles, IsWellFormed}, Games.{Game}, Moves.{Fits, PlaceFits, SourceFits}}
use Rattle.fc_board.specs.Passages.{carried, carried_move, IsPassage, Passage, renamed_cell, renamed_column}
use Rattle.fc_board.specs.{Passages.{source_image, target_image}, Steps.{card_at, cell_at, column_at, column_refusal}}
use Rattle.fc_board.specs.Steps.{fault_unless, found_refusal, height_of, is_same_pile, last_card, place_refusal}
use Rattle.fc_board.specs.Steps.{refusal, without_last}
use Rattle.fc_board.specs.declared.{fault.StepFault.TheVariants.{NotNext}, moves.{Move.{Move}, Place.{Place}}}
use Rattle.fc_board.specs.declared.moves.{Place.TheVariants.{Cell as ToCell, Column as ToColumn, Home}, Source.{Source}}
use Rattle.fc_board.specs.declared.moves.Source.TheVariants.{Cell as FromCell, Column as FromColumn}

pub set-carried : {U : Type 0} (rename : U → U) (items : List U) (order : List ℕ) (place : ℕ) (item new : U) → rename item ≡ new → IsOrder order →
    length items ≡ length order → place < length order
    → pick (map rename (set items place item)) order ≡ set (pick (map rename items) order) (place_of order place) new
set-carried rename items order place item new e is long inside =
    rw (map-set rename items place item, e) (pick-set (map rename items) order place new is (length-map items rename ∙ long) inside)

-- what is where the order has a place is what was there, renamed
pub item-carried : {U : Type 0} (rename : U → U) (items : List U) (order : List ℕ) (place : ℕ) (none : U) → IsOrder order →
    length items ≡ length order → place < length order
    → slice_index_or (pick (map rename items) order) (place_of order place) none ≡ rename (slice_index_or items place none)
item-carried rename items order place none is long inside =
    picked_there (map rename items) order place none is (length-map items rename ∙ long) inside ∙
    get_or-map rename items place none none (omega arith)

-- ---- a game refuses the image of a move on the carried board for the reason for which it refuses the move

-- the rank alone says whether a card may fill an empty column
abbrev pub FillsByRank : Game → Type 0
FillsByRank game = (renaming : List ℕ) (card : ℕ) → IsRenaming renaming → game.fills (renamed_card renaming card) ≡ game.fills card

-- ---- renamed columns and cells
pub last-renamed : (renaming column : List ℕ) → last_card (renamed_column renaming column) ≡ renamed_cell renaming (last_card column)
last-renamed renaming column =
    rw (length-map column (renamed_card renaming)) (slice_get-map (renamed_card renaming) column (length column - 1))

pub rest-renamed : (renaming column : List ℕ) → without_last (renamed_column renaming column) ≡ renamed_column renaming (without_last column)
rest-renamed renaming column =
    rw (length-map column (renamed_card renaming)) (take-map (renamed_card renaming) (length column - 1) column)

pub free-renamed : (renaming : List ℕ) (cell : Option ℕ) → is_none (renamed_cell renaming cell) ≡ is_none cell
free-renamed renaming None = refl
free-renamed renaming (Some card) = refl

if_found : (found : Option ℕ) → ((card : ℕ) → found ≡ Some card → IsCard card) → IfSome found IsCard
if_found None are = tt
if_found (Some card) are = are card refl

found_card : (game : Game) (board : Board) (source : Source) → IsWellFormed game board → IfSome (card_at board source) IsCard
found_card game board source well =
    if_found (card_at board source) (λ card found. found_is_card board source card (in_cells game board well, in_columns game board well) found)

module _ {game : Game} {passage : Passage} (is : IsPassage game passage) where
  -- ---- what is where
  pub column-carried : (board : Board) (column : ℕ) → HasAllPiles game board → column < 8 →
      column_at (carried passage board) (place_of passage.columns column) ≡ renamed_column passage.renaming (column_at board column)
  column-carried board column all inside =
      let long = all.eight_columns ∙ sym is.orders.eight_columns in
      item-carried (renamed_column passage.renaming) board.columns passage.columns column []
      is.orders.of_columns long (omega (arith, is.orders.eight_columns))

  pub cell-carried : (board : Board) (cell : ℕ) → HasAllPiles game board → cell < game.cells →
      cell_at (carried passage board) (place_of passage.cells cell) ≡ renamed_cell passage.renaming (cell_at board cell)
  cell-carried board cell all inside =
      let long = all.all_cells ∙ sym is.orders.all_cells in
      item-carried (renamed_cell passage.renaming) board.cells passage.cells cell None
      is.orders.of_cells long (omega (arith, is.orders.all_cells))

  pub height-carried : (board : Board) (card : ℕ) → HasAllPiles game board →
      height_of (carried passage board) (suit_of (renamed_card passage.renaming card)) ≡ height_of board (suit_of card)
  height-carried board card all =
      rw (suit_of-renamed_card passage.renaming card is.renames)
      (height-renamed passage.renaming board.heights (suit_of card) is.renames all.four_foundations (suit_of-below card))

  pub found-carried : (board : Board) (source : Source) → HasAllPiles game board → SourceFits game source →
      card_at (carried passage board) (source_image passage.columns passage.cells source) ≡ renamed_cell passage.renaming (card_at board source)
  found-carried board (FromColumn column) all fits =
      rw (column-carried board column all fits) (last-renamed passage.renaming (column_at board column))
  found-carried board (FromCell cell) all fits = cell-carried board cell all fits

  pub pile-carried : (source : Source) (place : Place) → SourceFits game source → PlaceFits game place →
      is_same_pile (source_image passage.columns passage.cells source) (target_image passage.columns passage.cells place) ≡ is_same_pile source place
  pile-carried (FromColumn column) (ToColumn other) a b =
      let eight = is.orders.eight_columns in
      same_place passage.columns column other is.orders.of_columns (omega (arith, eight)) (omega (arith, eight))
  pile-carried (FromCell cell) (ToCell other) a b =
      let all = is.orders.all_cells in
      same_place passage.cells cell other is.orders.of_cells (omega (arith, all)) (omega (arith, all))
  pile-carried (FromColumn column) (ToCell cell) a b = refl
  pile-carried (FromColumn column) Home a b = refl
  pile-carried (FromCell cell) (ToColumn column) a b = refl
  pile-carried (FromCell cell) Home a b = refl

  -- ---- refusals
  column_refusal-carried : FillsByRank game → (card : ℕ) (last : Option ℕ) → IsCard card → IfSome last IsCard →
      column_refusal game (renamed_card passage.renaming card) (renamed_cell passage.renaming last) ≡ column_refusal game card last
  column_refusal-carried fills card None is_card are = rw (fills passage.renaming card is.renames)
  column_refusal-carried fills card (Some last) is_card are = rw (is.keeps card last is_card are)

  place_refusal-carried : FillsByRank game → (board : Board) (card : ℕ) (place : Place) → IsWellFormed game board → IsCard card →
      PlaceFits game place →
      place_refusal game (carried passage board) (renamed_card passage.renaming card) (target_image passage.columns passage.cells place) ≡
      place_refusal game board card place
  place_refusal-carried fills board card (ToColumn column) well is_card fits =
      rw (column-carried board column well.piles fits, last-renamed passage.renaming (column_at board column))
      (column_refusal-carried fills card (last_card (column_at board column)) is_card (found_card game board (FromColumn column) well))
  place_refusal-carried fills board card (ToCell cell) well is_card fits =
      rw (cell-carried board cell well.piles fits, free-renamed passage.renaming (cell_at board cell))
  place_refusal-carried fills board card Home well is_card fits =
      ap (λ height. fault_unless (height + 1 == rank_of (renamed_card passage.renaming card)) NotNext) (height-carried board card (well.piles)) ∙
      ap (λ rank. fault_unless (height_of board (suit_of card) + 1 == rank) NotNext) (rank_of-renamed_card passage.renaming card is.renames)

  found_refusal-carried : FillsByRank game → (board : Board) (found : Option ℕ) (place : Place) → IsWellFormed game board → IfSome found IsCard →
      PlaceFits game place →
      found_refusal game (carried passage board) (renamed_cell passage.renaming found) (target_image passage.columns passage.cells place) ≡
      found_refusal game board found place
  found_refusal-carried fills board None place well are fits = refl
  found_refusal-carried fills board (Some card) place well are fits = place_refusal-carried fills board card place well are fits

  pub refusal-carried : FillsByRank game → (board : Board) (move : Move) → IsWellFormed game board → Fits game move →
      refusal game (carried passage board) (carried_move passage move) ≡ refusal game board move
  refusal-carried fills board move well fits =
      let found = card_at board move.from in
      let reason = found_refusal-carried fills board found move.to well (found_card game board move.from well) fits.1 in
      rw (found-carried board move.from well.piles fits.0, pile-carried move.from move.to fits.0 fits.1, reason)
