-- The sums of equivalent boards are the same, in some order; a move changes each by one term.
use Rattle.std.proofs.Common.{◌%◌, ◌*◌, ◌++◌, ◌+◌, ◌-◌, ◌<◌, ◌^◌, ◌∙◌, ◌∷◌, ◌≡◌, ◌≤◌, [], All, ap, ap₂, arith, Bool}
use Rattle.std.proofs.Common.{cond, Contains, drop, false, get_or, inl, inr, length, length-append, List, map, None}
use Rattle.std.proofs.Common.{Option, refl, replicate, Some, subst, suc, sym, take, ℕ}
use Rattle.std.proofs.lemmas.Bool.{cases_lt, eqb-false, le-leb}
use Rattle.std.proofs.lemmas.List.{Elements.{All-get_or, All-head, All-tail, All-take}, ext_get_or, get_or-drop}
use Rattle.std.proofs.lemmas.List.{get_or-map, get_or-replicate, get_or-set_other, get_or_default, length-drop}
use Rattle.std.proofs.lemmas.List.{length-map, length-set, Sorted.{sum_by-IsPermutation}}
use Rattle.std.proofs.{lemmas.List.{Sums.{sum_by-cons, sum_by-set}, take-map}, Math.ListN.{get_or-append}}
use Rattle.std.{proofs.Math.Seq.{get_or-append_right, take-append_seam}, specs.{Int.{to_le_bytes, w128}, List.{sum_by}}}
use Rattle.fc_card.{proofs.PermutationLemmas.{IsPermutation-pick}, specs.{IsCard, IsRenaming}}
use Rattle.fc_card.specs.laws.RenamingLaws.{renamed_card-IsCard, renamed_card-product}
use Rattle.fc_card.specs.{pick, renamed_card, renamed_code, renaming_product}
use Rattle.fc_board.proofs.BoardLemmas.{All-right, in_cells, in_columns}
use Rattle.fc_board.proofs.{CarriedLemmas.{carried-IsWellFormed, Carries-inverse}, ConfinedLemmas.{empty_from_last}}
use Rattle.fc_board.proofs.{DeckLemmas.{inside_cells, inside_columns, split_last}, RenamingLemmas.{product-listed}}
use Rattle.fc_board.specs.{Boards.{Board, IsWellFormed}, Games.{Game, RuleLaws}, laws.ListWords.{IsCell}}
use Rattle.fc_board.specs.Moves.{Fits, move_between, PlaceFits, SourceFits}
use Rattle.fc_board.specs.Passages.{carried, Carries, inverse_passage, IsPassage, Passage, renamed_cell, renamed_column}
use Rattle.fc_board.specs.Steps.{card_at, cell_at, column_at, is_same_pile, last_card, MayGo, Offers, put_on, Step}
use Rattle.fc_board.specs.Steps.{taken_from, without_last}
use Rattle.fc_board.specs.declared.moves.{Move.{Move}, Place.{Place}}
use Rattle.fc_board.specs.declared.moves.{Place.TheVariants.{Cell as ToCell, Column as ToColumn, Home}, Source.{Source}}
use Rattle.fc_board.specs.declared.moves.Source.TheVariants.{Cell as FromCell, Column as FromColumn}
use Rattle.{fc_canon.specs.{Equivalent}, fc_text.proofs.BoardViewLemmas.{number-renamed}}
use Rattle.fc_bytes.{proofs.SumLemmas.{least_below, least_bound}, specs.{cell_byte, class_hash.{AreMoved, AreSums}}}
use Rattle.fc_bytes.specs.class_hash.{board_total, CanMove, card_weight, cell_total, child_hash, class_hash, class_sum, class_sums}
use Rattle.fc_bytes.specs.class_hash.{column_total, hash_of_sums, least_sum, lies_on, moved_sum, moved_sums}
use Rattle.fc_bytes.specs.class_hash.{place_weight, put_onto, renamed_place, sum_in, sums_in, term, turned, words_of}
use Rattle.fc_bytes.specs.{padded}
use Rattle.fc_bytes.specs.declared.class_hash.ClassSums.{ClassSums}

-- ---- one renaming after the other
place_of_card : (renaming : List ℕ) (byte : ℕ) → byte ≤ 52 → renamed_place renaming byte ≡ renamed_code renaming byte
place_of_card renaming byte few = ap (λ test. cond test (renamed_code renaming byte) byte) (le-leb byte 52 few)

module _ (first next : List ℕ) (one : IsRenaming first) (two : IsRenaming next) where
  twice : (card : ℕ) → renamed_code (renaming_product first next) (card + 1)
      ≡ renamed_code next (renamed_card first card + 1)
  twice card =
      number-renamed (renaming_product first next) card
      ∙ ap (λ n. n + 1) (renamed_card-product first next card one two)
      ∙ sym (number-renamed next (renamed_card first card))

  place_twice : (card : ℕ) → IsCard card → renamed_place (renaming_product first next) (card + 1)
      ≡ renamed_place next (renamed_card first card + 1)
  place_twice card in_deck =
      let image = renamed_card-IsCard first card one in_deck in
      place_of_card (renaming_product first next) (card + 1) (omega (arith, in_deck)) ∙ twice card
      ∙ sym (place_of_card next (renamed_card first card + 1) (omega (arith, image)))

  column_twice : (column : List ℕ) (on image : ℕ) → All IsCard column → renamed_place (renaming_product first next) on
      ≡ renamed_place next image →
      column_total next image (renamed_column first column) ≡ column_total (renaming_product first next) on column
  column_twice [] on image are same = refl
  column_twice (card ∷ column) on image are same =
      ap₂ (λ (a b : ℕ). a + b)
      (ap₂ (λ (code place : ℕ). card_weight code * place_weight place) (sym (twice card)) (sym same))
      (column_twice column (card + 1) (renamed_card first card + 1) (All-tail IsCard card column are)
      (place_twice card (All-head IsCard card column are)))

  cell_twice : (cell : Option ℕ) → cell_total next (renamed_cell first cell)
      ≡ cell_total (renaming_product first next) cell
  cell_twice None = refl
  cell_twice (Some card) = ap (λ code. card_weight code * place_weight 53) (sym (twice card))

  columns_twice : (columns : List (List ℕ)) → All (All IsCard) columns →
      sum_by (column_total next 0) (map (renamed_column first) columns)
      ≡ sum_by (column_total (renaming_product first next) 0) columns
  columns_twice [] are = refl
  columns_twice (column ∷ columns) are =
      sum_by-cons (column_total next 0) (renamed_column first column) (map (renamed_column first) columns)
      ∙ ap₂ (λ (a b : ℕ). a + b) (column_twice column 0 0 (All-head (All IsCard) column columns are) refl)
      (columns_twice columns (All-tail (All IsCard) column columns are))
      ∙ sym (sum_by-cons (column_total (renaming_product first next) 0) column columns)

  cells_twice : (cells : List (Option ℕ)) →
      sum_by (cell_total next) (map (renamed_cell first) cells)
      ≡ sum_by (cell_total (renaming_product first next)) cells
  cells_twice [] = refl
  cells_twice (cell ∷ cells) =
      sum_by-cons (cell_total next) (renamed_cell first cell) (map (renamed_cell first) cells)
      ∙ ap₂ (λ (a b : ℕ). a + b) (cell_twice cell) (cells_twice cells)
      ∙ sym (sum_by-cons (cell_total (renaming_product first next)) cell cells)

-- a sum of the board that a passage leads to is one of the board
carried_total : (game : Game) (passage : Passage) (board : Board) (renaming : List ℕ) → IsPassage game passage
    → IsWellFormed game board → IsRenaming renaming →
    board_total (carried passage board) renaming ≡ board_total board (renaming_product passage.renaming renaming)
carried_total game passage board renaming is well two =
    let columns = map (renamed_column passage.renaming) board.columns in
    let cells = map (renamed_cell passage.renaming) board.cells in
    let eight = length-map board.columns (renamed_column passage.renaming) ∙ well.piles.eight_columns
    ∙ sym is.orders.eight_columns in
    let all = length-map board.cells (renamed_cell passage.renaming) ∙ well.piles.all_cells ∙ sym is.orders.all_cells in
    ap₂ (λ (a b : ℕ). a + b)
    (sum_by-IsPermutation (column_total renaming 0) columns (pick columns passage.columns)
    (IsPermutation-pick columns passage.columns is.orders.of_columns eight)
    ∙ columns_twice passage.renaming renaming is.renames two board.columns (in_columns game board well))
    (sum_by-IsPermutation (cell_total renaming) cells (pick cells passage.cells)
    (IsPermutation-pick cells passage.cells is.orders.of_cells all)
    ∙ cells_twice passage.renaming renaming is.renames two board.cells)

-- ---- the least sum
bound_below : (bound : ℕ) (sums : List ℕ) → bound ≤ 2 ^ 128 - 1
    → ((place : ℕ) → place < length sums → bound ≤ get_or sums place 0) → bound ≤ least_sum sums
bound_below bound [] few below = few
bound_below bound (sum ∷ sums) few below =
    let here : bound ≤ sum = below 0 (omega arith) in
    let rest = bound_below bound sums few (λ place inside. below (suc place) (omega (arith, inside))) in
    omega (arith, here, rest)

abbrev least_turned : List (List ℕ) → Board → ℕ
least_turned renamings board = least_sum (map turned (class_sums renamings board))

turned_there : (renamings : List (List ℕ)) (board : Board) (place : ℕ) (default : List ℕ) → place < length renamings →
    get_or (map turned (class_sums renamings board)) place 0 ≡ turned (class_sum board (get_or renamings place default))
turned_there renamings board place default inside =
    get_or-map turned (class_sums renamings board) place 0 0
    (omega (arith, inside, length-map renamings (class_sum board)))
    ∙ ap turned (get_or-map (class_sum board) renamings place default 0 inside)

turned_long : (renamings : List (List ℕ)) (board : Board) →
    length (map turned (class_sums renamings board)) ≡ length renamings
turned_long renamings board = length-map (class_sums renamings board) turned ∙ length-map renamings (class_sum board)

module _ {game : Game} {renamings : List (List ℕ)} {cells count : ℕ} {kings_only : Bool}
    (laws : RuleLaws game renamings cells count kings_only) where
  -- each sum of the other board is one of the board
  least_there : (passage : Passage) (board : Board) → IsPassage game passage → IsWellFormed game board → (place : ℕ)
      → place < length renamings →
      least_turned renamings board ≤ get_or (map turned (class_sums renamings (carried passage board))) place 0
  least_there passage board is well place inside =
      let renaming = get_or renamings place [] in
      let listed : Contains renamings renaming = (place, inside, get_or_default renamings place renaming [] inside) in
      let (j, within, found) = product-listed laws passage.renaming renaming
      (laws.keeping_are_listed passage.renaming is.renames is.keeps) listed in
      let both = renaming_product passage.renaming renaming in
      let one : get_or (map turned (class_sums renamings (carried passage board))) place 0 ≡ turned (class_sum board both) =
      turned_there renamings (carried passage board) place [] inside
      ∙ ap (λ total. turned (total % 2 ^ 128)) (carried_total game passage board renaming is well
      (laws.listed_are_renamings renaming listed)) in
      let other : get_or (map turned (class_sums renamings board)) j 0
      ≡ turned (class_sum board both) = turned_there renamings board j both within
      ∙ ap (λ renaming. turned (class_sum board renaming)) found in
      let below = least_below (map turned (class_sums renamings board)) j
      (omega (arith, within, turned_long renamings board)) in
      omega (arith, one, other, below)

  least_half : (passage : Passage) (board other : Board) → IsWellFormed game board → Carries game passage board other →
      least_turned renamings board ≤ least_turned renamings other
  least_half passage board other well carries =
      subst (λ other. least_turned renamings board ≤ least_turned renamings other)
      (sym carries.there)
      (bound_below (least_turned renamings board) (map turned (class_sums renamings (carried passage board)))
      (least_bound (map turned (class_sums renamings board)))
      (λ place inside. least_there passage board carries.is_passage well place
      (omega (arith, inside, turned_long renamings (carried passage board)))))

  pub one_class_hash : (board other : Board) → IsWellFormed game board → Equivalent game board other
      → class_hash renamings board ≡ class_hash renamings other
  one_class_hash board other well (passage, carries) =
      let there = subst (IsWellFormed game) (sym carries.there)
      (carried-IsWellFormed game passage board carries.is_passage well) in
      let forth = least_half passage board other well carries in
      let back = least_half (inverse_passage passage) other board there
      (Carries-inverse game passage board other well.piles carries) in
      let same : least_turned renamings board ≡ least_turned renamings other = omega (arith, forth, back) in
      ap (to_le_bytes w128) same

-- ---- a card more at the end of a column
abbrev top : ℕ → List ℕ → ℕ
top on [] = on
top on (card ∷ column) = top (card + 1) column

top_pushed : (on card : ℕ) (front : List ℕ) → top on (front ++ card ∷ []) ≡ card + 1
top_pushed on card [] = refl
top_pushed on card (first ∷ front) = top_pushed (first + 1) card front

top_is : (front : List ℕ) (last : Option ℕ) → last_card front ≡ last → top 0 front ≡ cell_byte last
top_is front None none = ap (top 0) (empty_from_last front none)
top_is front (Some card) found = ap (top 0) (split_last front card found) ∙ top_pushed 0 card (without_last front)

add-zero : (n : ℕ) → n + 0 ≡ 0 + n
add-zero n = omega arith

total_pushed : (renaming : List ℕ) (on card : ℕ) (front : List ℕ) →
    column_total renaming on (front ++ card ∷ []) ≡ column_total renaming on front + term renaming (card + 1)
    (top on front)
total_pushed renaming on card [] = add-zero (term renaming (card + 1) on)
total_pushed renaming on card (first ∷ front) = let rest = total_pushed renaming (first + 1) card front in omega
    (arith, rest)

-- the place has room for a card
abbrev HasRoom : Board → Place → Type 0
HasRoom board (ToColumn column) = column < length board.columns
HasRoom board (ToCell cell) = (cell < length board.cells) × (cell_at board cell ≡ None)
HasRoom board Home = Unit {0}

module _ (renaming : List ℕ) where
  pushed : (card : ℕ) (front : List ℕ) →
      column_total renaming 0 (front ++ card ∷ []) ≡ column_total renaming 0 front + term renaming (card + 1)
      (cell_byte (last_card front))
  pushed card front = total_pushed renaming 0 card front
      ∙ ap (λ on. column_total renaming 0 front + term renaming (card + 1) on) (top_is front (last_card front) refl)

  no_card : cell_total renaming None ≡ 0
  no_card = omega arith

  goes_home : (card : ℕ) → term renaming card 54 ≡ 0
  goes_home card = omega arith

  taken_total : (board : Board) (from : Source) (card : ℕ) → card_at board from ≡ Some card →
      board_total board renaming ≡ board_total (taken_from board from) renaming + term renaming (card + 1)
      (lies_on board from)
  taken_total board (FromColumn column) card found =
      let was = column_at board column in
      let inside = inside_columns board.columns column card found in
      let set_there = sum_by-set (column_total renaming 0) board.columns column (without_last was) [] inside in
      let more = ap (column_total renaming 0) (split_last was card found) ∙ pushed card (without_last was) in
      omega (arith, set_there, more)
  taken_total board (FromCell cell) card found =
      let inside = inside_cells board.cells cell card found in
      let set_there = sum_by-set (cell_total renaming) board.cells cell None None inside in
      let held = ap (cell_total renaming) found in
      omega (arith, set_there, held, no_card)

  put_total : (board : Board) (card : ℕ) (to : Place) → HasRoom board to →
      board_total (put_on board card to) renaming ≡ board_total board renaming + term renaming (card + 1)
      (put_onto board to)
  put_total board card (ToColumn column) inside =
      let was = column_at board column in
      let set_there = sum_by-set (column_total renaming 0) board.columns column (was ++ card ∷ []) [] inside in
      omega (arith, set_there, pushed card was)
  put_total board card (ToCell cell) (inside, empty) =
      let set_there = sum_by-set (cell_total renaming) board.cells cell (Some card) None inside in
      let held = ap (cell_total renaming) empty in
      omega (arith, set_there, held, no_card)
  put_total board card Home room = omega (arith, goes_home (card + 1))

-- ---- a move changes a sum by one term
sum_moved : (before after out onto : ℕ) → after + out ≡ before + onto →
    after % 2 ^ 128 ≡ (before % 2 ^ 128 + (2 ^ 128 - out % 2 ^ 128) + onto) % 2 ^ 128
sum_moved before after out onto same = omega (arith, same)

module _ (game : Game) (board : Board) (well : IsWellFormed game board) where
  -- where the target is another pile, it is as it was when the card is taken
  room_left : (move : Move) (card : ℕ) → Fits game move → Offers board move card → MayGo game board card move.to
      → HasRoom (taken_from board move.from) move.to
  room_left move card fits offered goes = by move.from move.to fits offered goes
    where
      by : (from : Source) (to : Place) → Fits game (move_between from to) → Offers board (move_between from to) card
          → MayGo game board card to
          → HasRoom (taken_from board from) to
      by (FromColumn column) (ToColumn other) fits offered goes =
          omega (
            arith,
            fits.1,
            well.piles.eight_columns,
            length-set board.columns column
                (without_last (column_at board column)),
          )
      by (FromCell cell) (ToColumn other) fits offered goes = omega (arith, fits.1, well.piles.eight_columns)
      by (FromColumn column) (ToCell cell) fits offered goes = (omega (arith, fits.1, well.piles.all_cells), goes)
      by (FromCell cell) (ToCell other) fits offered goes = (
        omega (arith, fits.1, well.piles.all_cells, length-set board.cells cell None),
        get_or-set_other board.cells cell other None None (λ same. eqb-false cell other offered.0 (sym same)) ∙ goes,
      )
      by from Home fits offered goes = tt

  same_target : (move : Move) (card : ℕ) → Offers board move card → put_onto (taken_from board move.from) move.to
      ≡ put_onto board move.to
  same_target move card offered = by move.from move.to offered.0
    where
      by : (from : Source) (to : Place) → is_same_pile from to ≡ false → put_onto (taken_from board from) to
          ≡ put_onto board to
      by (FromColumn column) (ToColumn other) apart =
          ap (λ column. cell_byte (last_card column))
          (get_or-set_other board.columns column other (without_last (column_at board column)) []
          (λ same. eqb-false column other apart (sym same)))
      by (FromCell cell) (ToColumn other) apart = refl
      by from (ToCell cell) apart = refl
      by from Home apart = refl

  pub sum_after : (after : Board) (move : Move) (step : Step game board move after) (renaming : List ℕ) →
      class_sum after renaming ≡ moved_sum (step.card + 1) (lies_on board move.from) (put_onto board move.to) renaming
      (class_sum board renaming)
  sum_after after move step renaming =
      let card = step.card in
      let left = taken_from board move.from in
      let taken = taken_total renaming board move.from card step.offered.1 in
      let put = put_total renaming left card move.to (room_left move card step.fits step.offered step.goes)
      ∙ ap (λ on. board_total left renaming + term renaming (card + 1) on) (same_target move card step.offered) in
      let there = ap (λ board. board_total board renaming) step.moved in
      sum_moved (board_total board renaming) (board_total after renaming)
      (term renaming (card + 1) (lies_on board move.from)) (term renaming (card + 1) (put_onto board move.to))
      (omega (arith, taken, put, there))

-- ---- sums in two words
word_back : (sum : ℕ) → sum_in (words_of sum) ≡ sum
word_back sum = omega arith

words_back : (all : List ℕ) → map sum_in (map words_of all) ≡ all
words_back [] = refl
words_back (sum ∷ all) = ap₂ (λ (sum : ℕ) (all : List ℕ). sum ∷ all) (word_back sum) (words_back all)

pub sums_read : (renamings : List (List ℕ)) (all : List ℕ) (sums : ClassSums) → length all ≡ length renamings
    → AreSums all sums → sums_in renamings sums ≡ all
sums_read renamings all sums long are =
    let zeros : List ℕ = drop (length all) (replicate 24 0) in
    ap (λ words. map sum_in (take (length renamings) words)) are
    ∙ ap (map sum_in) (take-map words_of (length renamings) (padded 24 all)
    ∙ ap (λ n. map words_of (take n (padded 24 all))) (sym long)
    ∙ ap (map words_of) (take-append_seam all zeros))
    ∙ words_back all

module _ (all : List ℕ) (few : length all ≤ 24) where
  padded_long : length (padded 24 all) ≡ 24
  padded_long = omega (
    arith,
    few,
    length-append all (drop (length all) (replicate 24 0)),
    length-drop (length all)
        (replicate {A = ℕ} 24 0),
  )

  padded_here : (place : ℕ) → place < length all → get_or (padded 24 all) place 0 ≡ get_or all place 0
  padded_here place inside = get_or-append all (drop (length all) (replicate 24 0)) 0 place inside

  padded_past : (place : ℕ) → length all ≤ place → place < 24 → get_or (padded 24 all) place 0 ≡ 0
  padded_past place past inside =
      let there : length all + (place - length all) ≡ place = omega (arith, past) in
      get_or-append_right all (drop (length all) (replicate 24 0)) place 0 past
      ∙ get_or-drop (length all) (replicate 24 0) (place - length all) 0
      ∙ ap (λ k. get_or (replicate 24 0) k 0) there ∙ get_or-replicate 24 place 0 0 inside

  sum_at : (sums : ClassSums) (place : ℕ) → AreSums all sums → place < 24 → get_or sums.sums place []
      ≡ words_of (get_or (padded 24 all) place 0)
  sum_at sums place are inside = ap (λ words. get_or words place []) are
      ∙ get_or-map words_of (padded 24 all) place 0 [] (omega (arith, inside, padded_long))

-- sums that are moved as the board is are the sums of the board
pub sums_kept : (game : Game) (renamings : List (List ℕ)) (board after : Board) (move : Move)
    (step : Step game board move after) (old new : ClassSums) →
    IsWellFormed game board → length renamings ≤ 24 → AreSums (class_sums renamings board) old →
    AreMoved renamings (step.card + 1) (lies_on board move.from) (put_onto board move.to) old new
    → AreSums (class_sums renamings after) new
sums_kept game renamings board after move step old new well few are (long, left, moved) =
    let all = class_sums renamings board in
    let all' = class_sums renamings after in
    let n : length all ≡ length renamings = length-map renamings (class_sum board) in
    let n' : length all' ≡ length renamings = length-map renamings (class_sum after) in
    let old_long : length old.sums ≡ 24 = ap length are ∙ length-map (padded 24 all) words_of
    ∙ padded_long all (omega (arith, n, few)) in
    let new_long : length (map words_of (padded 24 all')) ≡ 24 = length-map (padded 24 all') words_of
    ∙ padded_long all' (omega (arith, n', few)) in
    ext_get_or [] new.sums (map words_of (padded 24 all')) (omega (arith, long, old_long, new_long)) (λ place inside.
    let within : place < 24 = omega (arith, inside, long, old_long) in
    let there = get_or-map words_of (padded 24 all') place 0 []
    (omega (arith, within, padded_long all' (omega (arith, n', few)))) in
    elim (cases_lt place (length renamings)) [
      | inl here ↦
          let renaming = get_or renamings place [] in
          let was : sum_in (get_or old.sums place []) ≡ class_sum board renaming =
          ap sum_in (sum_at all (omega (arith, n, few)) old place are within)
          ∙ word_back (get_or (padded 24 all) place 0)
          ∙ padded_here all (omega (arith, n, few)) place (omega (arith, here, n))
          ∙ get_or-map (class_sum board) renamings place [] 0 here in
          let now : get_or (padded 24 all') place 0 ≡ class_sum after renaming =
          padded_here all' (omega (arith, n', few)) place (omega (arith, here, n'))
          ∙ get_or-map (class_sum after) renamings place [] 0 here in
          moved place here
          ∙ ap (λ sum. words_of (moved_sum (step.card + 1) (lies_on board move.from)
          (put_onto board move.to) renaming sum)) was
          ∙ ap words_of (sym (sum_after game board well after move step renaming) ∙ sym now) ∙ sym there
      | inr past ↦
          let rest : length renamings + (place - length renamings) ≡ place = omega (arith, past) in
          let kept : get_or new.sums place [] ≡ get_or old.sums place [] =
          ap (λ k. get_or new.sums k []) (sym rest) ∙ sym
          (get_or-drop (length renamings) new.sums (place - length renamings) [])
          ∙ ap (λ sums. get_or sums (place - length renamings) []) left
          ∙ get_or-drop (length renamings) old.sums (place - length renamings) []
          ∙ ap (λ k. get_or old.sums k []) rest in
          kept ∙ sum_at all (omega (arith, n, few)) old place are within
          ∙ ap words_of (padded_past all (omega (arith, n, few)) place (omega (arith, past, n)) within
          ∙ sym (padded_past all' (omega (arith, n', few)) place (omega (arith, past, n')) within))
          ∙ sym there
    ])

-- ---- sums that are moved, none of which is kept
-- each is the sum of the board after the move
moved_each : (game : Game) (board after : Board) (move : Move) (step : Step game board move after)
    → IsWellFormed game board → (renamings : List (List ℕ)) →
    moved_sums renamings (step.card + 1) (lies_on board move.from) (put_onto board move.to) (class_sums renamings board)
    ≡ class_sums renamings after
moved_each game board after move step well [] = refl
moved_each game board after move step well (renaming ∷ renamings) =
    ap₂ (λ (sum : ℕ) (sums : List ℕ). sum ∷ sums) (sym (sum_after game board well after move step renaming))
    (moved_each game board after move step well renamings)

-- their hash is that of the board after the move
pub hash_of_child : (game : Game) (renamings : List (List ℕ)) (board after : Board) (move : Move)
    (step : Step game board move after) (sums : ClassSums) →
    IsWellFormed game board → AreSums (class_sums renamings board) sums →
    (child_hash renamings board sums move).hash ≡ class_hash renamings after
hash_of_child game renamings board after move step sums well are =
    let moved = λ (card : ℕ) (all : List ℕ).
    hash_of_sums (moved_sums renamings card (lies_on board move.from) (put_onto board move.to) all) in
    ap₂ moved (ap cell_byte step.offered.1)
    (sums_read renamings (class_sums renamings board) sums (length-map renamings (class_sum board)) are)
    ∙ ap hash_of_sums (moved_each game board after move step well renamings)

-- ---- what a legal move's card lies on
card_below : (column : List ℕ) (last : Option ℕ) → All IsCard column → last_card column ≡ last → cell_byte last ≤ 52
card_below column None are found = omega arith
card_below column (Some card) are found =
    let in_deck = All-head IsCard card [] (All-right IsCard (without_last column) (card ∷ [])
    (subst (All IsCard) (split_last column card found) are)) in
    omega (arith, in_deck)

module _ (game : Game) (board : Board) (well : IsWellFormed game board) where
  column_cards : (column : ℕ) → column < 8 → All IsCard (column_at board column)
  column_cards column inside = All-get_or (All IsCard) board.columns column []
      (omega (arith, inside, well.piles.eight_columns)) (in_columns game board well)

  taken_card : (from : Source) (card : ℕ) → SourceFits game from → card_at board from ≡ Some card → card + 1 ≤ 52
  taken_card (FromColumn column) card fits found = card_below (column_at board column) (Some card)
      (column_cards column fits) found
  taken_card (FromCell cell) card fits found =
      let in_deck : IsCell (Some card) =
      subst IsCell found (All-get_or IsCell board.cells cell None (omega (arith, fits, well.piles.all_cells))
      (in_cells game board well)) in
      omega (arith, in_deck)

  lies_below : (from : Source) → SourceFits game from → lies_on board from ≤ 53
  lies_below (FromColumn column) fits =
      let was = column_at board column in
      let left = without_last was in
      let below = card_below left (last_card left) (All-take IsCard (length was - 1) was
      (column_cards column fits)) refl in
      omega (arith, below)
  lies_below (FromCell cell) fits = omega arith

  put_below : (to : Place) → PlaceFits game to → put_onto board to ≤ 54
  put_below (ToColumn column) fits =
      let was = column_at board column in
      let below = card_below was (last_card was) (column_cards column fits) refl in
      omega (arith, below)
  put_below (ToCell cell) fits = omega arith
  put_below Home fits = omega arith

  pub can_move : (after : Board) (move : Move) (step : Step game board move after)
      → CanMove (step.card + 1) (lies_on board move.from) (put_onto board move.to)
  can_move after move step = (
    omega arith,
    taken_card move.from step.card step.fits.0 step.offered.1,
    omega (arith, lies_below move.from step.fits.0),
    put_below move.to step.fits.1,
  )
