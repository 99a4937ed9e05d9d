-- A step takes one card from where it is and puts it elsewhere, so each card of the deck stays in one place.
use Rattle.std.proofs.Common.{◌%◌, ◌++◌, ◌+◌, ◌-◌, ◌/◌, ◌<◌, ◌∙◌, ◌∷◌, ◌≡◌, [], All, ap, arith, cond, eqb, get_or, inl}
use Rattle.std.proofs.Common.{inr, leb, length, List, None, Option, refl, set, slice_index, Some, subst, suc, sym, zero}
use Rattle.std.proofs.{Common.{ℕ}, lemmas.{Bool.{cases_eq, cases_lt, Decides.{nat_tests}}, List.Elements.{All-append}}}
use Rattle.std.proofs.lemmas.List.Elements.{All-cons, All-get_or, All-head, All-nil, All-push, All-set, All-tail}
use Rattle.std.proofs.lemmas.List.{Elements.{All-take}, get_or-set_other, get_or-set_same, get_or_past, length-set}
use Rattle.std.proofs.lemmas.List.{Sums.{sum_by-cons, sum_by-set}, take_all, take_more}
use Rattle.std.{proofs.lemmas.Option.{get_or_from_slice_get, slice_get_within}, specs.List.{flat_map, sum_by}}
use Rattle.std.specs.Option.{option_to_list}
use Rattle.fc_card.specs.{count_of, IsCard, rank_of, suit_of}
use Rattle.fc_board.proofs.{BoardLemmas.{count_of-append, in_cells, in_columns}, StepLemmas.{heights_taken}}
use Rattle.fc_board.specs.Boards.{Board, cards_in_play, count_of_places, is_home, IsHeight, IsWellFormed}
use Rattle.fc_board.specs.{Games.{Game}, laws.ListWords.{IsCell}, Moves.{PlaceFits}, Steps.{card_at, cell_at}}
use Rattle.fc_board.specs.Steps.{column_at, height_of, last_card, MayGo, put_on, Step, taken_from, without_last}
use Rattle.fc_board.specs.declared.moves.{Move.{Move}, Place.{Place}}
use Rattle.fc_board.specs.declared.moves.{Place.TheVariants.{Cell as ToCell, Column as ToColumn, Home}, Source.{Source}}
use Rattle.fc_board.specs.declared.moves.Source.TheVariants.{Cell as FromCell, Column as FromColumn}

-- ---- the number of parts stays

abbrev pub SameSizes : Board → Board → Type 0
SameSizes a b = (length a.heights ≡ length b.heights) × (length a.cells ≡ length b.cells) × (length a.columns ≡ length b.columns)

pub sizes_taken : (board : Board) (source : Source) → SameSizes (taken_from board source) board
sizes_taken board (FromColumn column) = (refl, refl, length-set board.columns column (without_last (column_at board column)))
sizes_taken board (FromCell cell) = (refl, length-set board.cells cell None, refl)

pub sizes_put : (board : Board) (card : ℕ) (place : Place) → SameSizes (put_on board card place) board
sizes_put board card (ToColumn column) = (refl, refl, length-set board.columns column (column_at board column ++ card ∷ []))
sizes_put board card (ToCell cell) = (refl, length-set board.cells cell (Some card), refl)
sizes_put board card Home = (length-set board.heights (suit_of card) (height_of board (suit_of card) + 1), refl, refl)

-- ---- what is in the piles are cards

abbrev pub HoldsCards : Board → Type 0
HoldsCards board = All IsCell board.cells × All (All IsCard) board.columns

cards_from_cells : (cells : List (Option ℕ)) → All IsCell cells → All IsCard (flat_map option_to_list cells)
cards_from_cells [] are = All-nil IsCard
cards_from_cells (None ∷ cells) are = cards_from_cells cells (All-tail IsCell None cells are)
cards_from_cells (Some card ∷ cells) are =
    let later = cards_from_cells cells (All-tail IsCell (Some card) cells are) in
    All-cons IsCard card (flat_map option_to_list cells) (All-head IsCell (Some card) cells are) later

cards_from_columns : (columns : List (List ℕ)) → All (All IsCard) columns → All IsCard (flat_map (λ column. column) columns)
cards_from_columns [] are = All-nil IsCard
cards_from_columns (column ∷ columns) are =
    let later = cards_from_columns columns (All-tail (All IsCard) column columns are) in
    All-append IsCard column (flat_map (λ c. c) columns) (All-head (All IsCard) column columns are) later

all_in_play : (board : Board) → HoldsCards board → All IsCard (cards_in_play board)
all_in_play board holds =
    All-append IsCard (flat_map option_to_list board.cells) (flat_map (λ column. column) board.columns)
    (cards_from_cells board.cells holds.0) (cards_from_columns board.columns holds.1)

-- what holds of each element and of the default holds of what is read anywhere
at_or : {X : Type 0} (P : X → Type 0) (xs : List X) (i : ℕ) (d : X) → P d → All P xs → P (get_or xs i d)
at_or P xs i d otherwise are = elim (cases_lt i (length xs)) [
  | inl inside ↦ All-get_or P xs i d inside are
  | inr past ↦ rw (get_or_past xs i d past) otherwise
]

in_column : (board : Board) (column : ℕ) → HoldsCards board → All IsCard (column_at board column)
in_column board column holds = at_or (All IsCard) board.columns column [] (All-nil IsCard) holds.1

last_is_card : (column : List ℕ) (card : ℕ) → All IsCard column → last_card column ≡ Some card → IsCard card
last_is_card column card are e =
    subst IsCard (get_or_from_slice_get column (length column - 1) card card e)
    (All-get_or IsCard column (length column - 1) card (slice_get_within column (length column - 1) card e) are)

pub found_is_card : (board : Board) (source : Source) (card : ℕ) → HoldsCards board → card_at board source ≡ Some card → IsCard card
found_is_card board (FromColumn column) card holds e = last_is_card (column_at board column) card (in_column board column holds) e
found_is_card board (FromCell cell) card holds e = rw e at (at_or IsCell board.cells cell None tt holds.0)

holds_taken : (board : Board) (source : Source) → HoldsCards board → HoldsCards (taken_from board source)
holds_taken board (FromColumn column) holds = (
  holds.0,
  All-set (All IsCard) board.columns column (without_last (column_at board column))
      (All-take IsCard (length (column_at board column) - 1) (column_at board column) (in_column board column holds)) holds.1,
)
holds_taken board (FromCell cell) holds = (All-set IsCell board.cells cell None tt holds.0, holds.1)

holds_put : (board : Board) (card : ℕ) (place : Place) → IsCard card → HoldsCards board → HoldsCards (put_on board card place)
holds_put board card (ToColumn column) is holds =
    (holds.0, All-set (All IsCard) board.columns column (column_at board column ++ card ∷ []) (All-push IsCard (column_at board column) card (in_column board column holds) is) holds.1)
holds_put board card (ToCell cell) is holds = (All-set IsCell board.cells cell (Some card) is holds.0, holds.1)
holds_put board card Home is holds = holds

-- ---- how often a card is in play

-- 1 if the cards are the same
abbrev pub one_if_same : ℕ → ℕ → ℕ
one_if_same card other = cond (eqb other card) 1 0

count_of-flat_map : {X : Type 0} (card : ℕ) (cards : X → List ℕ) (piles : List X) →
    count_of card (flat_map cards piles) ≡ sum_by (λ pile. count_of card (cards pile)) piles
count_of-flat_map card cards [] = refl
count_of-flat_map card cards (pile ∷ piles) =
    let all = sum_by-cons (λ p. count_of card (cards p)) pile piles in
    rw (count_of-append card (cards pile) (flat_map cards piles), count_of-flat_map card cards piles, all)

-- when one pile gives way to another
count_of-set : {X : Type 0} (card : ℕ) (cards : X → List ℕ) (piles : List X) (i : ℕ) (pile blank : X) → i < length piles →
    count_of card (flat_map cards (set piles i pile)) + count_of card (cards (get_or piles i blank)) ≡ count_of card (flat_map cards piles) + count_of card (cards pile)
count_of-set card cards piles i pile blank inside =
    ap (λ n. n + count_of card (cards (get_or piles i blank))) (count_of-flat_map card cards (set piles i pile)) ∙
    sum_by-set (λ p. count_of card (cards p)) piles i pile blank inside ∙
    ap (λ n. n + count_of card (cards pile)) (sym (count_of-flat_map card cards piles))

count_of-one : (card other : ℕ) → count_of card (other ∷ []) ≡ one_if_same card other
count_of-one card other = omega (arith, sum_by-cons (λ c. cond (eqb c card) 1 0) other [])

count_in_play : (card : ℕ) (board : Board) →
    count_of card (cards_in_play board) ≡ count_of card (flat_map option_to_list board.cells) + count_of card (flat_map (λ column. column) board.columns)
count_in_play card board = count_of-append card (flat_map option_to_list board.cells) (flat_map (λ column. column) board.columns)

pub split_last : (column : List ℕ) (card : ℕ) → last_card column ≡ Some card → column ≡ without_last column ++ card ∷ []
split_last column card e =
    let inside = slice_get_within column (length column - 1) card e in
    sym (take_all (length column - 1 + 1) column (omega arith)) ∙ take_more column (length column - 1) card inside ∙
    ap (λ last. without_last column ++ last ∷ []) (get_or_from_slice_get column (length column - 1) card card e)

count_of-last : (card other : ℕ) (column : List ℕ) → last_card column ≡ Some other →
    count_of card column ≡ count_of card (without_last column) + one_if_same card other
count_of-last card other column e =
    ap (count_of card) (split_last column other e) ∙ count_of-append card (without_last column) (other ∷ []) ∙
    ap (λ n. count_of card (without_last column) + n) (count_of-one card other)

-- a pile that is not the default is there
pub inside_columns : (columns : List (List ℕ)) (i card : ℕ) → last_card (get_or columns i []) ≡ Some card → i < length columns
inside_columns columns i card e = elim (cases_lt i (length columns)) [
  | inl inside ↦ inside
  | inr past ↦ absurd (cc (sym (ap last_card (get_or_past columns i [] past)) ∙ e))
]

pub inside_cells : (cells : List (Option ℕ)) (i card : ℕ) → get_or cells i None ≡ Some card → i < length cells
inside_cells cells i card e = elim (cases_lt i (length cells)) [
  | inl inside ↦ inside
  | inr past ↦ absurd (cc (sym (get_or_past cells i None past) ∙ e))
]

pub count_taken : (card : ℕ) (board : Board) (source : Source) (other : ℕ) → card_at board source ≡ Some other →
    count_of card (cards_in_play (taken_from board source)) + one_if_same card other ≡ count_of card (cards_in_play board)
count_taken card board (FromColumn column) other e =
    let change =
    count_of-set card (λ c. c) board.columns column (without_last (column_at board column)) [] (inside_columns board.columns column other e) in
    let last = count_of-last card other (column_at board column) e in
    let before = count_in_play card board in
    let after = count_in_play card (taken_from board (FromColumn column)) in
    omega arith
count_taken card board (FromCell cell) other e =
    let change = count_of-set card option_to_list board.cells cell None None (inside_cells board.cells cell other e) in
    let held = ap (λ held. count_of card (option_to_list held)) e ∙ count_of-one card other in
    let before = count_in_play card board in
    let after = count_in_play card (taken_from board (FromCell cell)) in
    omega arith

-- ---- in how many places a card is

-- 1 if the card is home
abbrev pub one_if_home : List ℕ → ℕ → ℕ
one_if_home heights card = cond (is_home heights card) 1 0

-- of the cards of the foundation's suit the next one is home too
home_in_suit : (card other height : ℕ) → card % 4 ≡ other % 4 → height + 1 ≡ other / 4 + 1 →
    cond (leb (card / 4 + 1) (height + 1)) 1 0 ≡ cond (leb (card / 4 + 1) height) 1 0 + cond (eqb other card) 1 0
home_in_suit card other height same next = grind (arith, nat_tests)

home_elsewhere : (card other n : ℕ) → (card % 4 ≡ other % 4 → ⊥) → n ≡ n + cond (eqb other card) 1 0
home_elsewhere card other n apart = grind (arith, nat_tests)

home_put : (card other : ℕ) (heights : List ℕ) → length heights ≡ 4 → slice_index heights (suit_of other) + 1 ≡ rank_of other →
    one_if_home (set heights (suit_of other) (slice_index heights (suit_of other) + 1)) card ≡ one_if_home heights card + one_if_same card other
home_put card other heights four next = elim (cases_eq (suit_of card) (suit_of other)) [
  | inl same ↦
      let height = slice_index heights (suit_of other) in
      let higher =
      ap (slice_index (set heights (suit_of other) (height + 1))) same ∙ get_or-set_same heights (suit_of other) (height + 1) 0 (omega arith) in
      ap (λ h. cond (leb (rank_of card) h) 1 0) higher ∙ home_in_suit card other height same next ∙
      ap (λ h. cond (leb (rank_of card) h) 1 0 + one_if_same card other) (sym (ap (slice_index heights) same))
  | inr apart ↦
      ap (λ h. cond (leb (rank_of card) h) 1 0) (get_or-set_other heights (suit_of other) (suit_of card) (slice_index heights (suit_of other) + 1) 0 apart) ∙
      home_elsewhere card other (one_if_home heights card) apart
]

-- the target is there, and takes a card
abbrev pub Takes : Board → ℕ → Place → Type 0
Takes board card (ToColumn column) = column < length board.columns
Takes board card (ToCell cell) = (cell < length board.cells) × (cell_at board cell ≡ None)
Takes board card Home = (length board.heights ≡ 4) × (height_of board (suit_of card) + 1 ≡ rank_of card)

count_put : (card : ℕ) (board : Board) (other : ℕ) (place : Place) → Takes board other place →
    count_of_places (put_on board other place) card ≡ count_of_places board card + one_if_same card other
count_put card board other (ToColumn column) takes =
    let change = count_of-set card (λ c. c) board.columns column (column_at board column ++ other ∷ []) [] takes in
    let longer =
    count_of-append card (column_at board column) (other ∷ []) ∙ ap (λ n. count_of card (column_at board column) + n) (count_of-one card other) in
    let before = count_in_play card board in
    let after = count_in_play card (put_on board other (ToColumn column)) in
    omega arith
count_put card board other (ToCell cell) takes =
    let change = count_of-set card option_to_list board.cells cell (Some other) None takes.0 in
    let held = ap (λ held. count_of card (option_to_list held)) takes.1 in
    let one = count_of-one card other in
    let before = count_in_play card board in
    let after = count_in_play card (put_on board other (ToCell cell)) in
    omega arith
count_put card board other Home takes =
    let home = home_put card other board.heights takes.0 takes.1 in
    omega arith

-- ---- the deck stays whole

empty_after : (cells : List (Option ℕ)) (i j : ℕ) → get_or cells j None ≡ None → get_or (set cells i None) j None ≡ None
empty_after [] i j e = e
empty_after (cell ∷ cells) zero zero e = refl
empty_after (cell ∷ cells) zero (suc j) e = e
empty_after (cell ∷ cells) (suc i) zero e = e
empty_after (cell ∷ cells) (suc i) (suc j) e = empty_after cells i j e

still_empty : (board : Board) (source : Source) (cell : ℕ) → cell_at board cell ≡ None → cell_at (taken_from board source) cell ≡ None
still_empty board (FromColumn column) cell e = e
still_empty board (FromCell other) cell e = empty_after board.cells other cell e

takes_after : (game : Game) (board : Board) (source : Source) (card : ℕ) (place : Place) → IsWellFormed game board → PlaceFits game place →
    MayGo game board card place → Takes (taken_from board source) card place
takes_after game board source card (ToColumn column) well fits goes =
    let sizes = sizes_taken board source in let eight = well.piles.eight_columns in omega arith
takes_after game board source card (ToCell cell) well fits goes =
    let sizes = sizes_taken board source in
    let cells = well.piles.all_cells in
    (omega arith, still_empty board source cell goes)
takes_after game board source card Home well fits goes =
    ((sizes_taken board source).0 ∙ well.piles.four_foundations, rw (heights_taken board source) goes)

places_taken : (card : ℕ) (board : Board) (source : Source) (other : ℕ) → card_at board source ≡ Some other →
    count_of_places (taken_from board source) card + one_if_same card other ≡ count_of_places board card
places_taken card board source other e =
    let taken = count_taken card board source other e in
    let home : one_if_home (taken_from board source).heights card ≡ one_if_home board.heights card =
    ap (λ heights. one_if_home heights card) (heights_taken board source) in
    omega arith

high_enough : (board : Board) (card : ℕ) (place : Place) → IsCard card → Takes board card place → All IsHeight board.heights →
    All IsHeight (put_on board card place).heights
high_enough board card (ToColumn column) is takes heights = heights
high_enough board card (ToCell cell) is takes heights = heights
high_enough board card Home is takes heights =
    All-set IsHeight board.heights (suit_of card) (height_of board (suit_of card) + 1) (let next = takes.1 in omega arith) heights

well_after : (game : Game) (board : Board) (source : Source) (card : ℕ) (place : Place) → IsWellFormed game board → card_at board source ≡ Some card →
    PlaceFits game place → MayGo game board card place → IsWellFormed game (put_on (taken_from board source) card place)
well_after game board source card place well found fits goes =
    let holds : HoldsCards board = (in_cells game board well, in_columns game board well) in
    let taken = taken_from board source in
    let is = found_is_card board source card holds found in
    let takes = takes_after game board source card place well fits goes in
    let one = sizes_taken board source in
    let two = sizes_put taken card place in
    record {
      piles = record {
        four_foundations = two.0 ∙ one.0 ∙ well.piles.four_foundations;
        all_cells = two.1 ∙ one.1 ∙ well.piles.all_cells;
        eight_columns = two.2 ∙ one.2 ∙ well.piles.eight_columns;
      };
      heights = high_enough taken card place is takes (rw (heights_taken board source) well.heights);
      cards = all_in_play (put_on taken card place) (holds_put taken card place is (holds_taken board source holds));
      one_place = λ other in_deck.
          count_put other taken card place takes ∙ places_taken other board source card found ∙ well.one_place other in_deck;
    }

pub stays_well_formed : (game : Game) (board after : Board) (move : Move) → IsWellFormed game board → Step game board move after →
    IsWellFormed game after
stays_well_formed game board after move well step =
    rw step.moved (well_after game board move.from step.card move.to well step.offered.1 step.fits.1 step.goes)
