-- Lemmas on boards: their parts, and how many cards are in play.
pub use Rattle.fc_card.proofs.CardSetLemmas.{count_of-append}
use Rattle.std.proofs.Common.{◌++◌, ◌+◌, ◌<◌, ◌||◌, ◌∙◌, ◌∷◌, ◌≡◌, ◌≤◌, [], All, arith, Bool, cond, eqb, false, get_or}
use Rattle.std.proofs.Common.{length, length-append, length-take-le, List, None, Option, refl, set, Some, suc, sym}
use Rattle.std.proofs.{Common.{take, true, zero, ℕ}, lemmas.{Bool.Decides.{nat_tests}, List.{drop_at}}}
use Rattle.std.proofs.lemmas.List.Elements.{All-cons, All-drop, All-head, All-nil, All-tail, All-take}
use Rattle.std.proofs.lemmas.{List.{Sums.{sum_by-cons}, take_at, take_more}, Map.Keys.{IsDistinct-cons}}
use Rattle.std.proofs.lemmas.Map.Steps.{length-le_from_distinct_below}
use Rattle.std.specs.{List.{AllByRecursion, flat_map, IsDistinct, list_any}, Option.{option_to_list}}
use Rattle.fc_card.specs.{count_of, IsCard}
use Rattle.fc_board.specs.{Boards.{Board, cards_in_play, IsWellFormed}, Games.{Game}, inside.{HasCard, size_of}}
use Rattle.fc_board.specs.{laws.ListWords.{IsCell}, Steps.{card_at, column_at, last_card}}
use Rattle.fc_board.specs.declared.moves.Source.{Source, TheVariants.{Cell as FromCell, Column as FromColumn}}

-- ---- lists that are gone through
-- the elements up to a place and the one that is there
pub up_to : {X : Type 0} (xs : List X) (i : ℕ) (x : X) → i < length xs → x ≡ get_or xs i x → take i xs ++ x ∷ [] ≡ take (i + 1) xs
up_to xs i x inside is = rw is (sym (take_more xs i x inside))

-- ---- lists whose elements meet a predicate

pub All-left : {X : Type 0} (P : X → Type 0) (xs ys : List X) → All P (xs ++ ys) → All P xs
All-left P xs ys are = rw (take_at xs ys (length xs) refl) at (All-take P (length xs) (xs ++ ys) are)

pub All-right : {X : Type 0} (P : X → Type 0) (xs ys : List X) → All P (xs ++ ys) → All P ys
All-right P xs ys are = rw (drop_at xs ys (length xs) refl) at (All-drop P (length xs) (xs ++ ys) are)

-- ---- the parts of a board

cells_of : (cells : List (Option ℕ)) → All IsCard (flat_map option_to_list cells) → All IsCell cells
cells_of [] are = All-nil IsCell
cells_of (None ∷ cells) are = All-cons IsCell None cells tt (cells_of cells are)
cells_of (Some card ∷ cells) are =
    All-cons IsCell (Some card) cells (All-head IsCard card (flat_map option_to_list cells) are) (cells_of cells (All-tail IsCard card (flat_map option_to_list cells) are))

pub all_cards : (columns : List (List ℕ)) → All IsCard (flat_map (λ column. column) columns) → All (All IsCard) columns
all_cards [] are = All-nil (All IsCard)
all_cards (column ∷ columns) are =
    All-cons (All IsCard) column columns (All-left IsCard column _ are) (all_cards columns (All-right IsCard column (flat_map (λ c. c) columns) are))

pub parts_same : (a b : Board) → a.heights ≡ b.heights → a.cells ≡ b.cells → a.columns ≡ b.columns → a ≡ b
parts_same a b p q r =
    let of_parts : List ℕ → List (Option ℕ) → List (List ℕ) → Board = λ hs cs ks. record { heights = hs; cells = cs; columns = ks } in
    rw (p, q, r)

pub in_cells : (game : Game) (board : Board) → IsWellFormed game board → All IsCell board.cells
in_cells game board well =
    cells_of board.cells (All-left IsCard (flat_map option_to_list board.cells) (flat_map (λ column. column) board.columns) well.cards)

pub in_columns : (game : Game) (board : Board) → IsWellFormed game board → All (All IsCard) board.columns
in_columns game board well =
    all_cards board.columns (All-right IsCard (flat_map option_to_list board.cells) (flat_map (λ column. column) board.columns) well.cards)

-- ---- no card is twice among the cards in play, so there are at most 52

pub count_of-cons : (card x : ℕ) (xs : List ℕ) → count_of card (x ∷ xs) ≡ cond (eqb x card) 1 0 + count_of card xs
count_of-cons card x xs = sum_by-cons (λ other. cond (eqb other card) 1 0) x xs

apart_step : (x y n : ℕ) → cond (eqb y x) 1 0 + n ≡ 0 → (eqb x y ≡ false) × (n ≡ 0)
apart_step x y n h = grind (arith, nat_tests)

apart : (x : ℕ) (xs : List ℕ) → count_of x xs ≡ 0 → AllByRecursion (λ y. eqb x y ≡ false) xs
apart x [] h = tt
apart x (y ∷ ys) h = let step = apart_step x y (count_of x ys) (sym (count_of-cons x y ys) ∙ h) in (step.0, apart x ys step.1)

itself : (x n : ℕ) → cond (eqb x x) 1 0 + n ≤ 1 → n ≡ 0
itself x n h = grind (arith, nat_tests)

tail_count : (card x n m : ℕ) → m ≡ cond (eqb x card) 1 0 + n → m ≤ 1 → n ≤ 1
tail_count card x n m e h = omega arith

IsDistinct-from_counts : (cards : List ℕ) → All IsCard cards → ((card : ℕ) → IsCard card → count_of card cards ≤ 1) → IsDistinct eqb cards
unfolding IsDistinct
IsDistinct-from_counts [] deck once = tt
IsDistinct-from_counts (x ∷ xs) deck once =
    let here : count_of x xs ≡ 0 = itself x (count_of x xs) (rw (count_of-cons x x xs) at (once x (All-head IsCard x xs deck))) in
    IsDistinct-cons eqb x xs (apart x xs here)
    (IsDistinct-from_counts xs (All-tail IsCard x xs deck) (λ card h. tail_count card x _ _ (count_of-cons card x xs) (once card h)))

either : (a b : Bool) (P : Type 0) → (a || b) ≡ true → (a ≡ true → P) → (b ≡ true → P) → P
either true b P h f g = f refl
either false b P h f g = g h

same_card : (x card : ℕ) → x < 52 → eqb card x ≡ true → card < 52
same_card x card small e = grind (arith, nat_tests)

member_is_card : (cards : List ℕ) → All IsCard cards → (card : ℕ) → list_any (eqb card) cards ≡ true → IsCard card
member_is_card [] deck card h = cc
member_is_card (x ∷ xs) deck card h =
    either (eqb card x) (list_any (eqb card) xs) (IsCard card) h (same_card x card (All-head IsCard x xs deck)) (member_is_card xs (All-tail IsCard x xs deck) card)

length-cards-le : (cards : List ℕ) → All IsCard cards → ((card : ℕ) → IsCard card → count_of card cards ≤ 1) → length cards ≤ 52
length-cards-le cards deck once = length-le_from_distinct_below cards 52 (IsDistinct-from_counts cards deck once) (member_is_card cards deck)

once_in_play : (game : Game) (board : Board) → IsWellFormed game board → (card : ℕ) → IsCard card → count_of card (cards_in_play board) ≤ 1
once_in_play game board well card h = let one = well.one_place card h in omega arith

pub length-cards_in_play : (game : Game) (board : Board) → IsWellFormed game board → length (cards_in_play board) ≤ 52
length-cards_in_play game board well = length-cards-le (cards_in_play board) well.cards (once_in_play game board well)

-- ---- the parts of a board as they lie in memory

-- the game's cells are as many as it has
pub game_cells : {X : Type 0} (cells : List X) (count game_count : ℕ) → length cells ≡ 8 → count ≤ 8 → game_count ≡ count →
    length (take count cells) ≡ game_count
game_cells cells count game_count eight few are = omega (arith, length-take-le count cells (omega arith))

-- no column has more cards than all of them together
pub short_columns : (columns : List (List ℕ)) (most : ℕ) → length (flat_map (λ column. column) columns) ≤ most →
    All (λ column. length column ≤ most) columns
short_columns [] most h = All-nil (λ column. length column ≤ most)
short_columns (column ∷ columns) most h =
    let together = length-append column (flat_map (λ column. column) columns) in
    All-cons (λ column. length column ≤ most) column columns (omega arith) (short_columns columns most (omega arith))

-- all columns together have no more cards than the deck
pub columns_together : (game : Game) (board : Board) → IsWellFormed game board → size_of board.columns ≤ 52
columns_together game board well =
    let together = length-append (flat_map option_to_list board.cells) (flat_map (λ (column : List ℕ). column) board.columns) in
    let few = length-cards_in_play game board well in
    omega arith

pub columns_in_deck : (game : Game) (board : Board) → IsWellFormed game board → All (λ column. length column ≤ 52) board.columns
columns_in_deck game board well = short_columns board.columns 52 (columns_together game board well)

-- one column is so much longer or shorter, and so are all together
pub size_of-set : (columns : List (List ℕ)) (i : ℕ) (column : List ℕ) → i < length columns →
    size_of (set columns i column) + length (get_or columns i []) ≡ size_of columns + length column
size_of-set [] i column inside = absurd (omega arith)
size_of-set (first ∷ columns) zero column inside =
    let others = flat_map (λ (column : List ℕ). column) columns in
    omega (arith, length-append first others, length-append column others)
size_of-set (first ∷ columns) (suc i) column inside =
    let rest = size_of-set columns i column (omega arith) in
    omega (arith, length-append first (flat_map (λ (column : List ℕ). column) (set columns i column)), length-append first (flat_map (λ (column : List ℕ). column) columns), rest)

-- a column from which a card can be taken has one
pub has_card : (board : Board) (source : Source) (card : ℕ) → card_at board source ≡ Some card → HasCard board.columns source
has_card board (FromColumn column) card found = some_card (column_at board column) found
  where
    some_card : (column : List ℕ) → last_card column ≡ Some card → 1 ≤ length column
    some_card [] found = cc
    some_card (x ∷ xs) found = omega arith
has_card board (FromCell cell) card found = tt
