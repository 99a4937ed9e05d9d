-- A deal is the deck in another order: each card that is dealt is taken out of the deck, and the last one takes its place.
use Rattle.{arrayvec.specs.ArrayVec.{ArrayVec}, fc_card.specs.{count_of, IsCard, places}}
use Rattle.std.proofs.Common.{◌%◌, ◌++◌, ◌+◌, ◌-◌, ◌/◌, ◌<◌, ◌∙◌, ◌∷◌, ◌≡◌, ◌≤◌, [], ap, arith, Bool, cond, false}
use Rattle.std.proofs.Common.{get_or, length, length-set, length-take, List, refl, set, suc, sym, take, true, zero, ℕ}
use Rattle.std.proofs.lemmas.{Bool.{agree_below, agree_below_at, eqb-true, lt-leb}, List.{ext_get_or}}
use Rattle.std.proofs.lemmas.List.FromFn.{get_or-map-range_with_len, length-map-range_with_len}
use Rattle.std.proofs.lemmas.List.{get_or-replicate, get_or_default, Sorted.{IsPermutation-cons, IsPermutation-refl}}
use Rattle.std.proofs.lemmas.List.Sorted.{IsPermutation-swap_remove, IsPermutation-trans, length_permutation}
use Rattle.std.proofs.lemmas.List.{Sorted.{sum_by-IsPermutation}, take-replicate}
use Rattle.std.specs.{List.{count_by, filter, flat_map, Sorted.{IsPermutation}, swap_remove}, Option.{option_to_list}}
use Rattle.std.specs.Prelude.{◌==◌, map, nat_le, None, Option, replicate, slice_index}
use Rattle.fc_board.proofs.BoardLemmas.{count_of-append}
use Rattle.fc_board.specs.Boards.{Board, board_of_parts, cards_in_play, HasEachCardOnce, is_home}
use Rattle.fc_deal.specs.{deal, dealt, dealt_board, dealt_column, deck, next_state, place_drawn}

length-swap_remove : (cards : List ℕ) (place card left : ℕ) → length cards ≡ suc left → length (swap_remove cards place card) ≡ left
length-swap_remove cards place card left e =
    let last = get_or cards (length cards - 1) card in
    let taken = length-take (length cards - 1) (set cards place last) in
    let same = length-set cards place last in
    omega arith

place_within : (next left : ℕ) (cards : List ℕ) → length cards ≡ suc left → place_drawn next (suc left) < length cards
place_within next left cards e = omega arith

pub IsPermutation-dealt : (left state : ℕ) (cards : List ℕ) → length cards ≡ left → IsPermutation cards (dealt left state cards)
IsPermutation-dealt zero state [] e = IsPermutation-refl []
IsPermutation-dealt zero state (card ∷ cards) e = absurd (omega arith)
IsPermutation-dealt (suc left) state cards e =
    let next = next_state state in
    let place = place_drawn next (suc left) in
    let card = get_or cards place 0 in
    let rest = swap_remove cards place card in
    let within = place_within next left cards e in
    IsPermutation-trans cards (card ∷ rest) (card ∷ dealt left next rest)
    (IsPermutation-swap_remove cards place card within (get_or_default cards place 0 card within))
    (IsPermutation-cons card rest (dealt left next rest) (IsPermutation-dealt left next rest (length-swap_remove cards place card left e)))

pub IsPermutation-deal : (number : ℕ) → IsPermutation deck (deal number)
unfolding deal
IsPermutation-deal number = IsPermutation-dealt 52 number deck refl

pub length-deal : (number : ℕ) → length (deal number) ≡ 52
length-deal number = length_permutation deck (deal number) (IsPermutation-deal number)

deck_has_each_once : agree_below (λ card. count_by (λ other. other == card) deck == 1) (λ _. true) 52 ≡ true
deck_has_each_once = refl

pub count_by-deal : (number card : ℕ) → IsCard card → count_by (λ other. other == card) (deal number) ≡ 1
count_by-deal number card in_deck =
    sum_by-IsPermutation (λ other. cond (other == card) 1 0) deck (deal number) (IsPermutation-deal number)
    ∙ eqb-true _ 1 (agree_below_at (λ card. count_by (λ other. other == card) deck == 1) (λ _. true) 52 card deck_has_each_once in_deck)

-- ---- the board of a deal holds each card once: each place of the deal leaves one remainder by eight

-- the parts of which the board is made
pub board_of_parts-dealt : (cells count nothing : ℕ) (cards deck : List ℕ) (columns : List (ArrayVec ℕ)) → count ≡ cells → cells ≤ 8 → nothing ≡ 0 → cards ≡ deck →
    map (λ column. column.items) columns ≡ map (dealt_column cards) (places 8) → board_of_parts cells (replicate 4 nothing) (replicate 8 None) columns ≡ dealt_board count deck
board_of_parts-dealt cells count nothing cards deck columns same few low are dealt =
    let board : List ℕ → List (Option ℕ) → List (List ℕ) → Board = λ h e c. record { heights = h; cells = e; columns = c } in
    ap (λ h. board (replicate 4 h) (take cells (replicate 8 None)) (map (λ column. column.items) columns)) low
    ∙ ap (λ e. board (replicate 4 0) e (map (λ column. column.items) columns)) (take-replicate cells 8 None few ∙ ap (λ n. replicate n None) (sym same))
    ∙ ap (board (replicate 4 0) (replicate count None)) (dealt ∙ ap (λ c. map (dealt_column c) (places 8)) are)

nothing_home : (card : ℕ) → is_home (replicate 4 0) card ≡ false
nothing_home card = ap (nat_le (card / 4 + 1)) (get_or-replicate 4 (card % 4) 0 0 (omega arith)) ∙ lt-leb (card / 4 + 1) 0 (omega arith)

abbrev no_cards : ℕ → List (Option ℕ)
no_cards cells = replicate cells None

nothing_in_cells : (cells : ℕ) → flat_map option_to_list (no_cards cells) ≡ []
nothing_in_cells zero = refl
nothing_in_cells (suc cells) = nothing_in_cells cells

-- the cards of these places of the deal, where they lie in this column
abbrev pile : List ℕ → List ℕ → ℕ → List ℕ
pile cards order column = map (slice_index cards) (filter (λ place. place % 8 == column) order)

place_counted : (card : ℕ) (cards order : List ℕ) (place : ℕ) (here : Bool) →
    count_of card (map (slice_index cards) (cond here (place ∷ order) order)) ≡ cond here (count_of card (slice_index cards place ∷ [])) 0 + count_of card (map (slice_index cards) order)
place_counted card cards order place true = count_of-append card (slice_index cards place ∷ []) (map (slice_index cards) order)
place_counted card cards order place false = omega arith

-- how often the card lies on the eight columns
abbrev on_columns : ℕ → List ℕ → List ℕ → ℕ
on_columns card cards order =
    count_of card (pile cards order 0) + count_of card (pile cards order 1) + count_of card (pile cards order 2) + count_of card (pile cards order 3)
    + count_of card (pile cards order 4) + count_of card (pile cards order 5) + count_of card (pile cards order 6) + count_of card (pile cards order 7)

-- a remainder by eight is one of eight
one_column : (r n : ℕ) → r < 8 →
    cond (r == 0) n 0 + cond (r == 1) n 0 + cond (r == 2) n 0 + cond (r == 3) n 0 + cond (r == 4) n 0 + cond (r == 5) n 0 + cond (r == 6) n 0 + cond (r == 7) n 0 ≡ n
one_column zero n h = omega arith
one_column (suc zero) n h = omega arith
one_column (suc (suc zero)) n h = omega arith
one_column (suc (suc (suc zero))) n h = omega arith
one_column (suc (suc (suc (suc zero)))) n h = omega arith
one_column (suc (suc (suc (suc (suc zero))))) n h = omega arith
one_column (suc (suc (suc (suc (suc (suc zero)))))) n h = omega arith
one_column (suc (suc (suc (suc (suc (suc (suc zero))))))) n h = omega arith
one_column (suc (suc (suc (suc (suc (suc (suc (suc r)))))))) n h = absurd (omega arith)

on_columns-all : (card : ℕ) (cards order : List ℕ) → on_columns card cards order ≡ count_of card (map (slice_index cards) order)
on_columns-all card cards [] = refl
on_columns-all card cards (place ∷ order) =
    let one : ℕ → ℕ = λ column. cond (place % 8 == column) (count_of card (slice_index cards place ∷ [])) 0 in
    let at : (column : ℕ) → count_of card (pile cards (place ∷ order) column) ≡ one column + count_of card (pile cards order column) =
    λ column. place_counted card cards (filter (λ other. other % 8 == column) order) place (place % 8 == column) in
    let rest = on_columns-all card cards order in
    let here = one_column (place % 8) (count_of card (slice_index cards place ∷ [])) (omega arith) in
    let both = count_of-append card (slice_index cards place ∷ []) (map (slice_index cards) order) in
    omega (arith, at 0, at 1, at 2, at 3, at 4, at 5, at 6, at 7, rest, here, both)

count_of-eight : (card : ℕ) (a b c d e f g h : List ℕ) → count_of card (a ++ (b ++ (c ++ (d ++ (e ++ (f ++ (g ++ (h ++ []))))))))
    ≡ count_of card a + count_of card b + count_of card c + count_of card d + count_of card e + count_of card f + count_of card g + count_of card h
count_of-eight card a b c d e f g h = omega (
  arith,
  count_of-append card a (b ++ (c ++ (d ++ (e ++ (f ++ (g ++ (h ++ []))))))),
  count_of-append card b (c ++ (d ++ (e ++ (f ++ (g ++ (h ++ [])))))),
  count_of-append card c (d ++ (e ++ (f ++ (g ++ (h ++ []))))),
  count_of-append card d (e ++ (f ++ (g ++ (h ++ [])))),
  count_of-append card e (f ++ (g ++ (h ++ []))),
  count_of-append card f (g ++ (h ++ [])),
  count_of-append card g (h ++ []),
  count_of-append card h [],
)

cards_in_order : (cards : List ℕ) → map (slice_index cards) (places (length cards)) ≡ cards
cards_in_order cards =
    let size = length-map-range_with_len (slice_index cards) 0 (length cards) in
    ext_get_or 0 (map (slice_index cards) (places (length cards))) cards size (λ i h.
    get_or-map-range_with_len (slice_index cards) 0 (length cards) i i 0 (omega arith) (omega arith))

-- the columns of the board hold each card as often as the deal does
columns_hold : (card : ℕ) (cards : List ℕ) → count_of card (flat_map (λ column. column) (map (dealt_column cards) (places 8))) ≡ count_of card cards
columns_hold card cards =
    count_of-eight card (dealt_column cards 0) (dealt_column cards 1) (dealt_column cards 2) (dealt_column cards 3)
    (dealt_column cards 4) (dealt_column cards 5) (dealt_column cards 6) (dealt_column cards 7)
    ∙ on_columns-all card cards (places (length cards))
    ∙ ap (count_of card) (cards_in_order cards)

pub HasEachCardOnce-dealt : (cells : ℕ) (cards : List ℕ) → ((card : ℕ) → IsCard card → count_of card cards ≡ 1) → HasEachCardOnce (dealt_board cells cards)
HasEachCardOnce-dealt cells cards once = λ card in_deck.
    ap (λ b. cond b 1 0 + count_of card (cards_in_play (dealt_board cells cards))) (nothing_home card)
    ∙ ap (λ held. 0 + count_of card (held ++ flat_map (λ column. column) (dealt_board cells cards).columns)) (nothing_in_cells cells)
    ∙ ap (λ n. 0 + n) (columns_hold card cards)
    ∙ omega (arith, once card in_deck)
