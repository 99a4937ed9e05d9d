-- A won board has no card to take, since all cards are home, and a board with all cards home is won.
use Rattle.std.proofs.Common.{◌%◌, ◌+◌, ◌/◌, ◌<◌, ◌∙◌, ◌∷◌, ◌≡◌, ◌≤◌, [], All, ap, arith, cond, leb, List, refl}
use Rattle.std.proofs.{Common.{slice_index, suc, sym, true, zero, ℕ}, lemmas.Bool.Decides.{nat_tests}}
use Rattle.std.proofs.lemmas.List.{Elements.{All-get_or, All-head}, ext_get_or}
use Rattle.{fc_board.specs.declared.moves.Move.{Move}, fc_card.specs.{count_of, IsCard, suit_of}}
use Rattle.fc_board.proofs.BoardLemmas.{count_of-cons, in_cells, in_columns}
use Rattle.fc_board.proofs.DeckLemmas.{count_taken, found_is_card, one_if_home, one_if_same}
use Rattle.fc_board.specs.{Boards.{Board, cards_in_play, IsHeight, IsWellFormed}, Games.{Game}, Play.{IsWon}}
use Rattle.fc_board.specs.Steps.{Step}

pub won_height : (suit : ℕ) → suit < 4 → slice_index (13 ∷ 13 ∷ 13 ∷ 13 ∷ []) suit ≡ 13
won_height zero below = refl
won_height (suc zero) below = refl
won_height (suc (suc zero)) below = refl
won_height (suc (suc (suc zero))) below = refl
won_height (suc (suc (suc (suc suit)))) below = absurd (omega arith)

low_enough : (card height : ℕ) → card < 52 → height ≡ 13 → leb (card / 4 + 1) height ≡ true
low_enough card height is won = grind (arith, nat_tests)

all_home : (board : Board) (card : ℕ) → IsWon board → IsCard card → one_if_home board.heights card ≡ 1
all_home board card won is =
    ap (λ home. cond home 1 0)
    (low_enough card (slice_index board.heights (suit_of card)) is (ap (λ heights. slice_index heights (suit_of card)) won ∙ won_height (suit_of card) (omega arith)))

itself_once : (card : ℕ) → one_if_same card card ≡ 1
itself_once card = grind (arith, nat_tests)

pub nothing_left : (game : Game) (board after : Board) (move : Move) → IsWellFormed game board → IsWon board → Step game board move after → ⊥
nothing_left game board after move well won step =
    let is = found_is_card board move.from step.card (in_cells game board well, in_columns game board well) step.offered.1 in
    let taken = count_taken step.card board move.from step.card step.offered.1 in
    let itself = itself_once step.card in
    let home = all_home board step.card won is in
    let one = well.one_place step.card is in
    omega arith

-- ---- won, exactly if no card is in play

none_in_play : (game : Game) (board : Board) → IsWellFormed game board → IsWon board → (card : ℕ) → IsCard card →
    count_of card (cards_in_play board) ≡ 0
none_in_play game board well won card is =
    let home = all_home board card won is in
    let one = well.one_place card is in
    omega arith

empty_from_counts : (cards : List ℕ) → All IsCard cards → ((card : ℕ) → IsCard card → count_of card cards ≡ 0) → cards ≡ []
empty_from_counts [] are none = refl
empty_from_counts (card ∷ cards) are none =
    let itself = itself_once card in
    let here = none card (All-head IsCard card cards are) in
    absurd (omega (arith, count_of-cons card card cards))

pub all_cards_home : (game : Game) (board : Board) → IsWellFormed game board → IsWon board → cards_in_play board ≡ []
all_cards_home game board well won = empty_from_counts (cards_in_play board) well.cards (none_in_play game board well won)

-- where the king is home, the foundation is full
full : (height suit : ℕ) → suit < 4 → height ≤ 13 → cond (leb ((48 + suit) / 4 + 1) height) 1 0 + 0 ≡ 1 → height ≡ 13
full height suit below high home = grind (arith, nat_tests)

king_suit : (suit : ℕ) → suit < 4 → (48 + suit) % 4 ≡ suit
king_suit suit below = omega arith

full_foundation : (game : Game) (board : Board) → IsWellFormed game board → cards_in_play board ≡ [] → (suit : ℕ) → suit < 4 →
    slice_index board.heights suit ≡ 13
full_foundation game board well home suit below =
    let one = well.one_place (48 + suit) (omega arith) in
    let none : count_of (48 + suit) (cards_in_play board) ≡ 0 = ap (count_of (48 + suit)) home in
    let four = well.piles.four_foundations in
    let king : one_if_home board.heights (48 + suit) + 0 ≡ 1 = omega arith in
    full (slice_index board.heights suit) suit below (All-get_or IsHeight board.heights suit 0 (omega arith) well.heights)
    (rw (king_suit suit below) at king)

pub won_if_home : (game : Game) (board : Board) → IsWellFormed game board → cards_in_play board ≡ [] → IsWon board
won_if_home game board well home =
    let four = well.piles.four_foundations in
    ext_get_or 0 board.heights (13 ∷ 13 ∷ 13 ∷ 13 ∷ []) four
    (λ suit inside. full_foundation game board well home suit (omega arith) ∙ sym (won_height suit (omega arith)))
