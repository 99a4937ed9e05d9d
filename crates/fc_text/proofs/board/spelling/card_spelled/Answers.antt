use Rattle.std.proofs.Common.{◌*◌, ◌+◌, ◌-◌, ◌<◌, ◌∙◌, ◌∷◌, ◌≡◌, ◌≤◌, [], ap, ap₂, arith, drop, length, List, None}
use Rattle.std.proofs.Common.{Option, refl, slice_index_or, Some, sym, take, ℕ}
use Rattle.std.specs.Option.{option_and_then, option_map, SomeIff}
use Rattle.fc_card.specs.{card_of, IsCard}
use Rattle.fc_text.proofs.CardLemmas.{rank-below, suit-below}
use Rattle.fc_text.specs.Spelling.{card_spelled, rank_spelled, suit_spelled}
use Rattle.fc_text.proofs.board.spelling.card_spelled.Goals as goal

two_letters : (word : List ℕ) → 2 ≤ length word → length word < 3 → word ≡ slice_index_or word 0 0 ∷ slice_index_or word 1 0 ∷ []
two_letters [] some few = absurd (omega (arith, some))
two_letters (rank ∷ []) some few = absurd (omega (arith, some))
two_letters (rank ∷ suit ∷ []) some few = refl
two_letters (rank ∷ suit ∷ more ∷ rest) some few = absurd (omega (arith, few))

abbrev with_suit : ℕ → Option ℕ → Option ℕ
with_suit rank suit = option_map (λ suit. card_of (rank + 1) suit) suit

abbrev with_rank : List ℕ → Option ℕ → Option ℕ
with_rank back rank = option_and_then (λ rank. with_suit rank (suit_spelled back)) rank

parts : (word front back : List ℕ) (at : ℕ) → front ≡ take at word → back ≡ drop at word → at ≡ length word - 1 → with_rank back (rank_spelled front) ≡ card_spelled word
parts word front back at e e' last =
    ap₂ (λ front back. with_rank back (rank_spelled front)) e e' ∙ ap (λ at. with_rank (drop at word) (rank_spelled (take at word))) last

card_there : (card : Option ℕ) (rank suit : ℕ) → IsCard (4 * rank + suit) → SomeIff card (IsCard (4 * rank + suit)) (4 * rank + suit) → card ≡ Some (card_of (rank + 1) suit)
card_there None rank suit is out = absurd (out is)
card_there (Some card) rank suit is (_, e) = ap (λ n. Some n) (e ∙ omega arith)

pub returns-in-Some : goal.returns-in-Some
returns-in-Some c = sym c.in-Some.ensures ∙ ap card_spelled (sym (two_letters c.args.word.now c.in-len2.len_at_least c.in-len2.len_below))

pub returns-in_err-rank : goal.returns-in_err-rank
returns-in_err-rank c =
    c.from_residual.ensures
    ∙ ap (with_rank c.split_at.result.1.now) c.in_err-rank.ensures
    ∙ parts c.args.word.now _ _ _ c.split_at.ensures.front c.split_at.ensures.back c.saturating_sub.ensures

pub returns-in_err-suit : goal.returns-in_err-suit
returns-in_err-suit c =
    c.from_residual-in_err-suit.ensures
    ∙ ap (with_suit c.in_ok-rank.rank) c.in_err-suit.ensures
    ∙ ap (with_rank c.split_at.result.1.now) c.in_ok-rank.ensures
    ∙ parts c.args.word.now _ _ _ c.split_at.ensures.front c.split_at.ensures.back c.saturating_sub.ensures

pub overflow_mul-rank : goal.overflow_mul-rank
overflow_mul-rank c = let low = rank-below c.split_at.result.0.now c.in_ok-rank.rank (sym c.in_ok-rank.ensures) in omega arith

pub overflow_add-rank : goal.overflow_add-rank
overflow_add-rank c =
    let low = rank-below c.split_at.result.0.now c.in_ok-rank.rank (sym c.in_ok-rank.ensures) in
    let small = suit-below c.split_at.result.1.now c.in_ok-suit.suit (sym c.in_ok-suit.ensures) in
    omega arith

pub returns : goal.returns
returns c =
    let low = rank-below c.split_at.result.0.now c.in_ok-rank.rank (sym c.in_ok-rank.ensures) in
    let small = suit-below c.split_at.result.1.now c.in_ok-suit.suit (sym c.in_ok-suit.ensures) in
    card_there c.from_number.result c.in_ok-rank.rank c.in_ok-suit.suit (omega arith) c.from_number.ensures
    ∙ ap (with_suit c.in_ok-rank.rank) c.in_ok-suit.ensures
    ∙ ap (with_rank c.split_at.result.1.now) c.in_ok-rank.ensures
    ∙ parts c.args.word.now _ _ _ c.split_at.ensures.front c.split_at.ensures.back c.saturating_sub.ensures
