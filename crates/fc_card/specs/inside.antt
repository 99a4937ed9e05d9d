-- Counts as two numbers: of the card of number n bit n of the one is set where it was counted, and of the other where it was counted again.
use Rattle.std.proofs.{Common.{◌∙◌, ap, arith}, lemmas.List.FromFn.{get_or-map-range_with_len}}
use Rattle.std.{proofs.lemmas.Nat.Bits.{bit_at-lt, bit_at-suc}, specs.{Int.{bit_at}, Prelude.{◌*◌}}}
use Rattle.std.specs.Prelude.{◌+◌, ◌-◌, ◌/◌, ◌<◌, ◌^◌, ◌≡◌, ◌≤◌, List, map, min, slice_index, suc}
use Rattle.std.specs.Prelude.{zero, ℕ}
use Rattle.fc_card.specs.{IsCard, places, Types.{Card}}

-- how often a card was counted
abbrev pub count_by_bits : ℕ → ℕ → Card → ℕ
count_by_bits once twice card = bit_at once card + bit_at twice card

-- how often each card was counted
unfoldable pub counts_of : ℕ → ℕ → List ℕ
counts_of once twice = map (count_by_bits once twice) (places 52)

pub count_at : (once twice : ℕ) (card : Card) → IsCard card → slice_index (counts_of once twice) card ≡ count_by_bits once twice card
unfolding counts_of
count_at once twice card in_deck = get_or-map-range_with_len (count_by_bits once twice) 0 52 card card 0 in_deck (omega arith)

-- bits of the deck alone, and what was counted again was counted
pub record AreCounts (once twice : ℕ) : Type 0 where
  pub once_below : once < 2 ^ 52
  pub twice_below : twice < 2 ^ 52
  pub again : (card : Card) → bit_at twice card ≤ bit_at once card

-- the number with these bits, so many
abbrev pub number_of_bits : (ℕ → ℕ) → ℕ → ℕ
number_of_bits bits zero = 0
number_of_bits bits (suc n) = bits 0 + 2 * number_of_bits (λ k. bits (suc k)) n

abbrev pub once_of : List ℕ → ℕ
once_of counts = number_of_bits (λ card. min (slice_index counts card) 1) 52

abbrev pub twice_of : List ℕ → ℕ
twice_of counts = number_of_bits (λ card. slice_index counts card - 1) 52

-- the bits of a number give it back
number_of-bits : (n : ℕ) (bits : ℕ → ℕ) (number : ℕ) → number < 2 ^ n → ((k : ℕ) → k < n → bits k ≡ bit_at number k) → number_of_bits bits n ≡ number
number_of-bits zero bits number below same = omega (arith, below)
number_of-bits (suc n) bits number below same =
    let half : number / 2 < 2 ^ n = omega (arith, below) in
    let rest = number_of-bits n (λ k. bits (suc k)) (number / 2) half (λ k inside. same (suc k) (omega (arith, inside)) ∙ bit_at-suc number k) in
    omega (arith, same 0 (omega arith), rest)

pub once_back : (once twice : ℕ) → AreCounts once twice → once_of (counts_of once twice) ≡ once
once_back once twice are =
    number_of-bits 52 (λ card. min (slice_index (counts_of once twice) card) 1) once are.once_below
    (λ card in_deck. ap (λ n. min n 1) (count_at once twice card in_deck) ∙ omega (arith, are.again card, bit_at-lt once card))

pub twice_back : (once twice : ℕ) → AreCounts once twice → twice_of (counts_of once twice) ≡ twice
twice_back once twice are =
    number_of-bits 52 (λ card. slice_index (counts_of once twice) card - 1) twice are.twice_below
    (λ card in_deck. ap (λ n. n - 1) (count_at once twice card in_deck) ∙ omega (arith, are.again card, bit_at-lt once card))
