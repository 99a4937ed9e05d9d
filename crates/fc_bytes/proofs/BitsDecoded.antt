-- The bits of the cards that bytes are.
use Rattle.std.proofs.Common.{◌%◌, ◌*◌, ◌+◌, ◌-◌, ◌<◌, ◌^◌, ◌∙◌, ◌∷◌, ◌≡◌, ◌≤◌, [], ap, arith, get_or, inl, inr, length}
use Rattle.std.proofs.{Common.{List, map, min, refl, subst, suc, sym, take, ℕ}, lemmas.Bool.{cases_lt}}
use Rattle.std.{proofs.lemmas.List.{get_or-map, length-map, Sums.{sum_by-cons}}, specs.Int.Bits.{bit_or, or_zero_r}}
use Rattle.std.specs.{List.{sum}, Option.{unwrap_or}}
use Rattle.fc_card.{proofs.BitsLemmas.{AreBitsOf-more}, specs.{AreBitsOf, IsCard}}
use Rattle.fc_bytes.{proofs.DecodedLemmas.{card_back}, specs.inside.{AreLaid, card_decoded, ends_decoded}}

-- one byte more
pub bits_more : (total : ℕ) (bytes cards : List ℕ) (place bits bit : ℕ) → AreLaid total bytes →
    cards ≡ map card_decoded bytes → place < length bytes →
    ((card : ℕ) → get_or bytes place 0 ≡ card + 1 → bit ≡ 1 * 2 ^ card % 2 ^ 64) →
    (get_or bytes place 0 ≡ 0 → bit ≡ 0) → AreBitsOf (take (min place total) cards) bits →
    AreBitsOf (take (min (place + 1) total) cards) (bit_or bits bit)
bits_more total bytes cards place bits bit laid are inside of_card of_none were =
    let byte = get_or bytes place 0 in
    let (small, exactly) = laid place inside in
    elim (cases_lt place total) [
      | inl before ↦
          let card = byte - 1 in
          let is : byte ≡ card + 1 = omega (arith, exactly.0 before) in
          let in_deck : IsCard card = omega (arith, is, small) in
          let here : get_or cards place card ≡ card =
          ap (λ cards. get_or cards place card) are
          ∙ get_or-map card_decoded bytes place 0 card inside
          ∙ ap card_decoded is ∙ ap (λ found. unwrap_or found 0) (card_back card in_deck) in
          let there : place < length cards =
          omega (arith, inside, ap length are ∙ length-map bytes card_decoded) in
          let first : min place total ≡ place = omega (arith, before) in
          let next : place + 1 ≡ min (place + 1) total = omega (arith, before) in
          subst (λ n. AreBitsOf (take n cards) (bit_or bits bit)) next
          (subst (λ bit. AreBitsOf (take (place + 1) cards) (bit_or bits bit)) (sym (of_card card is))
          (AreBitsOf-more cards place card bits there (sym here) in_deck
          (subst (λ n. AreBitsOf (take n cards) bits) first were)))
      | inr past ↦
          let none : bit ≡ 0 = of_none (elim (cases_lt 0 byte) [
            | inl some ↦ absurd (omega (arith, exactly.1 some, past))
            | inr zero ↦ omega (arith, zero)
          ]) in
          let same : min place total ≡ min (place + 1) total = omega (arith, past) in
          subst (λ n. AreBitsOf (take n cards) (bit_or bits bit)) same
          (subst (AreBitsOf (take (min place total) cards)) (sym (ap (bit_or bits) none ∙ or_zero_r bits)) were)
    ]

-- where the last of eight columns ends
last_end : (start count : ℕ) (counts : List ℕ) → start + sum (count ∷ counts) ≤ 52 →
    get_or (ends_decoded start (count ∷ counts)) (length counts) 0 ≡ start + sum (count ∷ counts)
last_end start count [] few =
    let all : sum (count ∷ []) ≡ count + sum [] = sum_by-cons (λ x. x) count [] in
    let none : sum [] ≡ 0 = refl in
    omega (arith, few, all, none)
last_end start count (next ∷ counts) few =
    let all : sum (count ∷ next ∷ counts) ≡ count + sum (next ∷ counts) =
    sum_by-cons (λ x. x) count (next ∷ counts) in
    let end : min (start + count) 52 ≡ start + count = omega (arith, all, few) in
    last_end (min (start + count) 52) next counts (omega (arith, end, all, few)) ∙ omega (arith, end, all)

as_many : (start : ℕ) (counts : List ℕ) → length (ends_decoded start counts) ≡ length counts
as_many start [] = refl
as_many start (count ∷ counts) = ap suc (as_many (min (start + count) 52) counts)

pub ends_at : (lengths : List ℕ) → length (ends_decoded 0 lengths) ≡ 8 → sum lengths ≤ 52 →
    get_or (ends_decoded 0 lengths) 7 0 ≡ sum lengths
ends_at [] eight few = absurd (cc)
ends_at (count ∷ counts) eight few =
    let seven : length counts ≡ 7 = omega (arith, eight, as_many 0 (count ∷ counts)) in
    ap (λ n. get_or (ends_decoded 0 (count ∷ counts)) n 0) (sym seven)
    ∙ last_end 0 count counts (omega (arith, few)) ∙ omega arith
