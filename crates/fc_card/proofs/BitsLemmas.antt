-- Lemmas on the bits of cards: where they are as many as the cards, no card is there twice.
use Rattle.std.proofs.Common.{◌%◌, ◌*◌, ◌++◌, ◌+◌, ◌<◌, ◌==◌, ◌^◌, ◌∙◌, ◌∷◌, ◌≡◌, ◌≤◌, [], ap, ap₂, arith, Bool, cond}
use Rattle.std.proofs.Common.{count_ones, false, get_or, inl, inr, length, List, refl, subst, suc, sym, take, true}
use Rattle.std.proofs.{Common.{zero, ℕ}, lemmas.Bool.{cases_eq, eqb-true}}
use Rattle.std.proofs.lemmas.List.{Elements.{All-append, All-cons, All-nil}, take_more}
use Rattle.std.proofs.lemmas.Nat.Bits.{bit_at-lt, bit_at-zero, bit_at_or}
use Rattle.std.{proofs.lemmas.Nat.{mod-pow-add, mod_below, ones_cat, or_lt, pow_pos}, specs.Int.{bit_at, Bits.{bit_or}}}
use Rattle.fc_card.proofs.CardSetLemmas.{bit_of_one, count_of-append, one_below, one_bit}
use Rattle.fc_card.specs.{AreBitsOf, AreCountsOf, count_of, inside.{count_at, counts_of}, IsCard}

-- ---- one card after another
count_of-one : (card other : ℕ) → count_of other (card ∷ []) ≡ cond {A = ℕ} (card == other) 1 0
count_of-one card other = omega arith

pub AreBitsOf-push : (cards : List ℕ) (bits card : ℕ) → IsCard card → AreBitsOf cards bits → AreBitsOf (cards ++ card ∷ []) (bit_or bits (1 * 2 ^ card % 18446744073709551616))
AreBitsOf-push cards bits card is are = record {
  are_set = λ other in_deck.
      let bit = ap (λ bits. bit_at bits other) (one_bit card card refl is) ∙ bit_of_one card other ∙ sym (count_of-one card other) in
      omega (arith, bit, bit_at_or bits (1 * 2 ^ card % 18446744073709551616) other, are.are_set other in_deck, count_of-append other cards (card ∷ []), bit_at-lt (1 * 2 ^ card % 18446744073709551616) other);
  below = or_lt 52 bits (1 * 2 ^ card % 18446744073709551616) are.below (one_below card card refl is);
  in_deck = All-append IsCard cards (card ∷ []) are.in_deck (All-cons IsCard card [] is (All-nil IsCard));
}

-- one more card of a list of cards
pub AreBitsOf-more : (cards : List ℕ) (i card bits : ℕ) → i < length cards → card ≡ get_or cards i card → IsCard card
    → AreBitsOf (take i cards) bits → AreBitsOf (take (i + 1) cards) (bit_or bits (1 * 2 ^ card % 18446744073709551616))
AreBitsOf-more cards i card bits inside is in_deck are =
    let next : take i cards ++ card ∷ [] ≡ take (i + 1) cards = ap (λ last. take i cards ++ last ∷ []) is ∙ sym (take_more cards i card inside) in
    subst (λ cards. AreBitsOf cards (bit_or bits (1 * 2 ^ card % 18446744073709551616))) next (AreBitsOf-push (take i cards) bits card in_deck are)

-- ---- the first values together
abbrev total : (ℕ → ℕ) → ℕ → ℕ
total value zero = 0
total value (suc n) = value n + total value n

total-same : (value other : ℕ → ℕ) (n : ℕ) → ((k : ℕ) → value k ≡ other k) → total value n ≡ total other n
total-same value other zero same = refl
total-same value other (suc n) same = omega (arith, same n, total-same value other n same)

total-add : (value other : ℕ → ℕ) (n : ℕ) → total (λ k. value k + other k) n ≡ total value n + total other n
total-add value other zero = refl
total-add value other (suc n) = omega (arith, total-add value other n)

total-le : (value other : ℕ → ℕ) (n : ℕ) → ((k : ℕ) → k < n → value k ≤ other k) → total value n ≤ total other n
total-le value other zero less = omega arith
total-le value other (suc n) less = omega (arith, less n (omega arith), total-le value other n (λ k below. less k (omega (arith, below))))

-- where none is less and all together are no more, each is the same
each_same : (value other : ℕ → ℕ) (n : ℕ) → ((k : ℕ) → k < n → value k ≤ other k) → total other n ≤ total value n → (k : ℕ) → k < n → value k ≡ other k
each_same value other zero less all k below = omega (arith, below)
each_same value other (suc n) less all k below =
    let last = less n (omega arith) in
    let less' : (k : ℕ) → k < n → value k ≤ other k = λ k below. less k (omega (arith, below)) in
    let first = total-le value other n less' in
    elim (cases_eq k n) [
      | inl same ↦ rw same (omega (arith, last, first, all))
      | inr before ↦ each_same value other n less' (omega (arith, last, all)) k (omega (arith, below, before))
    ]

-- ---- bits are as many as ones
ones_of_bit : (bit : ℕ) → bit < 2 → count_ones bit ≡ bit
unfolding lib.Count.ones
ones_of_bit zero below = refl
ones_of_bit (suc zero) below = refl
ones_of_bit (suc (suc more)) below = omega (arith, below)

total-bits : (bits n : ℕ) → total (bit_at bits) n ≡ count_ones (bits % 2 ^ n)
total-bits bits zero = sym (ones_of_bit 0 (omega arith)) ∙ ap count_ones (let e : 0 ≡ bits % 2 ^ 0 = omega arith in e)
total-bits bits (suc n) =
    let split : bits % 2 ^ (1 + n) ≡ bit_at bits n * 2 ^ n + bits % 2 ^ n = mod-pow-add bits 1 n in
    ap₂ (λ bit rest. bit + rest) (sym (ones_of_bit (bit_at bits n) (bit_at-lt bits n))) (total-bits bits n)
    ∙ sym (ones_cat n (bit_at bits n) (bits % 2 ^ n) (mod_below bits (2 ^ n) (pow_pos n)))
    ∙ ap count_ones (sym split ∙ ap (λ n. bits % 2 ^ n) (let e : 1 + n ≡ suc n = omega arith in e))

-- ---- cards among others
abbrev is_one : ℕ → ℕ → ℕ
is_one card k = cond (card == k) 1 0

is_one-other : (card k : ℕ) → (card ≡ k → ⊥) → is_one card k ≡ 0
is_one-other card k other = by_test (card == k) refl
  where
    by_test : (test : Bool) → (card == k) ≡ test → cond {A = ℕ} test 1 0 ≡ 0
    by_test true is = absurd (other (eqb-true card k is))
    by_test false is = refl

is_one-le : (card k : ℕ) → is_one card k ≤ 1
is_one-le card k = by_test (card == k)
  where
    by_test : (test : Bool) → cond {A = ℕ} test 1 0 ≤ 1
    by_test true = omega arith
    by_test false = omega arith

none_before : (card n : ℕ) → n ≤ card → total (is_one card) n ≡ 0
none_before card zero few = refl
none_before card (suc n) few = omega (arith, is_one-other card n (λ e. omega (arith, e, few)), none_before card n (omega (arith, few)))

at_most_once : (card n : ℕ) → total (is_one card) n ≤ 1
at_most_once card zero = omega arith
at_most_once card (suc n) = elim (cases_eq card n) [
  | inl same ↦ omega (arith, is_one-le card n, none_before card n (omega (arith, same)))
  | inr other ↦ omega (arith, is_one-other card n other, at_most_once card n)
]

total-count : (cards : List ℕ) (n : ℕ) → total (λ card. count_of card cards) n ≤ length cards
total-count [] n = omega (arith, none n)
  where
    none : (n : ℕ) → total (λ card. count_of card []) n ≡ 0
    none zero = refl
    none (suc n) = omega (arith, none n)
total-count (card ∷ cards) n =
    let parts = total-same (λ k. count_of k (card ∷ cards)) (λ k. is_one card k + count_of k cards) n (λ k. omega (arith, count_of-append k (card ∷ []) cards)) in
    omega (arith, parts, total-add (is_one card) (λ k. count_of k cards) n, at_most_once card n, total-count cards n)

-- ---- all together

pub AreCountsOf-bits : (cards : List ℕ) (bits : ℕ) → AreBitsOf cards bits → count_ones bits ≡ length cards → AreCountsOf (counts_of bits 0) cards
AreCountsOf-bits cards bits are many =
    let all : total (bit_at bits) 52 ≡ count_ones bits = total-bits bits 52 ∙ ap count_ones (let e : bits % 2 ^ 52 ≡ bits = omega (arith, are.below) in e) in
    let each = each_same (bit_at bits) (λ card. count_of card cards) 52 (λ card in_deck. omega (arith, are.are_set card in_deck)) (omega (arith, all, many, total-count cards 52)) in
    record {
      counted = λ card in_deck. omega (arith, count_at bits 0 card in_deck, bit_at-zero card, each card in_deck);
      in_deck = are.in_deck;
    }
