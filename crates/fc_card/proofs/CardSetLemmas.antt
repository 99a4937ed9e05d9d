-- Lemmas on counts of cards that two numbers hold by their bits.
use Rattle.std.proofs.Common.{◌%◌, ◌*◌, ◌++◌, ◌+◌, ◌<◌, ◌==◌, ◌^◌, ◌↔◌, ◌∙◌, ◌∷◌, ◌≡◌, ◌≢◌, ◌≤◌, [], All, ap, arith}
use Rattle.std.proofs.Common.{Bool, cond, false, get_or, inl, inr, length, List, MatchOption, min, None, Option, refl}
use Rattle.std.proofs.Common.{slice_index, Some, SomeIff, subst, sym, take, true, ℕ}
use Rattle.std.proofs.lemmas.Bool.{agree_below, agree_below_at, cases_Bool, cases_eq, cases_lt, eq-eqb, eqb-true}
use Rattle.std.proofs.lemmas.List.{Elements.{All-append, All-cons, All-nil}, Sums.{sum_by-append}, take_more}
use Rattle.std.proofs.lemmas.Nat.{and_le_r, Bits.{and_pow, bit_at-lt, bit_at-pow_other, bit_at-pow_same}}
use Rattle.std.proofs.lemmas.Nat.Bits.{bit_at-trailing_ones, bit_at-trailing_zeros, bit_at-zero, bit_at_and}
use Rattle.std.proofs.lemmas.Nat.{Bits.{bit_at_ones, bit_at_or, same_from_bits_below}, or_lt, pow_below}
use Rattle.std.specs.Int.{bit_at, Bits.{bit_and, bit_or}, trailing_ones, trailing_zeros, w64}
use Rattle.fc_card.specs.{AreCountsOf, count_of, Counts, CountsEachOnce, CountsNoneUpTo}
use Rattle.fc_card.specs.{inside.{AreCounts, count_at, counts_of}, is_up_to, IsCard, IsLowest, NoCard}

-- ---- one more of each card that has its bit
pub AreCounts-add : (once twice bits : ℕ) → AreCounts once twice → bits < 2 ^ 52 → AreCounts (bit_or once bits) (bit_or twice (bit_and once bits))
AreCounts-add once twice bits are below = record {
  once_below = or_lt 52 once bits are.once_below below;
  twice_below = or_lt 52 twice (bit_and once bits) are.twice_below (omega (arith, and_le_r once bits, below));
  again = λ card. omega (arith, are.again card, bit_at_or once bits card, bit_at_or twice (bit_and once bits) card, bit_at_and once bits card);
}

pub added : (once twice bits card : ℕ) → AreCounts once twice → IsCard card
    → slice_index (counts_of (bit_or once bits) (bit_or twice (bit_and once bits))) card ≡ min (slice_index (counts_of once twice) card + bit_at bits card) 2
added once twice bits card are in_deck =
    count_at (bit_or once bits) (bit_or twice (bit_and once bits)) card in_deck
    ∙ omega (arith, are.again card, bit_at-lt once card, bit_at-lt bits card, bit_at_or once bits card, bit_at_or twice (bit_and once bits) card, bit_at_and once bits card)
    ∙ ap (λ n. min (n + bit_at bits card) 2) (sym (count_at once twice card in_deck))

-- ---- one card
-- the bit of a card, as the code shifts it
pub one_bit : (place card : ℕ) → place ≡ card → IsCard card → 1 * 2 ^ place % 18446744073709551616 ≡ 2 ^ card
one_bit place card is in_deck = ap (λ n. 1 * 2 ^ n % 18446744073709551616) is ∙ omega (arith, pow_below card 64 (omega (arith, in_deck)))

pub one_below : (place card : ℕ) → place ≡ card → IsCard card → 1 * 2 ^ place % 18446744073709551616 < 4503599627370496
one_below place card is in_deck = omega (arith, one_bit place card is in_deck, pow_below card 52 in_deck)

pub bit_of_one : (card other : ℕ) → bit_at (2 ^ card) other ≡ cond (card == other) 1 0
bit_of_one card other = elim (cases_eq card other) [
  | inl same ↦ ap (bit_at (2 ^ card)) (sym same) ∙ bit_at-pow_same card ∙ sym (ap {B = ℕ} (λ test. cond test 1 0) (eq-eqb card other same))
  | inr apart ↦ bit_at-pow_other card other (λ same. apart (sym same)) ∙ sym (not_counted (card == other) refl apart)
]
  where
    not_counted : (test : Bool) → (card == other) ≡ test → (card ≡ other → ⊥) → cond {A = ℕ} test 1 0 ≡ 0
    not_counted true is apart = absurd (apart (eqb-true card other is))
    not_counted false is apart = refl

pub one_added : (old new : List ℕ) (place card : ℕ) → place ≡ card → IsCard card
    → ((other : ℕ) → IsCard other → slice_index new other ≡ min (slice_index old other + bit_at (1 * 2 ^ place % 18446744073709551616) other) 2)
    → Counts old new (card ∷ [])
one_added old new place card is in_deck more other other_in_deck =
    let bit = ap (λ bits. bit_at bits other) (one_bit place card is in_deck) ∙ bit_of_one card other in
    omega (arith, more other other_in_deck, bit)

-- the bit of a card is not set where the card has no count
pub none_of_card : (once twice place card : ℕ) → AreCounts once twice → place ≡ card → IsCard card
    → (bit_and once (1 * 2 ^ place % 18446744073709551616) ≡ 0) ↔ (slice_index (counts_of once twice) card ≡ 0)
none_of_card once twice place card are is in_deck =
    let one = one_bit place card is in_deck in
    let count = count_at once twice card in_deck in (
      λ none. omega (arith, count, are.again card, ap (λ n. bit_at n card) (sym (ap (bit_and once) one) ∙ none), bit_at_and once (2 ^ card) card, bit_at-pow_same card, bit_at-zero card),
      λ none.
          let unset : bit_at once card ≡ 0 = omega (arith, count, none) in
          let nothing : 0 * 2 ^ card ≡ 0 = omega arith in
          ap (bit_and once) one ∙ and_pow once card ∙ ap (λ n. n * 2 ^ card) unset ∙ nothing,
    )

-- ---- cards in a row
-- new counts these cards besides, which are cards of the deck
pub record AreCounted (old new cards : List ℕ) : Type 0 where
  pub counted : Counts old new cards
  pub in_deck : All IsCard cards

pub count_of-append : (card : ℕ) (xs ys : List ℕ) → count_of card (xs ++ ys) ≡ count_of card xs + count_of card ys
count_of-append card xs ys = sum_by-append (λ other. cond (other == card) 1 0) xs ys

pub AreCounted-nil : (counts : List ℕ) → AreCounted counts counts []
AreCounted-nil counts = record { counted = λ card in_deck. omega arith; in_deck = All-nil IsCard }

pub AreCounted-append : (a b c xs ys : List ℕ) → AreCounted a b xs → AreCounted b c ys → AreCounted a c (xs ++ ys)
AreCounted-append a b c xs ys p q = record {
  counted = λ card in_deck. omega (arith, p.counted card in_deck, q.counted card in_deck, count_of-append card xs ys);
  in_deck = All-append IsCard xs ys p.in_deck q.in_deck;
}

pub AreCounted-one : (a b : List ℕ) (card : ℕ) → Counts a b (card ∷ []) → IsCard card → AreCounted a b (card ∷ [])
AreCounted-one a b card counted is = record { counted = counted; in_deck = All-cons IsCard card [] is (All-nil IsCard) }

-- one more card of a list of cards
pub AreCounted-more : (xs : List ℕ) (i x : ℕ) (a b c : List ℕ) → i < length xs → x ≡ get_or xs i x
    → AreCounted a b (take i xs) → Counts b c (x ∷ []) → IsCard x → AreCounted a c (take (i + 1) xs)
AreCounted-more xs i x a b c inside is before counted card =
    let next : take i xs ++ x ∷ [] ≡ take (i + 1) xs = ap (λ y. take i xs ++ y ∷ []) is ∙ sym (take_more xs i x inside) in
    subst (AreCounted a c) next (AreCounted-append a b c (take i xs) (x ∷ []) before (AreCounted-one b c x counted card))

-- ---- the counts of the cards of a list
pub AreCountsOf-none : AreCountsOf (counts_of 0 0) []
AreCountsOf-none = record { counted = λ card in_deck. omega (arith, count_at 0 0 card in_deck, bit_at-zero card); in_deck = All-nil IsCard }

pub AreCountsOf-append : (old new cards more : List ℕ) → AreCountsOf old cards → Counts old new more → All IsCard more → AreCountsOf new (cards ++ more)
AreCountsOf-append old new cards more are counted is = record {
  counted = λ card in_deck. omega (arith, are.counted card in_deck, counted card in_deck, count_of-append card cards more);
  in_deck = All-append IsCard cards more are.in_deck is;
}

-- ---- the first cards of a suit
-- the bits of no club, of the ace of clubs, and so on up to all clubs
abbrev clubs_up_to : List ℕ
clubs_up_to = 0 ∷ 1 ∷ 17 ∷ 273 ∷ 4369 ∷ 69905 ∷ 1118481 ∷ 17895697 ∷ 286331153 ∷ 4581298449 ∷ 73300775185 ∷ 1172812402961 ∷ 18764998447377 ∷ 300239975158033 ∷ []

abbrev suit_bits : ℕ → ℕ → ℕ
suit_bits suit height = get_or clubs_up_to height 0 * 2 ^ suit % 18446744073709551616

abbrev suit_test : ℕ → ℕ → ℕ → Bool
suit_test suit height card = bit_at (suit_bits suit height) card == cond (is_up_to suit height card) 1 0

all_suits : agree_below (λ suit. agree_below (λ height. agree_below (suit_test suit height) (λ _. true) 52) (λ _. true) 14) (λ _. true) 4 ≡ true
all_suits = refl

pub suit_bits-is_up_to : (suit height card : ℕ) → suit < 4 → height ≤ 13 → IsCard card → bit_at (suit_bits suit height) card ≡ cond (is_up_to suit height card) 1 0
suit_bits-is_up_to suit height card below high in_deck =
    let of_suit = agree_below_at (λ suit. agree_below (λ height. agree_below (suit_test suit height) (λ _. true) 52) (λ _. true) 14) (λ _. true) 4 suit all_suits below in
    let of_height = agree_below_at (λ height. agree_below (suit_test suit height) (λ _. true) 52) (λ _. true) 14 height of_suit (omega (arith, high)) in
    eqb-true _ _ (agree_below_at (suit_test suit height) (λ _. true) 52 card of_height in_deck)

pub none_up_to : (once twice suit height bits : ℕ) → AreCounts once twice → bits < 2 ^ 52 → ((card : ℕ) → IsCard card → bit_at bits card ≡ cond (is_up_to suit height card) 1 0)
    → (bit_and once bits ≡ 0) ↔ CountsNoneUpTo (counts_of once twice) suit height
none_up_to once twice suit height bits are below ensured = (
  λ none card in_deck up. count_at once twice card in_deck
      ∙ omega (arith, ap (λ n. bit_at n card) none, bit_at_and once bits card, bit_at-zero card, ensured card in_deck, ap {B = ℕ} (λ test. cond test 1 0) up, are.again card),
  λ each. same_from_bits_below 52 (bit_and once bits) 0 (omega (arith, and_le_r once bits, below)) (omega arith)
      (λ card in_deck. elim (cases_Bool (is_up_to suit height card)) [
        | inl up ↦ omega (arith, each card in_deck up, count_at once twice card in_deck, bit_at_and once bits card, bit_at-zero card)
        | inr past ↦ omega (arith, ensured card in_deck, ap {B = ℕ} (λ test. cond test 1 0) past, bit_at_and once bits card, bit_at-zero card)
      ]),
)

-- ---- a whole deck
pub whole_once : (once twice : ℕ) → once ≡ 4503599627370495 → twice ≡ 0 → CountsEachOnce (counts_of once twice)
whole_once once twice full none card in_deck =
    count_at once twice card in_deck ∙ omega (arith, ap (λ n. bit_at n card) full, bit_at_ones 52 card in_deck, ap (λ n. bit_at n card) none, bit_at-zero card)

pub once_whole : (once twice : ℕ) → AreCounts once twice → CountsEachOnce (counts_of once twice) → (once ≡ 4503599627370495) × (twice ≡ 0)
once_whole once twice are each = (
  same_from_bits_below 52 once 4503599627370495 are.once_below (omega arith)
      (λ card in_deck. omega (arith, count_at once twice card in_deck, each card in_deck, are.again card, bit_at-lt once card, bit_at_ones 52 card in_deck)),
  same_from_bits_below 52 twice 0 are.twice_below (omega arith)
      (λ card in_deck. omega (arith, count_at once twice card in_deck, each card in_deck, are.again card, bit_at-lt once card, bit_at-zero card)),
)

-- ---- the lowest cards
pub missing_found : (once twice number : ℕ) (found : Option ℕ) → AreCounts once twice → number ≡ trailing_ones w64 once → SomeIff found (IsCard number) number
    → MatchOption found (NoCard (λ card. slice_index (counts_of once twice) card ≡ 0)) (IsLowest (λ card. slice_index (counts_of once twice) card ≡ 0))
missing_found once twice number found are is = by_found found
  where
    lowest : (trailing_ones w64 once < 64) × (bit_at once (trailing_ones w64 once) ≡ 0) × ((i : ℕ) → i < trailing_ones w64 once → bit_at once i ≡ 1)
    lowest = bit_at-trailing_ones w64 once (omega (arith, are.once_below))

    before : (card : ℕ) → IsCard card → slice_index (counts_of once twice) card ≡ 0 → number ≤ card
    before card in_deck none = elim (cases_lt card number) [
      | inl low ↦ absurd (omega (arith, count_at once twice card in_deck, none, lowest.2 card (omega (arith, low, is))))
      | inr high ↦ high
    ]

    by_found : (found : Option ℕ) → SomeIff found (IsCard number) number
        → MatchOption found (NoCard (λ card. slice_index (counts_of once twice) card ≡ 0)) (IsLowest (λ card. slice_index (counts_of once twice) card ≡ 0))
    by_found None past = λ card in_deck none. past (omega (arith, before card in_deck none, in_deck))
    by_found (Some card) (in_deck, same) = rw same (record {
      in_deck = in_deck;
      property = count_at once twice number in_deck ∙ omega (arith, ap (bit_at once) is, lowest.1, are.again number);
      lowest = before;
    })

zeros_of_none : trailing_zeros w64 0 ≡ 64
unfolding lib.Count.count_trailing_zeros
zeros_of_none = refl

pub repeated_found : (once twice number : ℕ) (found : Option ℕ) → AreCounts once twice → number ≡ trailing_zeros w64 twice → SomeIff found (IsCard number) number
    → MatchOption found (NoCard (λ card. 2 ≤ slice_index (counts_of once twice) card)) (IsLowest (λ card. 2 ≤ slice_index (counts_of once twice) card))
repeated_found once twice number found are is = by_found found
  where
    lowest : twice ≢ 0 → (trailing_zeros w64 twice < 64) × (bit_at twice (trailing_zeros w64 twice) ≡ 1) × ((i : ℕ) → i < trailing_zeros w64 twice → bit_at twice i ≡ 0)
    lowest some = bit_at-trailing_zeros w64 twice (omega (arith, some)) (omega (arith, are.twice_below))

    again : (card : ℕ) → IsCard card → 2 ≤ slice_index (counts_of once twice) card → bit_at twice card ≡ 1
    again card in_deck two = omega (arith, count_at once twice card in_deck, two, bit_at-lt once card, bit_at-lt twice card)

    some : (card : ℕ) → bit_at twice card ≡ 1 → twice ≢ 0
    some card set none = omega (arith, ap (λ n. bit_at n card) none, bit_at-zero card, set)

    none_of_none : twice ≡ 0 → number ≡ 64
    none_of_none none = is ∙ ap (trailing_zeros w64) none ∙ zeros_of_none

    before : (card : ℕ) → IsCard card → 2 ≤ slice_index (counts_of once twice) card → number ≤ card
    before card in_deck two = elim (cases_lt card number) [
      | inl low ↦ absurd (omega (arith, again card in_deck two, (lowest (some card (again card in_deck two))).2 card (omega (arith, low, is))))
      | inr high ↦ high
    ]

    by_found : (found : Option ℕ) → SomeIff found (IsCard number) number
        → MatchOption found (NoCard (λ card. 2 ≤ slice_index (counts_of once twice) card)) (IsLowest (λ card. 2 ≤ slice_index (counts_of once twice) card))
    by_found None past = λ card in_deck two. past (omega (arith, before card in_deck two, in_deck))
    by_found (Some card) (in_deck, same) = rw same (record {
      in_deck = in_deck;
      property = elim (cases_eq twice 0) [
        | inl none ↦ absurd (omega (arith, none_of_none none, in_deck))
        | inr other ↦ omega (arith, count_at once twice number in_deck, ap (bit_at twice) is, (lowest other).1, are.again number)
      ];
      lowest = before;
    })
