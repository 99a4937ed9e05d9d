-- Lemmas on the cards that were seen: a set of cards says for each whether it was counted.
use Rattle.std.proofs.Common.{◌+◌, ◌<◌, ◌==◌, ◌||◌, ◌∙◌, ◌∷◌, ◌≡◌, ◌≤◌, [], All, ap, ap₂, arith, Bool, cond, false}
use Rattle.std.proofs.Common.{get_or, inl, inr, length, List, MatchOption, min, nat_le, None, Option, refl, replicate}
use Rattle.std.proofs.{Common.{slice_index, Some, subst, sym, true, ℕ}, lemmas.Bool.{both_ways, cases_Bool, cases_eq}}
use Rattle.std.proofs.lemmas.Bool.{Decides.{leb_tells, nat_tests}, le-leb, lt-leb, ne_eqb}
use Rattle.std.proofs.lemmas.List.Elements.{All-head, All-tail}
use Rattle.std.proofs.lemmas.List.FromFn.{fill_by_all, get_or-map-range_with_len, length-map-range_with_len}
use Rattle.std.{proofs.lemmas.List.{get_or-replicate, length-replicate}, specs.List.{list_any}}
use Rattle.std.proofs.lemmas.Bool.{or_right}
use Rattle.fc_card.specs.{AreCountsOf, count_of, Counts, CountsNoneUpTo, CountsUpTo, is_up_to, IsCard, IsLowest, NoCard}
use Rattle.fc_text.proofs.CardLemmas.{among_counted, cards_at_home-IsCard, cards_from, count_first, count_home}
use Rattle.fc_text.specs.reader.{also_seen, is_seen, seen_of}

-- ---- for each card, whether it was seen
pub length-also_seen : (seen : List Bool) (cards : List ℕ) → length (also_seen seen cards) ≡ 52
unfolding also_seen
length-also_seen seen cards = length-map-range_with_len (λ card. is_seen seen card || list_any (λ other. other == card) cards) 0 52

pub also_seen_at : (seen : List Bool) (cards : List ℕ) (card : ℕ) → IsCard card
    → is_seen (also_seen seen cards) card ≡ (is_seen seen card || list_any (λ other. other == card) cards)
unfolding also_seen
also_seen_at seen cards card in_deck = get_or-map-range_with_len (λ card. is_seen seen card || list_any (λ other. other == card) cards) 0 52 card card false in_deck (omega arith)

pub length-seen_of : (counts : List ℕ) → length (seen_of counts) ≡ 52
unfolding seen_of
length-seen_of counts = length-map-range_with_len (λ card. nat_le 1 (slice_index counts card)) 0 52

pub seen_at : (counts : List ℕ) (card : ℕ) → IsCard card → is_seen (seen_of counts) card ≡ nat_le 1 (slice_index counts card)
unfolding seen_of
seen_at counts card in_deck = get_or-map-range_with_len (λ card. nat_le 1 (slice_index counts card)) 0 52 card card false in_deck (omega arith)

seen_from : (counts : List ℕ) (seen : List Bool) → length seen ≡ 52
    → ((card : ℕ) → IsCard card → get_or seen card false ≡ nat_le 1 (slice_index counts card)) → seen_of counts ≡ seen
unfolding seen_of
seen_from counts seen long each = sym (fill_by_all (λ card. nat_le 1 (slice_index counts card)) seen 52 false long each)

pub none_seen : (counts : List ℕ) → AreCountsOf counts [] → seen_of counts ≡ replicate 52 false
none_seen counts are =
    seen_from counts (replicate 52 false) (length-replicate 52 false)
    (λ card in_deck. get_or-replicate 52 card false false in_deck ∙ sym (lt-leb 1 (slice_index counts card) (omega (arith, are.counted card in_deck))))

-- ---- cards that are counted are seen
same_test : (m n : ℕ) → min m 2 ≡ min n 2 → nat_le 1 m ≡ nat_le 1 n
same_test m n same = grind (arith, nat_tests)

counted_test : (old new count : ℕ) (among : Bool) → min new 2 ≡ min (old + count) 2 → among ≡ nat_le 1 count → (nat_le 1 old || among) ≡ nat_le 1 new
counted_test old new count among more is = elim (leb_tells 1 old) [
  | inl (test, some) ↦ ap (λ test. test || among) test ∙ sym (le-leb 1 new (omega (arith, more, some)))
  | inr (test, none) ↦ ap (λ test. test || among) test ∙ is ∙ same_test count new (omega (arith, more, none))
]

pub counted_seen : (old new cards : List ℕ) → Counts old new cards → seen_of new ≡ also_seen (seen_of old) cards
counted_seen old new cards counted =
    seen_from new (also_seen (seen_of old) cards) (length-also_seen (seen_of old) cards)
    (λ card in_deck. also_seen_at (seen_of old) cards card in_deck ∙ ap (λ test. test || list_any (λ other. other == card) cards) (seen_at old card in_deck)
    ∙ counted_test (slice_index old card) (slice_index new card) (count_of card cards) (list_any (λ other. other == card) cards) (counted card in_deck) (among_counted cards card))

-- ---- one card
pub not_seen : (counts : List ℕ) (card : ℕ) → IsCard card → (1 ≤ slice_index counts card → ⊥)
    → list_any (is_seen (seen_of counts)) (card ∷ []) ≡ false
not_seen counts card is none = ap (λ test. test || false) (seen_at counts card is ∙ lt-leb 1 (slice_index counts card) (omega (arith, none)))

pub was_seen : (counts : List ℕ) (card : ℕ) → IsCard card → 1 ≤ slice_index counts card → list_any (is_seen (seen_of counts)) (card ∷ []) ≡ true
was_seen counts card is some = ap (λ test. test || false) (seen_at counts card is ∙ le-leb 1 (slice_index counts card) some)

pub seen_again : (old new : List ℕ) (card : ℕ) → 1 ≤ slice_index old card → Counts old new (card ∷ []) → seen_of new ≡ seen_of old
seen_again old new card some counted =
    seen_from new (seen_of old) (length-seen_of old) (λ other in_deck. seen_at old other in_deck ∙ elim (cases_eq other card) [
      | inl same ↦ le-leb 1 (slice_index old other) (subst (λ card. 1 ≤ slice_index old card) (sym same) some)
          ∙ sym (le-leb 1 (slice_index new other) (omega (arith, counted other in_deck, subst (λ card. 1 ≤ slice_index old card) (sym same) some)))
      | inr apart ↦ same_test (slice_index old other) (slice_index new other) (omega (arith, counted other in_deck, ap {B = ℕ} (λ test. cond test 1 0) (ne_eqb card other (λ same. apart (sym same)))))
    ])

-- ---- the lowest card that was not seen
unseen : (counts : List ℕ) (card : ℕ) → IsCard card → is_seen (seen_of counts) card ≡ false → slice_index counts card ≡ 0
unseen counts card in_deck e = elim (cases_eq (slice_index counts card) 0) [
  | inl none ↦ none
  | inr some ↦ absurd (both_ways _ e (seen_at counts card in_deck ∙ le-leb 1 (slice_index counts card) (omega (arith, some))))
]

pub missing_seen : (counts : List ℕ) (found : Option ℕ)
    → MatchOption found (NoCard (λ card. slice_index counts card ≡ 0)) (IsLowest (λ card. slice_index counts card ≡ 0))
    → MatchOption found (NoCard (λ card. is_seen (seen_of counts) card ≡ false)) (IsLowest (λ card. is_seen (seen_of counts) card ≡ false))
missing_seen counts None none = λ card in_deck e. none card in_deck (unseen counts card in_deck e)
missing_seen counts (Some card) is = record {
  in_deck = is.in_deck;
  property = seen_at counts card is.in_deck ∙ lt-leb 1 (slice_index counts card) (omega (arith, is.property));
  lowest = λ other in_deck e. is.lowest other in_deck (unseen counts other in_deck e);
}

-- ---- cards of a foundation
none_of : (seen : List Bool) (cards : List ℕ) → All IsCard cards → ((card : ℕ) → IsCard card → 1 ≤ count_of card cards → is_seen seen card ≡ false)
    → list_any (is_seen seen) cards ≡ false
none_of seen [] are none = refl
none_of seen (first ∷ cards) are none =
    ap₂ (λ a b. a || b) (none first (All-head IsCard first cards are) (elim (count_first first first cards) [
      | inl (same, count) ↦ omega (arith, count)
      | inr (other, count) ↦ absurd (other refl)
    ]))
    (none_of seen cards (All-tail IsCard first cards are) (λ card in_deck some. none card in_deck (elim (count_first first card cards) [
      | inl (same, count) ↦ omega (arith, count)
      | inr (other, count) ↦ omega (arith, count, some)
    ])))

one_of : (seen : List Bool) (cards : List ℕ) (card : ℕ) → 1 ≤ count_of card cards → is_seen seen card ≡ true → list_any (is_seen seen) cards ≡ true
one_of seen [] card some here = absurd (omega (arith, some))
one_of seen (first ∷ cards) card some here = elim (count_first first card cards) [
  | inl (same, count) ↦ ap (λ test. test || list_any (is_seen seen) cards) (ap (is_seen seen) same ∙ here)
  | inr (other, count) ↦ or_right (is_seen seen first) (list_any (is_seen seen) cards) (one_of seen cards card (omega (arith, some, count)) here)
]

pub home_counted : (old new : List ℕ) (suit height : ℕ) → suit < 4 → CountsUpTo old new suit height → Counts old new (cards_from suit 1 height)
home_counted old new suit height below counted card in_deck = omega (arith, counted card in_deck, count_home suit height card below)

up_to_one : (test : Bool) → 1 ≤ cond {A = ℕ} test 1 0 → test ≡ true
up_to_one true some = refl
up_to_one false some = absurd (omega (arith, some))

pub home_not_seen : (counts : List ℕ) (suit height : ℕ) → suit < 4 → height ≤ 13 → CountsNoneUpTo counts suit height
    → list_any (is_seen (seen_of counts)) (cards_from suit 1 height) ≡ false
home_not_seen counts suit height below high none =
    none_of (seen_of counts) (cards_from suit 1 height) (cards_at_home-IsCard (record { suit = suit; height = height }) (record { suit = below; height = high }))
    (λ card in_deck some. seen_at counts card in_deck ∙ lt-leb 1 (slice_index counts card)
    (omega (arith, none card in_deck (up_to_one (is_up_to suit height card) (omega (arith, some, count_home suit height card below))))))

pub home_was_seen : (counts : List ℕ) (suit height : ℕ) → suit < 4 → height ≤ 13 → (CountsNoneUpTo counts suit height → ⊥)
    → list_any (is_seen (seen_of counts)) (cards_from suit 1 height) ≡ true
home_was_seen counts suit height below high some = elim (cases_Bool (list_any (is_seen (seen_of counts)) (cards_from suit 1 height))) [
  | inl seen ↦ seen
  | inr unseen ↦ absurd (some (λ card in_deck up. elim (cases_eq (slice_index counts card) 0) [
    | inl none ↦ none
    | inr counted ↦
        let among = count_home suit height card below ∙ ap {B = ℕ} (λ test. cond test 1 0) up in
        absurd (both_ways _ unseen (one_of (seen_of counts) (cards_from suit 1 height) card (omega (arith, among)) (seen_at counts card in_deck ∙ le-leb 1 (slice_index counts card) (omega (arith, counted)))))
  ]))
]
