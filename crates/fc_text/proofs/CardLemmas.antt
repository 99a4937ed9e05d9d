-- Lemmas on the cards that a word names: each is there once.
use Rattle.std.proofs.Common.{◌&&◌, ◌+◌, ◌-◌, ◌<◌, ◌==◌, ◌||◌, ◌∙◌, ◌∷◌, ◌≡◌, ◌≢◌, ◌≤◌, ◌⊎◌, [], All, ap, append-nil}
use Rattle.std.proofs.Common.{ap₂, arith, Bool, codes, cond, drop, eqb, false, inl, inr, length, List, map, nat_le}
use Rattle.std.proofs.Common.{None, Option, refl, Some, subst, suc, sym, take, true, zero, ℕ}
use Rattle.std.proofs.lemmas.Bool.{and_from, cases_eq, Decides.{leb_tells}, eq-eqb, le-leb, ne_eqb}
use Rattle.std.proofs.lemmas.{List.{Elements.{All-cons, All-nil}, Quantifiers.{position-Some}}, Option.{same_Some}}
use Rattle.std.specs.{List.{flat_map, list_any, range_with_len}, Option.{option_and_then, option_map, option_to_list}}
use Rattle.std.specs.Str.{bytes_eq}
use Rattle.fc_card.specs.{card_of, count_of, is_up_to, IsCard, rank_letters, rank_of, suit_letters, suit_of}
use Rattle.fc_board.proofs.BoardLemmas.{count_of-cons}
use Rattle.fc_text.specs.{Faults.{cards_at_home, cards_of_word, suits_of_word}, Spelling.{card_spelled}}
use Rattle.fc_text.specs.Spelling.{foundation_spelled, height_spelled, is_empty_mark, letter_spelled, rank_spelled}
use Rattle.fc_text.specs.Spelling.{suit_spelled}
use Rattle.fc_text.specs.declared.board.reader.Section.{Section, TheVariants.{Column, Foundations, Freecells}}
use Rattle.fc_text.specs.declared.board.spelling.Foundation.{Foundation}

-- ---- one number before others

count_cases : (here : Bool) (x card n rest : ℕ) → here ≡ eqb x card → n ≡ cond here 1 0 + rest → ((x ≡ card) × (n ≡ 1 + rest)) ⊎ ((x ≢ card) × (n ≡ rest))
count_cases here x card n rest is e =
    elim (cases_eq x card) [
      | inl same ↦ inl (same, e ∙ ap (λ b. cond b 1 0 + rest) (is ∙ eq-eqb x card same))
      | inr other ↦ inr (other, e ∙ ap (λ b. cond b 1 0 + rest) (is ∙ ne_eqb x card other) ∙ omega arith)
    ]

pub count_first : (x card : ℕ) (xs : List ℕ) → ((x ≡ card) × (count_of card (x ∷ xs) ≡ 1 + count_of card xs)) ⊎ ((x ≢ card) × (count_of card (x ∷ xs) ≡ count_of card xs))
count_first x card xs = count_cases (eqb x card) x card (count_of card (x ∷ xs)) (count_of card xs) refl (count_of-cons card x xs)

-- a number is among others where these count it
pub among_counted : (cards : List ℕ) (card : ℕ) → list_any (λ other. other == card) cards ≡ nat_le 1 (count_of card cards)
among_counted [] card = refl
among_counted (first ∷ cards) card = elim (count_first first card cards) [
  | inl (same, count) ↦ ap (λ test. test || list_any (λ other. other == card) cards) (eq-eqb first card same) ∙ sym (le-leb 1 (count_of card (first ∷ cards)) (omega (arith, count)))
  | inr (other, count) ↦ ap (λ test. test || list_any (λ other. other == card) cards) (ne_eqb first card other) ∙ among_counted cards card ∙ ap (nat_le 1) (sym count)
]

count_option : (o : Option ℕ) (number : ℕ) → count_of number (option_to_list o) ≤ 1
count_option None number = omega arith
count_option (Some x) number =
    elim (count_first x number []) [
      | inl (same, e) ↦ omega arith
      | inr (other, e) ↦ omega arith
    ]

-- ---- the cards of a suit by rank

abbrev pub cards_from : ℕ → ℕ → ℕ → List ℕ
cards_from suit first count = map (λ rank. card_of rank suit) (range_with_len first count)

-- a card of another suit, or of a lower or a higher rank, is none of them
pub none_from_run : (suit first count card : ℕ) → suit < 4 → 1 ≤ first → (suit_of card ≡ suit → first ≤ rank_of card → rank_of card < first + count → ⊥)
    → count_of card (cards_from suit first count) ≡ 0
none_from_run suit first zero card small from out = refl
none_from_run suit first (suc count) card small from out =
    elim (count_first (card_of first suit) card (cards_from suit (first + 1) count)) [
      | inl (same, e) ↦ absurd (out (omega arith) (omega arith) (omega arith))
      | inr (other, e) ↦ e ∙ none_from_run suit (first + 1) count card small (omega arith) (λ a b c. out a (omega arith) (omega arith))
    ]

-- any other card of these ranks is one of them
pub one_of_run : (suit first count card : ℕ) → suit < 4 → 1 ≤ first → suit_of card ≡ suit → first ≤ rank_of card → rank_of card < first + count
    → count_of card (cards_from suit first count) ≡ 1
one_of_run suit first zero card small from same low high = absurd (omega arith)
one_of_run suit first (suc count) card small from same low high =
    elim (count_first (card_of first suit) card (cards_from suit (first + 1) count)) [
      | inl (here, e) ↦ e ∙ ap (λ n. 1 + n) (none_from_run suit (first + 1) count card small (omega arith) (λ a b c. omega arith))
      | inr (other, e) ↦
          let later : first + 1 ≤ rank_of card = above first suit card small from same low other in
          e ∙ one_of_run suit (first + 1) count card small (omega arith) same later (omega arith)
    ]
  where
    above : (first suit card : ℕ) → suit < 4 → 1 ≤ first → suit_of card ≡ suit → first ≤ rank_of card → card_of first suit ≢ card → first + 1 ≤ rank_of card
    above first suit card small from same low other =
        elim (cases_eq first (rank_of card)) [
          | inl at ↦ absurd (other (omega arith))
          | inr elsewhere ↦ omega arith
        ]

-- ---- what words spell

letter-below : (letters word : List ℕ) (k : ℕ) → letter_spelled letters word ≡ Some k → k < length letters
letter-below letters [] k e = absurd (cc)
letter-below letters (letter ∷ []) k e = (position-Some _ letters k 0 e).0
letter-below letters (letter ∷ next ∷ rest) k e = absurd (cc)

either_below : (b : Bool) (x limit k : ℕ) (o : Option ℕ) → x < limit → (o ≡ Some k → k < limit) → cond b (Some x) o ≡ Some k → k < limit
either_below true x limit k o small later e = let same = same_Some x k e in omega arith
either_below false x limit k o small later e = later e

pub suit-below : (word : List ℕ) (k : ℕ) → suit_spelled word ≡ Some k → k < 4
suit-below word k e = letter-below suit_letters word k e

pub rank-below : (word : List ℕ) (k : ℕ) → rank_spelled word ≡ Some k → k < 13
rank-below word k e =
    either_below (bytes_eq word (codes "10")) 9 13 k _ (omega arith)
    (either_below (bytes_eq word (codes "1")) 0 13 k _ (omega arith) (letter-below rank_letters word k)) e

height-below : (word : List ℕ) (k : ℕ) → height_spelled word ≡ Some k → k < 14
height-below word k e = either_below (bytes_eq word (codes "0")) 0 14 k _ (omega arith) (raised (rank_spelled word) (rank-below word)) e
  where
    raised : (o : Option ℕ) → ((r : ℕ) → o ≡ Some r → r < 13) → option_map (λ rank. rank + 1) o ≡ Some k → k < 14
    raised None below e = absurd (cc)
    raised (Some r) below e = let small = below r refl in let same = same_Some (r + 1) k e in omega arith

-- two words together
both_some : {X : Type 0} (f : ℕ → ℕ → X) (first second : Option ℕ) (x : X) → option_and_then (λ a. option_map (f a) second) first ≡ Some x
    → (a : ℕ) × (b : ℕ) × (first ≡ Some a) × (second ≡ Some b) × (x ≡ f a b)
both_some f None second x e = absurd (cc)
both_some f (Some a) None x e = absurd (cc)
both_some f (Some a) (Some b) x e = (a, b, refl, refl, cc)

pub card_spelled-IsCard : (word : List ℕ) (card : ℕ) → card_spelled word ≡ Some card → IsCard card
card_spelled-IsCard word card e =
    let (rank, suit, of_rank, of_suit, is) = both_some (λ rank suit. card_of (rank + 1) suit) _ _ card e in
    let low = rank-below (take (length word - 1) word) rank of_rank in
    let small = suit-below (drop (length word - 1) word) suit of_suit in
    omega arith

pub record IsFoundation (foundation : Foundation) : Type 0 where
  pub suit : foundation.suit < 4
  pub height : foundation.height ≤ 13

no_foundation : {X : Type 0} (b : Bool) (o : Option X) (x : X) → cond b o None ≡ Some x → o ≡ Some x
no_foundation true o x e = e
no_foundation false o x e = absurd (cc)

pub foundation_spelled-IsFoundation : (word : List ℕ) (foundation : Foundation) → foundation_spelled word ≡ Some foundation → IsFoundation foundation
foundation_spelled-IsFoundation [] foundation e = absurd (cc)
foundation_spelled-IsFoundation (letter ∷ []) foundation e = absurd (cc)
foundation_spelled-IsFoundation (letter ∷ mark ∷ rest) foundation e =
    let (suit, height, of_suit, of_height, is) = both_some (λ suit height. record { suit = suit; height = height }) _ _ foundation (no_foundation (eqb mark 45) _ foundation e) in
    let small = suit-below (letter ∷ []) suit of_suit in
    let low = height-below rest height of_height in
    record {
      suit = rw is (omega arith);
      height = rw is (omega arith);
    }

-- ---- each card and each suit of a word is named once

-- the cards of a foundation are the first ones of its suit
pub count_home : (suit height card : ℕ) → suit < 4 → count_of card (cards_from suit 1 height) ≡ cond (is_up_to suit height card) 1 0
count_home suit height card below = elim (cases_eq (suit_of card) suit) [
  | inl same ↦ elim (leb_tells (rank_of card) height) [
    | inl (test, low) ↦ one_of_run suit 1 height card below (omega arith) same (omega arith) (omega (arith, low))
        ∙ sym (ap {B = ℕ} (λ test. cond test 1 0) (and_from (suit_of card == suit) (nat_le (rank_of card) height) (eq-eqb (suit_of card) suit same) test))
    | inr (test, up) ↦ none_from_run suit 1 height card below (omega arith) (λ same low within. omega (arith, up, within))
        ∙ sym (ap₂ {C = ℕ} (λ a b. cond (a && b) 1 0) (eq-eqb (suit_of card) suit same) test)
  ]
  | inr other ↦ none_from_run suit 1 height card below (omega arith) (λ same low within. other same)
      ∙ sym (ap {B = ℕ} (λ test. cond (test && nat_le (rank_of card) height) 1 0) (ne_eqb (suit_of card) suit other))
]

pub count_at_home : (foundation : Foundation) (card : ℕ) → IsFoundation foundation → count_of card (cards_at_home foundation) ≤ 1
count_at_home foundation card is = subst (λ n. n ≤ 1) (sym (count_home foundation.suit foundation.height card is.suit)) (at_most_one (is_up_to foundation.suit foundation.height card))
  where
    at_most_one : (test : Bool) → cond {A = ℕ} test 1 0 ≤ 1
    at_most_one true = omega arith
    at_most_one false = omega arith

-- the cards of a run are cards
run-IsCard : (suit first count : ℕ) → suit < 4 → 1 ≤ first → first + count ≤ 14 → All IsCard (cards_from suit first count)
run-IsCard suit first zero small from high = All-nil IsCard
run-IsCard suit first (suc count) small from high =
    All-cons IsCard (card_of first suit) (cards_from suit (first + 1) count) (omega arith) (run-IsCard suit (first + 1) count small (omega arith) (omega arith))

pub cards_at_home-IsCard : (foundation : Foundation) → IsFoundation foundation → All IsCard (cards_at_home foundation)
cards_at_home-IsCard foundation is = run-IsCard foundation.suit 1 foundation.height is.suit (omega arith) (let h = is.height in omega arith)

-- ---- the words of each section

abbrev IsHeldOnce : List ℕ → Type 0
IsHeldOnce cards = All IsCard cards × ((card : ℕ) → count_of card cards ≤ 1)

held_none : IsHeldOnce []
held_none = (All-nil IsCard, λ card. omega arith)

held_one : (card : ℕ) → IsCard card → IsHeldOnce (card ∷ [])
held_one card is = (All-cons IsCard card [] is (All-nil IsCard), λ number. count_option (Some card) number)

foundation_held : (o : Option Foundation) → ((foundation : Foundation) → o ≡ Some foundation → IsFoundation foundation) → IsHeldOnce (flat_map cards_at_home (option_to_list o))
foundation_held None is = held_none
foundation_held (Some foundation) is =
    let whole = is foundation refl in
    let cards = append-nil (cards_at_home foundation) in (
      subst (All IsCard) (sym cards) (cards_at_home-IsCard foundation whole),
      λ card. subst (λ held. count_of card held ≤ 1) (sym cards) (count_at_home foundation card whole),
    )

card_held : (o : Option ℕ) → ((card : ℕ) → o ≡ Some card → IsCard card) → IsHeldOnce (option_to_list o)
card_held None is = held_none
card_held (Some card) is = held_one card (is card refl)

cell_held : (empty : Bool) (o : Option ℕ) → ((card : ℕ) → o ≡ Some card → IsCard card)
    → IsHeldOnce (flat_map option_to_list (option_to_list (cond empty (Some None) (option_map (λ card. Some card) o))))
cell_held true o is = held_none
cell_held false None is = held_none
cell_held false (Some card) is = held_one card (is card refl)

pub cards_held : (section : Section) (word : List ℕ) → All IsCard (cards_of_word section word) × ((card : ℕ) → count_of card (cards_of_word section word) ≤ 1)
cards_held Foundations word = foundation_held (foundation_spelled word) (foundation_spelled-IsFoundation word)
cards_held Freecells word = cell_held (is_empty_mark word) (card_spelled word) (card_spelled-IsCard word)
cards_held Column word = card_held (card_spelled word) (card_spelled-IsCard word)

suit_held : (o : Option Foundation) (suit : ℕ) → count_of suit (map (λ foundation. foundation.suit) (option_to_list o)) ≤ 1
suit_held None suit = omega arith
suit_held (Some foundation) suit = count_option (Some foundation.suit) suit

pub suits_held : (section : Section) (word : List ℕ) (suit : ℕ) → count_of suit (suits_of_word section word) ≤ 1
suits_held Foundations word suit = suit_held (foundation_spelled word) suit
suits_held Freecells word suit = omega arith
suits_held Column word suit = omega arith
