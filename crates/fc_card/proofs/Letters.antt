-- The two letters of a card, read back.
use Rattle.std.proofs.Common.{◌+◌, ◌-◌, ◌<◌, ◌==◌, ◌∙◌, ◌≡◌, ap, arith, Bool, false, None, Option, option_and_then}
use Rattle.std.proofs.Common.{position, refl, slice_index, Some, sym, true, ℕ}
use Rattle.std.proofs.lemmas.{Bool.{agree_below, agree_below_at, eqb-true}, List.Quantifiers.{position-Some}}
use Rattle.std.{proofs.lemmas.Option.{option_and_then_some}, specs.Option.{option_map}}
use Rattle.fc_card.specs.{card_of, card_text, IsCard, rank_letter, rank_letters, rank_of, suit_letter, suit_letters}
use Rattle.fc_card.specs.{suit_of}

-- the number of the rank that this letter stands for
abbrev pub rank_named : ℕ → Option ℕ
rank_named letter = option_map (λ place. place + 1) (position (λ known. known == letter) rank_letters)

-- the number of the suit that this letter stands for
abbrev pub suit_named : ℕ → Option ℕ
suit_named letter = position (λ known. known == letter) suit_letters

-- the card that these two letters name, where they are the letter of a rank and the letter of a suit
abbrev pub card_named : ℕ → ℕ → Option ℕ
card_named first second =
    option_and_then (λ rank. option_map (λ suit. card_of rank suit) (suit_named second)) (rank_named first)

-- the answer is this number
abbrev pub answers : Option ℕ → ℕ → Bool
answers (Some found) card = found == card
answers None card = false

pub answers-true : (answer : Option ℕ) (card : ℕ) → answers answer card ≡ true → answer ≡ Some card
answers-true (Some found) card h = ap Some (eqb-true found card h)
answers-true None card h = cc

-- the card that the two letters of this number name
abbrev named_by_letters : ℕ → Option ℕ
named_by_letters card = card_named (rank_letter (rank_of card)) (suit_letter (suit_of card))

all_lead_back : agree_below (λ card. answers (named_by_letters card) card) (λ _. true) 52 ≡ true
all_lead_back = refl

-- the two letters of a card name that card
pub card_named-letters : (card : ℕ) → IsCard card → card_named (rank_letter (rank_of card)) (suit_letter (suit_of card)) ≡ Some card
card_named-letters card in_deck =
    answers-true (named_by_letters card) card
    (agree_below_at (λ card. answers (named_by_letters card) card) (λ _. true) 52 card all_lead_back in_deck)

option_map_some : (f : ℕ → ℕ) (answer : Option ℕ) (y : ℕ) → option_map f answer ≡ Some y → (x : ℕ) × (answer ≡ Some x) × (f x ≡ y)
option_map_some f None y h = cc
option_map_some f (Some x) y h = (x, refl, cc)

-- the card of this place among the ranks and this place among the suits has the letters there
letters_at : (place suit card : ℕ) → place < 13 → suit < 4 → card_of (place + 1) suit ≡ card →
    IsCard card × slice_index rank_letters place ≡ rank_letter (rank_of card) × slice_index suit_letters suit ≡ suit_letter (suit_of card)
letters_at place suit card a b e =
    let same_place : place ≡ rank_of card - 1 = omega arith in
    let same_suit : suit ≡ suit_of card = omega arith in
    (omega arith, ap (λ i. slice_index rank_letters i) same_place, ap (λ i. slice_index suit_letters i) same_suit)

-- two letters that name a card are the letters of that card
pub letters_of_card_named : (first second card : ℕ) → card_named first second ≡ Some card →
    IsCard card × first ≡ rank_letter (rank_of card) × second ≡ suit_letter (suit_of card)
letters_of_card_named first second card h =
    option_and_then_some {P = IsCard card × first ≡ rank_letter (rank_of card) × second ≡ suit_letter (suit_of card)}
    (λ rank. option_map (λ suit. card_of rank suit) (suit_named second)) (rank_named first) card h (λ rank of_first of_second.
    let (place, at_place, is_rank) = option_map_some (λ place. place + 1) (position (λ known. known == first) rank_letters) rank of_first in
    let (suit, at_suit, is_card) = option_map_some (λ suit. card_of rank suit) (suit_named second) card of_second in
    let (in_ranks, is_first, _) = position-Some (λ known. known == first) rank_letters place 0 at_place in
    let (in_suits, is_second, _) = position-Some (λ known. known == second) suit_letters suit 0 at_suit in
    let (in_deck, first_there, second_there) = letters_at place suit card in_ranks in_suits (ap (λ r. card_of r suit) is_rank ∙ is_card) in (
      in_deck,
      sym (eqb-true (slice_index rank_letters place) first is_first) ∙ first_there,
      sym (eqb-true (slice_index suit_letters suit) second is_second) ∙ second_there,
    ))

-- no two cards are printed alike
pub same_card_text : (card other : ℕ) → IsCard card → IsCard other → card_text card ≡ card_text other → card ≡ other
same_card_text card other in_deck other_in_deck h =
    let e = card_named-letters card in_deck in
    let f = card_named-letters other other_in_deck in
    cc
