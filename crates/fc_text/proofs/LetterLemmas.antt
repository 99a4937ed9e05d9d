-- The first byte that a search finds, as the place that a count gives.
use Rattle.{fc_text.specs.reader.{number_or, rank_part, suit_part}, memchr.specs.Find.{IsFirstByte}}
use Rattle.std.proofs.Common.{◌*◌, ◌+◌, ◌<◌, ◌==◌, ◌∙◌, ◌∷◌, ◌≡◌, ◌≤◌, [], ap, ap₂, arith, Bool, eqb, get_or}
use Rattle.std.proofs.Common.{IsSome, leb, length, List, map, None, Option, position, refl, Some, subst, sym, true, ℕ}
use Rattle.std.proofs.lemmas.Bool.{agree_below, agree_below_at, eqb-true, false_from_ne_true, leb-true}
use Rattle.std.proofs.lemmas.List.{FromFn.{get_or-range_with_len, length-range_with_len}, get_or-map}
use Rattle.std.{proofs.lemmas.List.Sums.{position_or_len_is}, specs.List.{position_or_len, range_with_len}}
use Rattle.std.specs.Option.{IfSome, option_and_then, option_map, SomeIff}
use Rattle.fc_card.proofs.Letters.{letters_of_card_named, suit_named}
use Rattle.fc_card.specs.{card_of, card_text, IsCard, rank_letter, rank_letters, rank_of, suit_letter, suit_of}

module _ (test : ℕ → Bool) (bytes : List ℕ) where
  pub first_byte-none : IsFirstByte test bytes None → position_or_len test bytes ≡ length bytes
  first_byte-none nowhere =
      position_or_len_is test bytes (length bytes) 0 (omega arith) (λ k below. false_from_ne_true _ (nowhere k (omega arith) below)) (λ inside. absurd (omega arith))

  pub first_byte-some : (place : ℕ) → IsFirstByte test bytes (Some place) → position_or_len test bytes ≡ place
  first_byte-some place found =
      position_or_len_is test bytes place 0 (omega (arith, found.0.high)) (λ k below. false_from_ne_true _ (found.0.before k (omega arith) below)) (λ inside. found.1)

-- ---- tables by letter hold what the letters spell

-- the code of each byte
abbrev pub table : (ℕ → ℕ) → List ℕ
table code = map code (range_with_len 0 256)

pub at_letter : (code : ℕ → ℕ) (index letter : ℕ) → index ≡ letter → letter < 256 → get_or (table code) index 0 ≡ code letter
at_letter code index letter e below =
    let long = length-range_with_len 0 256 in
    ap (λ n. get_or (table code) n 0) e
    ∙ get_or-map code (range_with_len 0 256) letter 0 0 (omega (arith, long))
    ∙ ap code (get_or-range_with_len 0 256 letter 0 below ∙ omega arith)

-- no code is above this number
pub at_most : (code : ℕ → ℕ) (most letter : ℕ) → agree_below (λ letter. leb (code letter) most) (λ _. true) 256 ≡ true → letter < 256 → code letter ≤ most
at_most code most letter all below = leb-true (code letter) most (agree_below_at (λ letter. leb (code letter) most) (λ _. true) 256 letter all below)

-- ---- letters by numbers that join to a card are those that the card is printed in
joined : (place suit : Option ℕ) (card : ℕ) → card ≡ number_or 64 (option_map (λ place. 4 * place) place) + number_or 64 suit → card < 52
    → option_and_then (λ rank. option_map (λ suit. card_of rank suit) suit) (option_map (λ place. place + 1) place) ≡ Some card
joined None suit card is inside = absurd (omega arith)
joined (Some place) None card is inside = absurd (omega arith)
joined (Some place) (Some suit) card is inside = ap Some (omega arith)

letters_printed : (rank suit card : ℕ) → card ≡ rank_part rank + suit_part suit → card < 52 → card_text card ≡ rank ∷ suit ∷ []
letters_printed rank suit card is inside =
    let named = letters_of_card_named rank suit card (joined (position (λ known. known == rank) rank_letters) (suit_named suit) card is inside) in
    ap₂ (λ one two. one ∷ two ∷ []) (sym named.1) (sym named.2)

-- the card whose number is the sum of the two parts
pub card_of_parts : (found : Option ℕ) (rank suit number : ℕ) → SomeIff found (IsCard number) number → number ≡ rank_part rank + suit_part suit → IfSome found (λ card. card_text card ≡ rank ∷ suit ∷ [])
card_of_parts None rank suit number is sum = tt
card_of_parts (Some card) rank suit number is sum = letters_printed rank suit card (is.1 ∙ sum) (omega (arith, is.0, is.1))

-- the two parts of the letters of a card join to its number
all_parts_join : agree_below (λ card. eqb (rank_part (rank_letter (rank_of card)) + suit_part (suit_letter (suit_of card))) card) (λ _. true) 52 ≡ true
all_parts_join = refl

parts_join : (card rank suit : ℕ) → IsCard card → card_text card ≡ rank ∷ suit ∷ [] → rank_part rank + suit_part suit ≡ card
parts_join card rank suit is letters =
    ap₂ (λ rank suit. rank_part rank + suit_part suit) (sym (ap (λ text. get_or text 0 0) letters)) (sym (ap (λ text. get_or text 1 0) letters))
    ∙ eqb-true (rank_part (rank_letter (rank_of card)) + suit_part (suit_letter (suit_of card))) card
    (agree_below_at (λ card. eqb (rank_part (rank_letter (rank_of card)) + suit_part (suit_letter (suit_of card))) card) (λ _. true) 52 card all_parts_join is)

some_found : (found : Option ℕ) (number : ℕ) → SomeIff found (IsCard number) number → IsCard number → IsSome found
some_found None number is in_deck = absurd (is in_deck)
some_found (Some card) number is in_deck = refl

-- the letters of a card are found
pub letters_found : (found : Option ℕ) (rank suit number card : ℕ) → SomeIff found (IsCard number) number → number ≡ rank_part rank + suit_part suit
    → IsCard card → card_text card ≡ rank ∷ suit ∷ [] → IsSome found
letters_found found rank suit number card is sum in_deck letters =
    some_found found number is (subst IsCard (sym (sum ∙ parts_join card rank suit in_deck letters)) in_deck)
