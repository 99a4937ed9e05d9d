-- The parts of a board that is printed.
use Rattle.std.proofs.Common.{◌%◌, ◌*◌, ◌+◌, ◌-◌, ◌/◌, ◌<◌, ◌∙◌, ◌∷◌, ◌≡◌, ◌≤◌, [], All, ap, arith, cond, get_or, inl}
use Rattle.std.proofs.Common.{inr, length, List, map, refl, replicate, set, slice_index, suc, sym, zero, ℕ}
use Rattle.std.proofs.lemmas.{Bool.{cases_eq, ne_eqb}, Grind.{get_or-set_at, get_or_default_zero}}
use Rattle.std.proofs.lemmas.List.FromFn.{get_or-map-range_with_len, length-map-range_with_len}
use Rattle.std.proofs.lemmas.List.{get_or-map, get_or-set_other, get_or_default, length-set, same_lists}
use Rattle.fc_card.specs.{IsCard, IsCode, IsRenaming, laws.RenamingLaws.{renamed_card-identity, renamed_card-IsCard}}
use Rattle.fc_card.specs.{places, renamed_card, renamed_code}
use Rattle.{fc_board.specs.Passages.{renamed_column}, fc_text.specs.writer.{AreNumbers}}

-- a list is its items one by one
pub all_items : {U : Type 0} (items : List U) (none : U) → items ≡ map (λ place. get_or items place none) (places
    (length items))
all_items items none =
    same_lists items (map (λ place. get_or items place none) (places (length items))) (sym (length-map-range_with_len
    (λ place. get_or items place none) 0 (length items)))
    (λ k d h. get_or_default items k d none h ∙ sym (get_or-map-range_with_len (λ place. get_or items place none) 0
    (length items) k k d h (omega arith)))

-- and eight are these
pub eight_items : {U : Type 0} (items : List U) (none a b c d e f g h : U) → length items ≡ 8
    → a ≡ get_or items 0 none → b ≡ get_or items 1 none → c ≡ get_or items 2 none → d ≡ get_or items 3 none →
    e ≡ get_or items 4 none → f ≡ get_or items 5 none → g ≡ get_or items 6 none → h ≡ get_or items 7 none
    → (a ∷ b ∷ c ∷ d ∷ e ∷ f ∷ g ∷ h ∷ []) ≡ items
eight_items items none a b c d e f g h eight at_a at_b at_c at_d at_e at_f at_g at_h =
    (λ i. at_a i ∷ at_b i ∷ at_c i ∷ at_d i ∷ at_e i ∷ at_f i ∷ at_g i ∷ at_h i ∷ []) ∙ sym (all_items items none
    ∙ ap (λ count. map (λ place. get_or items place none) (places count)) eight)

-- cards renamed to themselves
renamed_column-identity : (column : List ℕ) → renamed_column (places 4) column ≡ column
renamed_column-identity [] = refl
renamed_column-identity (card ∷ column) = λ i. renamed_card-identity card i ∷ renamed_column-identity column i

pub columns-identity : {U : Type 0} (cards : U → List ℕ) (columns : List U)
    → map (λ column. renamed_column (places 4) (cards column)) columns ≡ map cards columns
columns-identity cards [] = refl
columns-identity cards (column ∷ columns) = λ i. renamed_column-identity
    (cards column) i ∷ columns-identity cards columns i

-- ---- numbers of cards
-- ---- the images of the cards of a deck, by the numbers of the cards

-- the numbers of the cards below this one, each plus 1, are there, among 64 bytes
pub record AreNumbered (numbers : List ℕ) (number : ℕ) : Type 0 where
  pub numbered : (card : ℕ) → card < number → slice_index numbers card ≡ card + 1
  pub all : (place : ℕ) → slice_index numbers place ≤ 52
  pub long : length numbers ≡ 64

pub numbered-next : (numbers : List ℕ) (number at : ℕ) → number < 52 → at ≡ number → AreNumbered numbers number
    → AreNumbered (set numbers at (number + 1)) (number + 1)
numbered-next numbers number at small here before = record {
  numbered = λ card below. elim (cases_eq card at) [
    | inl same ↦ get_or-set_at numbers at card (number + 1) 0 same (omega (arith, here, small, before.long))
        ∙ omega (arith, here, same)
    | inr not ↦ get_or-set_other numbers at card (number + 1) 0 not ∙ before.numbered card (omega (
      arith,
      below,
      not,
      here,
    ))
  ];
  all = λ place. elim (cases_eq place at) [
    | inl same ↦ omega (
      arith,
      get_or-set_at numbers at place (number + 1) 0 same (omega (
        arith,
        here,
        small,
        before.long,
      )),
      small,
    )
    | inr not ↦ omega (arith, get_or-set_other numbers at place (number + 1) 0 not, before.all place)
  ];
  long = length-set numbers at (number + 1) ∙ before.long;
}

pub zeros-small : (count place : ℕ) → slice_index (replicate count 0) place ≤ 52
zeros-small zero place = omega arith
zeros-small (suc count) zero = omega arith
zeros-small (suc count) (suc place) = zeros-small count place

pub all-codes : (numbers : List ℕ) → ((place : ℕ) → slice_index numbers place ≤ 52) → All IsCode numbers
all-codes numbers small k d inside = omega (arith, small k, get_or_default_zero numbers k d inside)

-- ---- renamed numbers
-- a number plus 1 is renamed as if it were a code
pub number-renamed : (renaming : List ℕ) (card : ℕ) → renamed_code renaming (card + 1) ≡ renamed_card renaming card + 1
number-renamed renaming card =
    let back : card + 1 - 1 ≡ card = omega arith in
    let suit = slice_index renaming (card % 4) in
    let rank : 4 * (card / 4) + suit + 1 ≡ renamed_card renaming card + 1 = omega arith in
    ap (λ test. cond test 0 (4 * ((card + 1 - 1) / 4) + slice_index renaming ((card + 1 - 1) % 4) + 1)) (ne_eqb
    (card + 1) 0 (λ e. omega arith))
    ∙ ap (λ n. 4 * (n / 4) + slice_index renaming (n % 4) + 1) back ∙ rank

pub numbers-renamed : (renaming numbers renamed : List ℕ) (card : ℕ) → length numbers ≡ 64
    → slice_index numbers card ≡ card + 1 → renamed ≡ map (renamed_code renaming) numbers → IsCard card →
    slice_index renamed card ≡ renamed_card renaming card + 1
numbers-renamed renaming numbers renamed card long numbered made in_deck =
    ap (λ numbers. slice_index numbers card) made ∙ get_or-map (renamed_code renaming) numbers card 0 0 (omega (
      arith,
      long,
      in_deck,
    ))
    ∙ ap (renamed_code renaming) numbered ∙ number-renamed renaming card

pub renamed-AreNumbers : (renaming renamed : List ℕ) → IsRenaming renaming → ((card : ℕ) → IsCard card
    → slice_index renamed card ≡ renamed_card renaming card + 1) → AreNumbers renamed
renamed-AreNumbers renaming renamed is are = λ card in_deck.
    let at = are card in_deck in
    let deck = renamed_card-IsCard renaming card is in_deck in
    (omega (arith, at), omega (arith, at, deck))

-- ---- cards by number
-- the cards below this place are those with these numbers less 1
pub record AreTaken (numbers cards : List ℕ) (place : ℕ) : Type 0 where
  pub taken : (card : ℕ) → card < place → slice_index cards card + 1 ≡ slice_index numbers card
  pub long : length cards ≡ 52
