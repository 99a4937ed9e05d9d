-- What the words of a text spell, one by one, and how often each card is on the board that they give.
use Rattle.std.proofs.Common.{◌++◌, ◌+◌, ◌<◌, ◌∙◌, ◌∷◌, ◌≡◌, ◌≢◌, ◌≤◌, ◌⊎◌, [], All, ap, append-nil, arith, Bool, cond}
use Rattle.std.proofs.Common.{drop, eqb, false, get_or, inl, inr, leb, List, map, None, Option, refl, replicate, Some}
use Rattle.std.proofs.{Common.{suc, sym, true, zero, ℕ}, lemmas.Bool.{cases_eq, Decides.{leb_tells}, eq-eqb, ne_eqb}}
use Rattle.std.proofs.lemmas.List.Concat.{flat_map-append}
use Rattle.std.proofs.lemmas.List.{Elements.{All-append, All-cons, All-head, All-nil, All-tail}, Sums.{sum_by-cons}}
use Rattle.std.specs.{List.{cons_option, flat_map}, Option.{is_some, option_to_list}}
use Rattle.std.proofs.Math.Nat.{add-zero, zero-add}
use Rattle.fc_card.specs.{count_of, rank_of, suit_of}
use Rattle.fc_board.proofs.BoardLemmas.{All-left, All-right, count_of-append, count_of-cons}
use Rattle.fc_text.proofs.CardLemmas.{foundation_spelled-IsFoundation, IsFoundation, none_from_run, one_of_run}
use Rattle.fc_text.specs.{Faults.{cards_at_home, suits_of_word}, Lines.{Piece}, Rows.{Row}, Spelling.{all_spelled}}
use Rattle.fc_text.specs.Spelling.{card_spelled, count_of_suit, foundation_spelled, height_in, heights_of, OneByOne}
use Rattle.fc_text.specs.declared.board.{reader.Section.TheVariants.{Foundations}, spelling.Foundation.{Foundation}}

-- ---- words that spell items one by one

abbrev pub AllSpelled : {X : Type 0} → (List ℕ → Option X) → List Piece → Type 0
AllSpelled spelled words = All (λ word. is_some (spelled word.bytes) ≡ true) words

one_more : {X : Type 0} (first : Option X) (rest : List (Option X)) (items : List X) → is_some first ≡ true → rest ≡ map (λ item. Some item) items
    → first ∷ rest ≡ map (λ item. Some item) (cons_option first items)
one_more None rest items some e = absurd (cc)
one_more (Some x) rest items some e = ap (λ os. Some x ∷ os) e

pub one_by_one : {X : Type 0} (spelled : List ℕ → Option X) (words : List Piece) → AllSpelled spelled words
    → OneByOne spelled words (all_spelled spelled words)
one_by_one spelled [] are = refl
one_by_one spelled (word ∷ words) are =
    one_more (spelled word.bytes) (map (λ word. spelled word.bytes) words) (all_spelled spelled words)
    (All-head (λ word. is_some (spelled word.bytes) ≡ true) word words are)
    (one_by_one spelled words (All-tail (λ word. is_some (spelled word.bytes) ≡ true) word words are))

same_head : {X : Type 0} (x y : X) (xs ys : List X) → x ∷ xs ≡ y ∷ ys → x ≡ y
same_head x y xs ys e = ap (λ zs. get_or zs 0 x) e

same_tail : {X : Type 0} (x y : X) (xs ys : List X) → x ∷ xs ≡ y ∷ ys → xs ≡ ys
same_tail x y xs ys e = ap (drop 1) e

-- the items that words spell one by one are all that they spell
pub OneByOne-all : {X : Type 0} (spelled : List ℕ → Option X) (words : List Piece) (items : List X) → OneByOne spelled words items
    → AllSpelled spelled words × (items ≡ all_spelled spelled words)
OneByOne-all spelled [] [] e = (All-nil (λ word. is_some (spelled word.bytes) ≡ true), refl)
OneByOne-all spelled [] (item ∷ items) e = absurd (cc)
OneByOne-all spelled (word ∷ words) [] e = absurd (cc)
OneByOne-all spelled (word ∷ words) (item ∷ items) e =
    let first = same_head (spelled word.bytes) (Some item) (map (λ word. spelled word.bytes) words) (map (λ item. Some item) items) e in
    let rest = OneByOne-all spelled words items (same_tail (spelled word.bytes) (Some item) (map (λ word. spelled word.bytes) words) (map (λ item. Some item) items) e) in (
      All-cons (λ word. is_some (spelled word.bytes) ≡ true) word words (ap is_some first) rest.0,
      ap (λ more. item ∷ more) rest.1 ∙ ap (λ o. cons_option o (all_spelled spelled words)) (sym first),
    )

-- ---- the lines of columns

abbrev pub line_spelled : Row → List (Option ℕ)
line_spelled row = map (λ word. card_spelled word.bytes) row.words

abbrev pub line_cards : Row → List ℕ
line_cards row = all_spelled card_spelled row.words

pub lines_one_by_one : (lines : List Row) → AllSpelled card_spelled (flat_map (λ row. row.words) lines)
    → map line_spelled lines ≡ map (map (λ card. Some card)) (map line_cards lines)
lines_one_by_one [] are = refl
lines_one_by_one (row ∷ rows) are =
    let first = one_by_one card_spelled row.words (All-left (λ word. is_some (card_spelled word.bytes) ≡ true) row.words (flat_map (λ row. row.words) rows) are) in
    let rest = lines_one_by_one rows (All-right (λ word. is_some (card_spelled word.bytes) ≡ true) row.words (flat_map (λ row. row.words) rows) are) in
    ap (λ line. line ∷ map line_spelled rows) first ∙ ap (λ more. map (λ card. Some card) (line_cards row) ∷ more) rest

pub lines_all : (lines : List Row) (columns : List (List ℕ)) → map line_spelled lines ≡ map (map (λ card. Some card)) columns
    → AllSpelled card_spelled (flat_map (λ row. row.words) lines) × (columns ≡ map line_cards lines)
lines_all [] [] e = (All-nil (λ word. is_some (card_spelled word.bytes) ≡ true), refl)
lines_all [] (column ∷ columns) e = absurd (cc)
lines_all (row ∷ rows) [] e = absurd (cc)
lines_all (row ∷ rows) (column ∷ columns) e =
    let here = same_head (line_spelled row) (map (λ card. Some card) column) (map line_spelled rows) (map (map (λ card. Some card)) columns) e in
    let first = OneByOne-all card_spelled row.words column here in
    let rest = lines_all rows columns (same_tail (line_spelled row) (map (λ card. Some card) column) (map line_spelled rows) (map (map (λ card. Some card)) columns) e) in (
      All-append (λ word. is_some (card_spelled word.bytes) ≡ true) row.words (flat_map (λ row. row.words) rows) first.0 rest.0,
      ap (λ column. column ∷ columns) first.1 ∙ ap (λ more. line_cards row ∷ more) rest.1,
    )

-- ---- what the words of each section name

abbrev Flat : {X : Type 0} → (List ℕ → Option X) → (X → List ℕ) → List Piece → List ℕ
Flat spelled items_of words = flat_map (λ word. flat_map items_of (option_to_list (spelled word.bytes))) words

flat_one : {X : Type 0} (o : Option X) (items_of : X → List ℕ) (items : List X) (rest : List ℕ) → rest ≡ flat_map items_of items
    → flat_map items_of (option_to_list o) ++ rest ≡ flat_map items_of (cons_option o items)
flat_one None items_of items rest e = e
flat_one (Some x) items_of items rest e = ap (λ front. front ++ rest) (append-nil (items_of x)) ∙ ap (λ more. items_of x ++ more) e

-- words name what the items that they spell name
pub flat_spelled : {X : Type 0} (spelled : List ℕ → Option X) (items_of : X → List ℕ) (words : List Piece)
    → Flat spelled items_of words ≡ flat_map items_of (all_spelled spelled words)
flat_spelled spelled items_of [] = refl
flat_spelled spelled items_of (word ∷ words) = flat_one (spelled word.bytes) items_of (all_spelled spelled words) (Flat spelled items_of words) (flat_spelled spelled items_of words)

cards_one : (o : Option ℕ) (items : List ℕ) → option_to_list o ++ items ≡ cons_option o items
cards_one None items = refl
cards_one (Some x) items = refl

pub cards_spelled : (words : List Piece) → flat_map (λ word. option_to_list (card_spelled word.bytes)) words ≡ all_spelled card_spelled words
cards_spelled [] = refl
cards_spelled (word ∷ words) =
    ap (λ rest. option_to_list (card_spelled word.bytes) ++ rest) (cards_spelled words) ∙ cards_one (card_spelled word.bytes) (all_spelled card_spelled words)

suits_one : (o : Option Foundation) (items : List Foundation)
    → map (λ foundation. foundation.suit) (option_to_list o) ++ map (λ foundation. foundation.suit) items ≡ map (λ foundation. foundation.suit) (cons_option o items)
suits_one None items = refl
suits_one (Some x) items = refl

pub suits_spelled : (words : List Piece)
    → flat_map (λ word. suits_of_word Foundations word.bytes) words ≡ map (λ foundation. foundation.suit) (all_spelled foundation_spelled words)
suits_spelled [] = refl
suits_spelled (word ∷ words) =
    ap (λ rest. suits_of_word Foundations word.bytes ++ rest) (suits_spelled words) ∙ suits_one (foundation_spelled word.bytes) (all_spelled foundation_spelled words)

-- the cards of lines, line by line
pub lines_cards : (lines : List Row) → all_spelled card_spelled (flat_map (λ row. row.words) lines) ≡ flat_map (λ column. column) (map line_cards lines)
lines_cards [] = refl
lines_cards (row ∷ rows) =
    joined row.words (flat_map (λ row. row.words) rows) ∙ ap (λ rest. line_cards row ++ rest) (lines_cards rows)
  where
    front : (o : Option ℕ) (xs ys : List ℕ) → cons_option o (xs ++ ys) ≡ cons_option o xs ++ ys
    front None xs ys = refl
    front (Some x) xs ys = refl

    joined : (xs ys : List Piece) → all_spelled card_spelled (xs ++ ys) ≡ all_spelled card_spelled xs ++ all_spelled card_spelled ys
    joined [] ys = refl
    joined (word ∷ words) ys = ap (cons_option (card_spelled word.bytes)) (joined words ys) ∙ front (card_spelled word.bytes) (all_spelled card_spelled words) (all_spelled card_spelled ys)

-- ---- foundations

abbrev pub AreFoundations : List Foundation → Type 0
AreFoundations foundations = All IsFoundation foundations

pub spelled-AreFoundations : (words : List Piece) → AreFoundations (all_spelled foundation_spelled words)
spelled-AreFoundations [] = All-nil IsFoundation
spelled-AreFoundations (word ∷ words) =
    more (foundation_spelled word.bytes) (foundation_spelled-IsFoundation word.bytes) (all_spelled foundation_spelled words) (spelled-AreFoundations words)
  where
    more : (o : Option Foundation) → ((foundation : Foundation) → o ≡ Some foundation → IsFoundation foundation)
        → (rest : List Foundation) → AreFoundations rest → AreFoundations (cons_option o rest)
    more None is rest are = are
    more (Some foundation) is rest are = All-cons IsFoundation foundation rest (is foundation refl) are

suit_count-cons : (suit : ℕ) (foundation : Foundation) (rest : List Foundation)
    → count_of_suit suit (foundation ∷ rest) ≡ cond (eqb foundation.suit suit) 1 0 + count_of_suit suit rest
suit_count-cons suit foundation rest = sum_by-cons (λ foundation. cond (eqb foundation.suit suit) 1 0) foundation rest

pub count_of_suits : (suit : ℕ) (foundations : List Foundation)
    → count_of suit (map (λ foundation. foundation.suit) foundations) ≡ count_of_suit suit foundations
count_of_suits suit [] = refl
count_of_suits suit (foundation ∷ rest) =
    count_of-cons suit foundation.suit (map (λ foundation. foundation.suit) rest)
    ∙ ap (λ n. cond (eqb foundation.suit suit) 1 0 + n) (count_of_suits suit rest)
    ∙ sym (suit_count-cons suit foundation rest)

-- the cards at home of one foundation
home_in_suit : (foundation : Foundation) (card : ℕ) → IsFoundation foundation → suit_of card ≡ foundation.suit
    → count_of card (cards_at_home foundation) ≡ cond (leb (rank_of card) foundation.height) 1 0
home_in_suit foundation card is same =
    elim (leb_tells (rank_of card) foundation.height) [
      | inl (test, low) ↦ one_of_run foundation.suit 1 foundation.height card is.suit (omega arith) same (omega arith) (omega arith) ∙ ap (λ b. cond b 1 0) (sym test)
      | inr (test, high) ↦ none_from_run foundation.suit 1 foundation.height card is.suit (omega arith) (λ a low below. omega arith) ∙ ap (λ b. cond b 1 0) (sym test)
    ]

home_elsewhere : (foundation : Foundation) (card : ℕ) → IsFoundation foundation → suit_of card ≢ foundation.suit
    → count_of card (cards_at_home foundation) ≡ 0
home_elsewhere foundation card is other = none_from_run foundation.suit 1 foundation.height card is.suit (omega arith) (λ same low high. other same)

-- a suit that is not named has none of its cards at home
not_at_home : (foundations : List Foundation) (card : ℕ) → AreFoundations foundations → count_of_suit (suit_of card) foundations ≡ 0
    → count_of card (flat_map cards_at_home foundations) ≡ 0
not_at_home [] card are none = refl
not_at_home (foundation ∷ rest) card are none =
    let count = suit_count-cons (suit_of card) foundation rest in
    let parts = both_zero (eqb foundation.suit (suit_of card)) (count_of_suit (suit_of card) rest) (sym count ∙ none) in
    let other : suit_of card ≢ foundation.suit = λ same. absurd (differs foundation.suit (suit_of card) parts.0 (sym same)) in
    count_of-append card (cards_at_home foundation) (flat_map cards_at_home rest)
    ∙ ap (λ n. n + count_of card (flat_map cards_at_home rest)) (home_elsewhere foundation card (All-head IsFoundation foundation rest are) other)
    ∙ ap (λ n. 0 + n) (not_at_home rest card (All-tail IsFoundation foundation rest are) parts.1)
    ∙ omega arith
  where
    both_zero : (b : Bool) (n : ℕ) → cond b 1 0 + n ≡ 0 → (b ≡ false) × (n ≡ 0)
    both_zero true n e = absurd (omega arith)
    both_zero false n e = (refl, omega arith)

    differs : (x y : ℕ) → eqb x y ≡ false → x ≡ y → ⊥
    differs x y f same = let t = eq-eqb x y same in absurd (cc)

-- a card is at home exactly where its rank is at most the height of its suit
pub count_home : (foundations : List Foundation) (card : ℕ) → AreFoundations foundations → count_of_suit (suit_of card) foundations ≤ 1
    → count_of card (flat_map cards_at_home foundations) ≡ cond (leb (rank_of card) (height_in foundations (suit_of card))) 1 0
count_home [] card are once = nothing (leb_tells (rank_of card) 0)
  where
    nothing : ((leb (rank_of card) 0 ≡ true) × (rank_of card ≤ 0)) ⊎ ((leb (rank_of card) 0 ≡ false) × (0 < rank_of card))
        → ◌≡◌ {A = ℕ} 0 (cond (leb (rank_of card) 0) 1 0)
    nothing (inl (test, low)) = absurd (omega arith)
    nothing (inr (test, high)) = ap (λ b. cond b 1 0) (sym test)
count_home (foundation ∷ rest) card are once =
    count_of-append card (cards_at_home foundation) (flat_map cards_at_home rest) ∙ by_suit (cases_eq foundation.suit (suit_of card)) (count_home rest card (All-tail IsFoundation foundation rest are))
  where
    home : ℕ → ℕ
    home height = cond (leb (rank_of card) height) 1 0

    whole : IsFoundation foundation
    whole = All-head IsFoundation foundation rest are

    others : AreFoundations rest
    others = All-tail IsFoundation foundation rest are

    zero_left : (b : Bool) (n m : ℕ) → b ≡ true → n ≡ cond b 1 0 + m → n ≤ 1 → m ≡ 0
    zero_left true n m t e h = omega arith
    zero_left false n m t e h = absurd (cc)

    at_most : (b : Bool) (n m : ℕ) → n ≡ cond b 1 0 + m → n ≤ 1 → m ≤ 1
    at_most true n m e h = omega arith
    at_most false n m e h = omega arith

    by_suit : (foundation.suit ≡ suit_of card) ⊎ (foundation.suit ≢ suit_of card)
        → (count_of_suit (suit_of card) rest ≤ 1 → count_of card (flat_map cards_at_home rest) ≡ home (height_in rest (suit_of card)))
        → count_of card (cards_at_home foundation) + count_of card (flat_map cards_at_home rest) ≡ home (height_in (foundation ∷ rest) (suit_of card))
    by_suit (inl same) later =
        let test = eq-eqb foundation.suit (suit_of card) same in
        let none = zero_left (eqb foundation.suit (suit_of card)) (count_of_suit (suit_of card) (foundation ∷ rest)) (count_of_suit (suit_of card) rest) test
        (suit_count-cons (suit_of card) foundation rest) once in
        ap (λ n. n + count_of card (flat_map cards_at_home rest)) (home_in_suit foundation card whole (sym same))
        ∙ ap (λ n. home foundation.height + n) (not_at_home rest card others none)
        ∙ add-zero (home foundation.height)
        ∙ ap home (sym (ap (λ b. cond b foundation.height (height_in rest (suit_of card))) test))
    by_suit (inr other) later =
        let test = ne_eqb foundation.suit (suit_of card) other in
        let few = at_most (eqb foundation.suit (suit_of card)) (count_of_suit (suit_of card) (foundation ∷ rest)) (count_of_suit (suit_of card) rest)
        (suit_count-cons (suit_of card) foundation rest) once in
        ap (λ n. n + count_of card (flat_map cards_at_home rest)) (home_elsewhere foundation card whole (λ same. other (sym same)))
        ∙ zero-add (count_of card (flat_map cards_at_home rest))
        ∙ later few
        ∙ ap home (sym (ap (λ b. cond b foundation.height (height_in rest (suit_of card))) test))

-- the heights of the suits, and their bound
pub height_at : (foundations : List Foundation) (suit : ℕ) → suit < 4 → get_or (heights_of foundations) suit 0 ≡ height_in foundations suit
height_at foundations zero small = refl
height_at foundations (suc zero) small = refl
height_at foundations (suc (suc zero)) small = refl
height_at foundations (suc (suc (suc zero))) small = refl
height_at foundations (suc (suc (suc (suc suit)))) small = absurd (omega arith)

pub height_of-bound : (foundations : List Foundation) (suit : ℕ) → AreFoundations foundations → height_in foundations suit ≤ 13
height_of-bound [] suit are = omega arith
height_of-bound (foundation ∷ rest) suit are =
    let later = height_of-bound rest suit (All-tail IsFoundation foundation rest are) in
    either (eqb foundation.suit suit) foundation.height (height_in rest suit) (All-head IsFoundation foundation rest are).height later
  where
    either : (b : Bool) (x y : ℕ) → x ≤ 13 → y ≤ 13 → cond b x y ≤ 13
    either true x y p q = p
    either false x y p q = q

-- ---- places that are left empty

pub empty_cells : (cells : List (Option ℕ)) (count : ℕ) → flat_map option_to_list (cells ++ replicate count None) ≡ flat_map option_to_list cells
empty_cells cells count = rw (flat_map-append option_to_list cells (replicate count None), nothing count, append-nil (flat_map option_to_list cells))
  where
    nothing : (count : ℕ) → flat_map {X = Option ℕ} option_to_list (replicate count None) ≡ []
    nothing zero = refl
    nothing (suc count) = nothing count

pub empty_columns : (columns : List (List ℕ)) (count : ℕ)
    → flat_map (λ column. column) (columns ++ replicate count []) ≡ flat_map (λ column. column) columns
empty_columns columns count =
    rw (flat_map-append (λ column. column) columns (replicate count []), nothing count, append-nil (flat_map (λ column. column) columns))
  where
    nothing : (count : ℕ) → flat_map {X = List ℕ} {A = ℕ} (λ column. column) (replicate count []) ≡ []
    nothing zero = refl
    nothing (suc count) = nothing count
