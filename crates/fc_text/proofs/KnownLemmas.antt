-- What a reader keeps of the items is enough: the tests on it are those on the items.
use Rattle.std.proofs.Common.{◌&&◌, ◌++◌, ◌+◌, ◌<◌, ◌||◌, ◌∙◌, ◌∷◌, ◌≡◌, ◌≤◌, [], All, ap, append-nil, append_assoc}
use Rattle.std.proofs.Common.{arith, Bool, cond, eqb, false, get_or, inl, inr, leb, length, length-append, List, map}
use Rattle.std.proofs.Common.{None, not, Option, refl, set, Some, suc, sym, true, ℕ}
use Rattle.std.proofs.lemmas.{Bool.{cases_eq, eq-eqb, le-leb, lt-leb, ne_eqb}, List.Elements.{All-head, All-tail}}
use Rattle.std.proofs.lemmas.List.Folds.{list_any-append}
use Rattle.std.proofs.lemmas.List.{get_or-replicate, get_or-set_other, get_or-set_same, length-set, map-append}
use Rattle.std.{proofs.lemmas.List.Sums.{sum_by-cons}, specs.List.{flat_map, list_any}}
use Rattle.std.specs.Option.{is_some, option_map, option_or, option_to_list}
use Rattle.std.proofs.Math.Bool.{or-false, or-true}
use Rattle.{fc_board.specs.Games.{Game}, fc_card.specs.{count_of, IsCard}}
use Rattle.fc_text.proofs.CardLemmas.{among_counted, cards_held, count_first, foundation_spelled-IsFoundation}
use Rattle.fc_text.proofs.{CardLemmas.{IsFoundation}, SeeingLemmas.{also_seen_at}}
use Rattle.fc_text.{proofs.SoundLemmas.{is_formed, item_sound, Sound}, specs.Faults.{bad_word, cards_of_item}}
use Rattle.fc_text.specs.Faults.{cards_of_word, count_of_lines, count_of_words, fault_of_line, fault_of_part}
use Rattle.fc_text.specs.Faults.{first_faulty, has_form, is_past_cells, is_repeated, Item, suits_of_item, suits_of_word}
use Rattle.fc_text.specs.reader.{add_to_last, after_item, after_items, cells_after, columns_after, first_known_fault}
use Rattle.fc_text.specs.reader.{heights_after, is_full, is_line_of, is_named_suit, is_seen, Known, known_height}
use Rattle.fc_text.specs.reader.{known_line_fault, known_part_fault, nothing_known, renames_suit, seen_after, with_card}
use Rattle.fc_text.specs.reader.{with_foundation}
use Rattle.fc_text.specs.Spelling.{card_spelled, cell_spelled, foundation_spelled, height_in, is_section}
use Rattle.fc_text.specs.declared.board.reader.Section.{Section, TheVariants.{Column, Foundations, Freecells}}
use Rattle.fc_text.specs.declared.{board.spelling.Foundation.{Foundation}, fault.BoardFault.{BoardFault}}
use Rattle.fc_text.specs.declared.fault.BoardFaultKind.{BoardFaultKind}
use Rattle.fc_text.specs.declared.fault.BoardFaultKind.TheVariants.{BadFoundation, RepeatedCard, TooManyCells}

-- ---- what the items say of the foundations, the cells and the columns

abbrev pub foundations_of_word : Section → List ℕ → List Foundation
foundations_of_word Foundations word = option_to_list (foundation_spelled word)
foundations_of_word Freecells word = []
foundations_of_word Column word = []

abbrev pub foundations_of : List Item → List Foundation
foundations_of items = flat_map (λ item. flat_map (foundations_of_word item.section) (option_to_list item.word)) items

abbrev pub cells_of_word : Section → List ℕ → List (Option ℕ)
cells_of_word Foundations word = []
cells_of_word Freecells word = option_to_list (cell_spelled word)
cells_of_word Column word = []

abbrev pub cells_of : List Item → List (Option ℕ)
cells_of items = flat_map (λ item. flat_map (cells_of_word item.section) (option_to_list item.word)) items

abbrev pub columns_from : List (List ℕ) → List Item → List (List ℕ)
columns_from columns [] = columns
columns_from columns (item ∷ items) = columns_from (columns_after columns item.section item.word) items

-- the height that was named last for the suit
abbrev pub last_height : List Foundation → ℕ → Option ℕ
last_height [] suit = None
last_height (foundation ∷ rest) suit = option_or (last_height rest suit) (cond (eqb foundation.suit suit) (Some foundation.height) None)

pub after-append : (known : Known) (xs ys : List Item) → after_items known (xs ++ ys) ≡ after_items (after_items known xs) ys
after-append known [] ys = refl
after-append known (item ∷ xs) ys = after-append (after_item known item) xs ys

-- ---- the lines

lines_next : (counted : Section) (item : Item) (items : List Item)
    → count_of_lines counted (item ∷ items) ≡ cond (is_line_of counted item.section item.word) 1 0 + count_of_lines counted items
lines_next counted item items = sum_by-cons (λ item. cond (is_section counted item.section && not (is_some item.word)) 1 0) item items

line_next : (b flag : Bool) (n m : ℕ) → m ≡ cond b 1 0 + n → (leb 1 n || (b || flag)) ≡ (leb 1 m || flag)
line_next true flag n m e = or-true (leb 1 n) ∙ sym (ap (λ b. b || flag) (le-leb 1 m (omega (arith, e))))
line_next false flag n m e = ap (λ n. leb 1 n || flag) (let same : n ≡ m = omega (arith, e) in same)

foundations_line_known : (known : Known) (items : List Item)
    → (after_items known items).foundations_line ≡ (leb 1 (count_of_lines Foundations items) || known.foundations_line)
foundations_line_known known [] = refl
foundations_line_known known (item ∷ items) =
    foundations_line_known (after_item known item) items
    ∙ line_next (is_line_of Foundations item.section item.word) known.foundations_line (count_of_lines Foundations items) (count_of_lines Foundations (item ∷ items)) (lines_next Foundations item items)

cells_line_known : (known : Known) (items : List Item)
    → (after_items known items).cells_line ≡ (leb 1 (count_of_lines Freecells items) || known.cells_line)
cells_line_known known [] = refl
cells_line_known known (item ∷ items) =
    cells_line_known (after_item known item) items
    ∙ line_next (is_line_of Freecells item.section item.word) known.cells_line (count_of_lines Freecells items) (count_of_lines Freecells (item ∷ items)) (lines_next Freecells item items)

-- ---- the columns

pub length-add_to_last : (columns : List (List ℕ)) (card : ℕ) → length (add_to_last columns card) ≡ length columns
length-add_to_last [] card = refl
length-add_to_last (column ∷ []) card = refl
length-add_to_last (column ∷ next ∷ columns) card = ap suc (length-add_to_last (next ∷ columns) card)

pub length-with_card : (columns : List (List ℕ)) (card : Option ℕ) → length (with_card columns card) ≡ length columns
length-with_card columns None = refl
length-with_card columns (Some card) = length-add_to_last columns card

length-columns_after : (columns : List (List ℕ)) (section : Section) (part : Option (List ℕ))
    → length (columns_after columns section part) ≡ length columns + cond (is_line_of Column section part) 1 0
length-columns_after columns Foundations part = omega arith
length-columns_after columns Freecells part = omega arith
length-columns_after columns Column None = length-append columns ([] ∷ [])
length-columns_after columns Column (Some word) = omega (arith, length-with_card columns (card_spelled word))

pub columns_known : (known : Known) (items : List Item) → (after_items known items).columns ≡ columns_from known.columns items
columns_known known [] = refl
columns_known known (item ∷ items) = columns_known (after_item known item) items

length-columns : (known : Known) (items : List Item) → length (after_items known items).columns ≡ length known.columns + count_of_lines Column items
length-columns known [] = omega arith
length-columns known (item ∷ items) =
    omega (arith, length-columns (after_item known item) items, length-columns_after known.columns item.section item.word, lines_next Column item items)

-- ---- the cells

one_cell : (cells : List (Option ℕ)) (section : Section) (part : Option (List ℕ))
    → cells_after cells section part ≡ cells ++ flat_map (cells_of_word section) (option_to_list part)
one_cell cells Foundations None = sym (append-nil cells)
one_cell cells Foundations (Some word) = sym (append-nil cells)
one_cell cells Freecells None = sym (append-nil cells)
one_cell cells Freecells (Some word) = ap (λ more. cells ++ more) (sym (append-nil (option_to_list (cell_spelled word))))
one_cell cells Column None = sym (append-nil cells)
one_cell cells Column (Some word) = sym (append-nil cells)

pub cells_known : (known : Known) (items : List Item) → (after_items known items).cells ≡ known.cells ++ cells_of items
cells_known known [] = sym (append-nil known.cells)
cells_known known (item ∷ items) =
    cells_known (after_item known item) items ∙ ap (λ cells. cells ++ cells_of items) (one_cell known.cells item.section item.word)
    ∙ append_assoc known.cells (flat_map (cells_of_word item.section) (option_to_list item.word)) (cells_of items)

one_formed : {X : Type 0} (o : Option X) → is_some o ≡ true → length (option_to_list o) ≡ 1
one_formed None e = absurd (cc)
one_formed (Some x) e = refl

length-cells_after : (cells : List (Option ℕ)) (section : Section) (part : Option (List ℕ)) → is_formed section part ≡ true
    → length (cells_after cells section part) ≡ length cells + cond (is_section Freecells section && is_some part) 1 0
length-cells_after cells Foundations part e = omega arith
length-cells_after cells Freecells None e = omega arith
length-cells_after cells Freecells (Some word) e = omega (arith, length-append cells (option_to_list (cell_spelled word)), one_formed (cell_spelled word) e)
length-cells_after cells Column part e = omega arith

length-cells : (known : Known) (items : List Item) → All (λ item. is_formed item.section item.word ≡ true) items
    → length (after_items known items).cells ≡ length known.cells + count_of_words Freecells items
length-cells known [] are = omega arith
length-cells known (item ∷ items) are =
    omega (
      arith,
      length-cells (after_item known item) items (All-tail (λ item. is_formed item.section item.word ≡ true) item items are),
      length-cells_after known.cells item.section item.word (All-head (λ item. is_formed item.section item.word ≡ true) item items are),
      sum_by-cons (λ item. cond (is_section Freecells item.section && is_some item.word) 1 0) item items,
    )

-- ---- the heights

or_none : (o : Option ℕ) → option_or o None ≡ o
or_none None = refl
or_none (Some x) = refl

later_or : (a b c : Option ℕ) → option_or (option_or a b) c ≡ option_or a (option_or b c)
later_or None b c = refl
later_or (Some x) b c = refl

last-append : (fs gs : List Foundation) (suit : ℕ) → last_height (fs ++ gs) suit ≡ option_or (last_height gs suit) (last_height fs suit)
last-append [] gs suit = sym (or_none (last_height gs suit))
last-append (foundation ∷ fs) gs suit =
    rw (last-append fs gs suit, later_or (last_height gs suit) (last_height fs suit) (cond (eqb foundation.suit suit) (Some foundation.height) None))

length-heights_after : (heights : List (Option ℕ)) (section : Section) (part : Option (List ℕ))
    → length (heights_after heights section part) ≡ length heights
length-heights_after heights Foundations None = refl
length-heights_after heights Foundations (Some word) = with_it (foundation_spelled word)
  where
    with_it : (o : Option Foundation) → length (with_foundation heights o) ≡ length heights
    with_it None = refl
    with_it (Some foundation) = length-set heights foundation.suit (Some foundation.height)
length-heights_after heights Freecells part = refl
length-heights_after heights Column part = refl

height_after : (heights : List (Option ℕ)) (section : Section) (part : Option (List ℕ)) (suit : ℕ) → suit < length heights
    → get_or (heights_after heights section part) suit None ≡ option_or (last_height (flat_map (foundations_of_word section) (option_to_list part)) suit) (get_or heights suit None)
height_after heights Foundations None suit inside = refl
height_after heights Foundations (Some word) suit inside = with_it (foundation_spelled word)
  where
    with_it : (o : Option Foundation) → get_or (with_foundation heights o) suit None ≡ option_or (last_height (option_to_list o ++ []) suit) (get_or heights suit None)
    with_it None = refl
    with_it (Some foundation) = elim (cases_eq foundation.suit suit) [
      | inl same ↦ ap (λ n. get_or (set heights n (Some foundation.height)) suit None) same ∙ get_or-set_same heights suit (Some foundation.height) None inside
          ∙ ap (λ b. option_or (cond b (Some foundation.height) None) (get_or heights suit None)) (sym (eq-eqb foundation.suit suit same))
      | inr other ↦ get_or-set_other heights foundation.suit suit (Some foundation.height) None (λ e. other (sym e))
          ∙ ap (λ b. option_or (cond b (Some foundation.height) None) (get_or heights suit None)) (sym (ne_eqb foundation.suit suit other))
    ]
height_after heights Freecells None suit inside = refl
height_after heights Freecells (Some word) suit inside = refl
height_after heights Column None suit inside = refl
height_after heights Column (Some word) suit inside = refl

height_from : (known : Known) (items : List Item) (suit : ℕ) → suit < length known.heights
    → get_or (after_items known items).heights suit None ≡ option_or (last_height (foundations_of items) suit) (get_or known.heights suit None)
height_from known [] suit inside = refl
height_from known (item ∷ items) suit inside =
    let named = flat_map (foundations_of_word item.section) (option_to_list item.word) in
    let later = foundations_of items in rw (
      height_from (after_item known item) items suit (omega (arith, inside, length-heights_after known.heights item.section item.word)),
      height_after known.heights item.section item.word suit inside,
      last-append named later suit,
      later_or (last_height later suit) (last_height named suit) (get_or known.heights suit None),
    )

height_known : (items : List Item) (suit : ℕ) → suit < 4
    → get_or (after_items nothing_known items).heights suit None ≡ last_height (foundations_of items) suit
height_known items suit small =
    height_from nothing_known items suit small ∙ ap (option_or (last_height (foundations_of items) suit)) (get_or-replicate 4 suit None None small) ∙ or_none (last_height (foundations_of items) suit)

pub length-heights : (known : Known) (items : List Item) → length (after_items known items).heights ≡ length known.heights
length-heights known [] = refl
length-heights known (item ∷ items) = length-heights (after_item known item) items ∙ length-heights_after known.heights item.section item.word

pub suits_named : (items : List Item) → flat_map suits_of_item items ≡ map (λ foundation. foundation.suit) (foundations_of items)
suits_named [] = refl
suits_named (item ∷ items) =
    let foundations = flat_map (foundations_of_word item.section) (option_to_list item.word) in
    rw (one item.section item.word, suits_named items, map-append (λ foundation. foundation.suit) foundations (foundations_of items))
  where
    named : (word : List ℕ) (o : Option Foundation)
        → map (λ foundation. foundation.suit) (option_to_list o) ++ [] ≡ map (λ foundation. foundation.suit) (option_to_list o ++ [])
    named word None = refl
    named word (Some foundation) = refl

    one : (section : Section) (part : Option (List ℕ))
        → flat_map (suits_of_word section) (option_to_list part) ≡ map (λ foundation. foundation.suit) (flat_map (foundations_of_word section) (option_to_list part))
    one section None = refl
    one Foundations (Some word) = named word (foundation_spelled word)
    one Freecells (Some word) = refl
    one Column (Some word) = refl

is_named : (foundations : List Foundation) (suit : ℕ)
    → is_some (last_height foundations suit) ≡ list_any (λ other. eqb other suit) (map (λ foundation. foundation.suit) foundations)
is_named [] suit = refl
is_named (foundation ∷ rest) suit = first (eqb foundation.suit suit) (last_height rest suit) (list_any (λ other. eqb other suit) (map (λ foundation. foundation.suit) rest)) (is_named rest suit)
  where
    first : (b : Bool) (o : Option ℕ) (among : Bool) → is_some o ≡ among → is_some (option_or o (cond b (Some foundation.height) None)) ≡ (b || among)
    first true None among e = refl
    first true (Some x) among e = refl
    first false None among e = e
    first false (Some x) among e = e

-- where no suit is named twice, the last height is the only one
last_kept : (foundations : List Foundation) (suit : ℕ) → count_of suit (map (λ foundation. foundation.suit) foundations) ≤ 1
    → known_height (last_height foundations suit) ≡ height_in foundations suit
last_kept [] suit few = refl
last_kept (foundation ∷ rest) suit few = elim (count_first foundation.suit suit (map (λ foundation. foundation.suit) rest)) [
  | inl (same, count) ↦
      let suits = map (λ foundation. foundation.suit) rest in
      let none = is_named rest suit ∙ among_counted suits suit ∙ lt-leb 1 (count_of suit suits) (omega (arith, few, count)) in
      only (last_height rest suit) (eqb foundation.suit suit) (eq-eqb foundation.suit suit same) none
  | inr (other, count) ↦ later (last_height rest suit) (eqb foundation.suit suit) (ne_eqb foundation.suit suit other) (last_kept rest suit (omega (arith, few, count)))
]
  where
    only : (o : Option ℕ) (b : Bool) → b ≡ true → is_some o ≡ false
        → known_height (option_or o (cond b (Some foundation.height) None)) ≡ cond b foundation.height (height_in rest suit)
    only None true e none = refl
    only None false e none = absurd (cc)
    only (Some x) b e none = absurd (cc)

    later : (o : Option ℕ) (b : Bool) → b ≡ false → known_height o ≡ height_in rest suit
        → known_height (option_or o (cond b (Some foundation.height) None)) ≡ cond b foundation.height (height_in rest suit)
    later None true e is = absurd (cc)
    later (Some x) true e is = absurd (cc)
    later None false e is = is
    later (Some x) false e is = is

pub heights_known : (game : Game) (items : List Item) → Sound game items → (suit : ℕ) → suit < 4
    → known_height (get_or (after_items nothing_known items).heights suit None) ≡ height_in (foundations_of items) suit
heights_known game items sound suit small =
    rw (height_known items suit small) (last_kept (foundations_of items) suit (rw (suits_named items) at (sound.suits suit)))

-- ---- the cards that were seen

seen_next : (seen : List Bool) (section : Section) (part : Option (List ℕ)) (card : ℕ) → card < 52
    → is_seen (seen_after seen section part) card ≡ (is_seen seen card || list_any (λ other. eqb other card) (flat_map (cards_of_word section) (option_to_list part)))
seen_next seen section None card small = sym (or-false (is_seen seen card))
seen_next seen section (Some word) card small =
    rw (also_seen_at seen (cards_of_word section word) card small, append-nil (cards_of_word section word))

seen_from : (known : Known) (items : List Item) (card : ℕ) → card < 52
    → is_seen (after_items known items).seen card ≡ (is_seen known.seen card || list_any (λ other. eqb other card) (flat_map cards_of_item items))
seen_from known [] card small = sym (or-false (is_seen known.seen card))
seen_from known (item ∷ items) card small =
    let is_this = λ (other : ℕ). eqb other card in rw (
      seen_from (after_item known item) items card small,
      seen_next known.seen item.section item.word card small,
      list_any-append is_this (cards_of_item item) (flat_map cards_of_item items),
      or_later (is_seen known.seen card) (list_any is_this (cards_of_item item)) (list_any is_this (flat_map cards_of_item items)),
    )
  where
    or_later : (a b c : Bool) → ((a || b) || c) ≡ (a || (b || c))
    or_later true b c = refl
    or_later false b c = refl

pub seen_known : (items : List Item) (card : ℕ) → card < 52
    → is_seen (after_items nothing_known items).seen card ≡ list_any (λ other. eqb other card) (flat_map cards_of_item items)
seen_known items card small =
    rw (seen_from nothing_known items card small, get_or-replicate 52 card false false small)

-- ---- the tests agree

-- a test that is another one at each of the numbers
same_any : (P : ℕ → Type 0) (p q : ℕ → Bool) → ((x : ℕ) → P x → p x ≡ q x) → (xs : List ℕ) → All P xs → list_any p xs ≡ list_any q xs
same_any P p q same [] are = refl
same_any P p q same (x ∷ xs) are =
    rw (same x (All-head P x xs are), same_any P p q same xs (All-tail P x xs are))

same_line : (earlier : List Item) (section : Section) → known_line_fault (after_items nothing_known earlier) section ≡ fault_of_line section earlier
same_line earlier Foundations = rw (foundations_line_known nothing_known earlier, or-false (leb 1 (count_of_lines Foundations earlier)))
same_line earlier Freecells = rw (cells_line_known nothing_known earlier, or-false (leb 1 (count_of_lines Freecells earlier)))
same_line earlier Column =
    let all : length (after_items nothing_known earlier).columns ≡ count_of_lines Column earlier = omega (arith, length-columns nothing_known earlier) in rw all

same_room : (game : Game) (earlier : List Item) → Sound game earlier → (section : Section)
    → is_full game (after_items nothing_known earlier) section ≡ is_past_cells game section earlier
same_room game earlier sound Foundations = refl
same_room game earlier sound Freecells =
    let all : length (after_items nothing_known earlier).cells ≡ count_of_words Freecells earlier = omega (arith, length-cells nothing_known earlier sound.forms) in rw all
same_room game earlier sound Column = refl

same_suits : (earlier : List Item) (section : Section) (word : List ℕ)
    → renames_suit (after_items nothing_known earlier) section word ≡ is_repeated suits_of_item earlier (suits_of_word section word)
same_suits earlier Foundations word = one (foundation_spelled word) (foundation_spelled-IsFoundation word)
  where
    one : (o : Option Foundation) → ((foundation : Foundation) → o ≡ Some foundation → IsFoundation foundation)
        → list_any (λ foundation. is_named_suit (after_items nothing_known earlier).heights foundation.suit) (option_to_list o)
        ≡ list_any (λ number. list_any (λ other. eqb other number) (flat_map suits_of_item earlier)) (map (λ foundation. foundation.suit) (option_to_list o))
    one None is = refl
    one (Some foundation) is =
        rw (height_known earlier foundation.suit (is foundation refl).suit, is_named (foundations_of earlier) foundation.suit, suits_named earlier)
same_suits earlier Freecells word = refl
same_suits earlier Column word = refl

same_part : (game : Game) (earlier : List Item) → Sound game earlier → (section : Section) (part : Option (List ℕ))
    → known_part_fault game (after_items nothing_known earlier) section part ≡ fault_of_part game earlier section part
same_part game earlier sound section None = same_line earlier section
same_part game earlier sound section (Some word) =
    let known = after_items nothing_known earlier in
    let room = same_room game earlier sound section in
    let suits = same_suits earlier section word in
    let cards = same_any IsCard (is_seen known.seen) (λ number. list_any (λ other. eqb other number) (flat_map cards_of_item earlier)) (seen_known earlier) (cards_of_word section word) (cards_held section word).0 in
    λ i. cond (room i) (Some TooManyCells) (cond (not (has_form section word)) (Some (bad_word section)) (cond (suits i) (Some BadFoundation) (cond (cards i) (Some RepeatedCard) None)))

-- ---- all items

-- the first fault by what is known is the first fault by the items
pub same_first_fault : (game : Game) (earlier items : List Item) → Sound game earlier
    → first_known_fault game (after_items nothing_known earlier) items ≡ first_faulty game earlier items
same_first_fault game earlier [] sound = refl
same_first_fault game earlier (item ∷ items) sound =
    let same = same_part game earlier sound item.section item.word in
    same_after (known_part_fault game known item.section item.word) (λ none. ap (λ known. first_known_fault game known items) (sym (after-append nothing_known earlier (item ∷ [])))
    ∙ same_first_fault game (earlier ++ item ∷ []) items (item_sound game earlier item sound (sym same ∙ none)))
    ∙ ap (λ kind. option_or (ensured kind) (first_faulty game (earlier ++ item ∷ []) items)) same
  where
    known : Known
    known = after_items nothing_known earlier

    ensured : Option BoardFaultKind → Option BoardFault
    ensured kind = option_map (λ kind. record { place = item.place; kind = kind }) kind

    same_after : {rest other : Option BoardFault} (kind : Option BoardFaultKind) → (kind ≡ None → rest ≡ other)
        → option_or (ensured kind) rest ≡ option_or (ensured kind) other
    same_after None later = later refl
    same_after (Some kind) later = refl
