-- No item of a list is at fault exactly where the list as a whole is sound: each line and each word within its bound, each form good, each suit and each card named once.
use Rattle.std.proofs.Common.{◌&&◌, ◌++◌, ◌+◌, ◌||◌, ◌∙◌, ◌∷◌, ◌≡◌, ◌≤◌, [], All, ap, append-nil, append_assoc, arith}
use Rattle.std.proofs.Common.{Bool, cond, eqb, false, inl, inr, leb, List, None, not, Option, refl, Some, subst, sym}
use Rattle.std.proofs.{Common.{true, ℕ}, lemmas.Bool.{both_ways, cases_eq, Decides.{nat_tests}}}
use Rattle.std.proofs.lemmas.Bool.{eq-eqb, false_from_ne_true, le-leb, leb-true, not-false, or_parts}
use Rattle.std.proofs.lemmas.List.Concat.{flat_map-append}
use Rattle.std.proofs.lemmas.List.{Elements.{All-append, All-cons, All-head, All-nil, All-tail}, Sums.{sum_by-append}}
use Rattle.std.specs.{List.{flat_map, list_any}, Option.{is_some, option_map, option_or}}
use Rattle.fc_card.specs.{count_of, IsCard}
use Rattle.fc_board.{proofs.BoardLemmas.{All-left, All-right, count_of-append, count_of-cons}, specs.Games.{Game}}
use Rattle.fc_text.{proofs.CardLemmas.{among_counted, cards_held, suits_held}, specs.Faults.{cards_of_item}}
use Rattle.fc_text.specs.Faults.{cards_of_word, count_of_lines, count_of_words, fault_of_line, fault_of_part}
use Rattle.fc_text.specs.Faults.{fault_of_word, first_faulty, has_form, is_past_cells, is_repeated, Item, suits_of_item}
use Rattle.fc_text.specs.{Faults.{suits_of_word}, Spelling.{is_section}}
use Rattle.fc_text.specs.declared.board.reader.Section.{Section, TheVariants.{Column, Foundations, Freecells}}

-- ---- numbers that are in a list

pub present : (number : ℕ) (numbers : List ℕ) → list_any (λ other. eqb other number) numbers ≡ true → 1 ≤ count_of number numbers
present number numbers h = leb-true 1 (count_of number numbers) (sym (among_counted numbers number) ∙ h)

pub absent : (number : ℕ) (numbers : List ℕ) → list_any (λ other. eqb other number) numbers ≡ false → count_of number numbers ≡ 0
absent number numbers h = elim (cases_eq (count_of number numbers) 0) [
  | inl none ↦ none
  | inr some ↦ absurd (both_ways _ h (among_counted numbers number ∙ le-leb 1 (count_of number numbers) (omega (arith, some))))
]

-- ---- numbers that name earlier items too

apart_step : (here : Bool) (x number count rest later earlier : ℕ) → here ≡ eqb x number → count ≡ cond here 1 0 + rest → rest + earlier ≤ 1
    → count ≤ 1
    → (x ≡ number → earlier ≡ 0) → count + earlier ≤ 1
apart_step true x number count rest later earlier is e together once none =
    let same : x ≡ number = grind (arith, nat_tests) in
    let gone = none same in
    omega arith
apart_step false x number count rest later earlier is e together once none = omega arith

-- where none of these numbers is repeated, each is once among all
pub not_repeated : (numbers : Item → List ℕ) (earlier : List Item) (these : List ℕ) (number : ℕ) → is_repeated numbers earlier these ≡ false
    → count_of number these ≤ 1 → count_of number (flat_map numbers earlier) ≤ 1
    → count_of number these + count_of number (flat_map numbers earlier) ≤ 1
not_repeated numbers earlier [] number h once before = omega arith
not_repeated numbers earlier (x ∷ these) number h once before =
    let here = list_any (λ other. eqb other x) (flat_map numbers earlier) in
    let parts : (here ≡ false) × (is_repeated numbers earlier these ≡ false) = or_parts here (is_repeated numbers earlier these) h in
    let count = count_of-cons number x these in
    let rest = not_repeated numbers earlier these number parts.1 (omega arith) before in
    apart_step (eqb x number) x number (count_of number (x ∷ these)) (count_of number these) 0 (count_of number (flat_map numbers earlier)) refl count rest once
    (λ same. ap (λ n. count_of n (flat_map numbers earlier)) (sym same) ∙ absent x (flat_map numbers earlier) parts.0)

own_step : (here : Bool) (n rest : ℕ) → here ≡ true → n ≡ cond here 1 0 + rest → n ≡ 1 + rest
own_step true n rest e f = omega arith
own_step false n rest e f = absurd (cc)

count_of-own : (x : ℕ) (xs : List ℕ) → count_of x (x ∷ xs) ≡ 1 + count_of x xs
count_of-own x xs = own_step (eqb x x) (count_of x (x ∷ xs)) (count_of x xs) (eq-eqb x x refl) (count_of-cons x x xs)

-- where each of these numbers is once among all, none is repeated
pub no_repeat : (numbers : Item → List ℕ) (earlier : List Item) (these : List ℕ) (P : ℕ → Type 0) → All P these
    → ((number : ℕ) → P number → count_of number these + count_of number (flat_map numbers earlier) ≤ 1) → is_repeated numbers earlier these ≡ false
no_repeat numbers earlier [] P are once = refl
no_repeat numbers earlier (x ∷ these) P are once =
    let here = list_any (λ other. eqb other x) (flat_map numbers earlier) in
    let count = count_of-own x these in
    let all = once x (All-head P x these are) in
    let alone : count_of x (flat_map numbers earlier) ≡ 0 = omega arith in
    let gone : here ≡ false = false_from_ne_true here (λ found. let some = present x (flat_map numbers earlier) found in absurd (omega arith)) in
    let later : is_repeated numbers earlier these ≡ false =
    no_repeat numbers earlier these P (All-tail P x these are) (λ number p. let more = once number p in let step = count_of-cons number x these in omega arith) in
    ap (λ b. b || is_repeated numbers earlier these) gone ∙ later

-- ---- soundness

-- a line has a form, and a word has the form of its section's words
abbrev pub is_formed : Section → Option (List ℕ) → Bool
is_formed section None = true
is_formed section (Some word) = has_form section word

pub record Sound (game : Game) (items : List Item) : Type 0 where
  pub foundations_lines : count_of_lines Foundations items ≤ 1
  pub cells_lines : count_of_lines Freecells items ≤ 1
  pub column_lines : count_of_lines Column items ≤ 8
  pub cell_words : count_of_words Freecells items ≤ game.cells
  pub forms : All (λ item. is_formed item.section item.word ≡ true) items
  pub suits : (suit : ℕ) → count_of suit (flat_map suits_of_item items) ≤ 1
  pub cards : (card : ℕ) → count_of card (flat_map cards_of_item items) ≤ 1

pub lines-append : (section : Section) (xs ys : List Item) → count_of_lines section (xs ++ ys) ≡ count_of_lines section xs + count_of_lines section ys
lines-append section xs ys = sum_by-append (λ item. cond (is_section section item.section && not (is_some item.word)) 1 0) xs ys

pub words-append : (section : Section) (xs ys : List Item) → count_of_words section (xs ++ ys) ≡ count_of_words section xs + count_of_words section ys
words-append section xs ys = sum_by-append (λ item. cond (is_section section item.section && is_some item.word) 1 0) xs ys

numbers-append : (numbers : Item → List ℕ) (number : ℕ) (xs ys : List Item)
    → count_of number (flat_map numbers (xs ++ ys)) ≡ count_of number (flat_map numbers xs) + count_of number (flat_map numbers ys)
numbers-append numbers number xs ys = ap (count_of number) (flat_map-append numbers xs ys) ∙ count_of-append number (flat_map numbers xs) (flat_map numbers ys)

-- what is sound as a whole is so from its front on
pub Sound-front : (game : Game) (xs ys : List Item) → Sound game (xs ++ ys) → Sound game xs
Sound-front game xs ys sound = record {
  foundations_lines = let sum = lines-append Foundations xs ys in let bound = sound.foundations_lines in omega arith;
  cells_lines = let sum = lines-append Freecells xs ys in let bound = sound.cells_lines in omega arith;
  column_lines = let sum = lines-append Column xs ys in let bound = sound.column_lines in omega arith;
  cell_words = let sum = words-append Freecells xs ys in let bound = sound.cell_words in omega arith;
  forms = All-left (λ item. is_formed item.section item.word ≡ true) xs ys sound.forms;
  suits = λ suit. let sum = numbers-append suits_of_item suit xs ys in let bound = sound.suits suit in omega arith;
  cards = λ card. let sum = numbers-append cards_of_item card xs ys in let bound = sound.cards card in omega arith;
}

pub Sound-nil : (game : Game) → Sound game []
Sound-nil game = record {
  foundations_lines = omega arith;
  cells_lines = omega arith;
  column_lines = omega arith;
  cell_words = omega arith;
  forms = All-nil (λ item. is_formed item.section item.word ≡ true);
  suits = λ suit. omega arith;
  cards = λ card. omega arith;
}

-- ---- what one item adds

abbrev pub line_item : Section → ℕ → Item
line_item section place = record { section = section; place = place; word = None }

abbrev pub word_item : Section → ℕ → List ℕ → Item
word_item section place word = record { section = section; place = place; word = Some word }

-- ---- a line

-- a line counts once in its own section
abbrev pub adds_line : Section → Section → ℕ
adds_line counted section = cond (is_section counted section) 1 0

pub lines-one : (counted section : Section) (place : ℕ) → count_of_lines counted (line_item section place ∷ []) ≡ adds_line counted section
lines-one Foundations Foundations place = refl
lines-one Foundations Freecells place = refl
lines-one Foundations Column place = refl
lines-one Freecells Foundations place = refl
lines-one Freecells Freecells place = refl
lines-one Freecells Column place = refl
lines-one Column Foundations place = refl
lines-one Column Freecells place = refl
lines-one Column Column place = refl

pub words-none : (section : Section) (place : ℕ) → count_of_words Freecells (line_item section place ∷ []) ≡ 0
words-none Foundations place = refl
words-none Freecells place = refl
words-none Column place = refl

-- what stays within a bound after one more line
abbrev LinesFit : List Item → Section → Type 0
LinesFit earlier section =
    (count_of_lines Foundations earlier + adds_line Foundations section ≤ 1)
    × (count_of_lines Freecells earlier + adds_line Freecells section ≤ 1)
    × (count_of_lines Column earlier + adds_line Column section ≤ 8)

line_sound : (game : Game) (earlier : List Item) (section : Section) (place : ℕ) → Sound game earlier → LinesFit earlier section
    → Sound game (earlier ++ line_item section place ∷ [])
line_sound game earlier section place sound (first, second, third) =
    let item = line_item section place in record {
      foundations_lines = let sum = lines-append Foundations earlier (item ∷ []) in let one = lines-one Foundations section place in omega arith;
      cells_lines = let sum = lines-append Freecells earlier (item ∷ []) in let one = lines-one Freecells section place in omega arith;
      column_lines = let sum = lines-append Column earlier (item ∷ []) in let one = lines-one Column section place in omega arith;
      cell_words = let sum = words-append Freecells earlier (item ∷ []) in let none = words-none section place in let bound = sound.cell_words in omega arith;
      forms = All-append (λ item. is_formed item.section item.word ≡ true) earlier (item ∷ []) sound.forms
          (All-cons (λ item. is_formed item.section item.word ≡ true) item [] refl (All-nil (λ item. is_formed item.section item.word ≡ true)));
      suits = λ suit. let sum = numbers-append suits_of_item suit earlier (item ∷ []) in let bound = sound.suits suit in omega arith;
      cards = λ card. let sum = numbers-append cards_of_item card earlier (item ∷ []) in let bound = sound.cards card in omega arith;
    }

add_nothing : (n limit : ℕ) → n ≤ limit → n + 0 ≤ limit
add_nothing n limit h = omega arith

lines_fit : (game : Game) (earlier : List Item) (section : Section) (place : ℕ) → Sound game (earlier ++ line_item section place ∷ [])
    → LinesFit earlier section
lines_fit game earlier section place sound =
    let item = line_item section place in (
      let sum = lines-append Foundations earlier (item ∷ []) in let one = lines-one Foundations section place in let bound = sound.foundations_lines in omega arith,
      let sum = lines-append Freecells earlier (item ∷ []) in let one = lines-one Freecells section place in let bound = sound.cells_lines in omega arith,
      let sum = lines-append Column earlier (item ∷ []) in let one = lines-one Column section place in let bound = sound.column_lines in omega arith,
    )

pub none_from : {X : Type 0} (b : Bool) (x : X) (o : Option X) → cond b (Some x) o ≡ None → (b ≡ false) × (o ≡ None)
none_from true x o e = absurd (cc)
none_from false x o e = (refl, e)

none_to : {X : Type 0} (b : Bool) (x : X) (o : Option X) → b ≡ false → o ≡ None → cond b (Some x) o ≡ None
none_to true x o f e = absurd (cc)
none_to false x o f e = e

below_from : (limit n : ℕ) → leb limit n ≡ false → n + 1 ≤ limit
below_from limit n h = grind (arith, nat_tests)

pub below_to : (limit n : ℕ) → n + 1 ≤ limit → leb limit n ≡ false
below_to limit n h = grind (arith, nat_tests)

fit_from : (game : Game) (earlier : List Item) (section : Section) → Sound game earlier → fault_of_line section earlier ≡ None
    → LinesFit earlier section
fit_from game earlier Foundations sound e =
    let few = below_from 1 (count_of_lines Foundations earlier) (none_from _ _ _ e).0 in
    (few, add_nothing _ _ sound.cells_lines, add_nothing _ _ sound.column_lines)
fit_from game earlier Freecells sound e =
    let few = below_from 1 (count_of_lines Freecells earlier) (none_from _ _ _ e).0 in
    (add_nothing _ _ sound.foundations_lines, few, add_nothing _ _ sound.column_lines)
fit_from game earlier Column sound e =
    let few = below_from 8 (count_of_lines Column earlier) (none_from _ _ _ e).0 in
    (add_nothing _ _ sound.foundations_lines, add_nothing _ _ sound.cells_lines, few)

fit_to : (earlier : List Item) (section : Section) → LinesFit earlier section → fault_of_line section earlier ≡ None
fit_to earlier Foundations fit = none_to _ _ _ (below_to 1 (count_of_lines Foundations earlier) fit.0) refl
fit_to earlier Freecells fit = none_to _ _ _ (below_to 1 (count_of_lines Freecells earlier) fit.1) refl
fit_to earlier Column fit = none_to _ _ _ (below_to 8 (count_of_lines Column earlier) fit.2) refl

-- ---- a word

item_numbers : (f : List ℕ → List ℕ) (word : List ℕ) → flat_map f (word ∷ []) ++ [] ≡ f word
item_numbers f word = append-nil (flat_map f (word ∷ [])) ∙ append-nil (f word)

-- a word of the cells counts once among these
abbrev pub adds_word : Section → ℕ
adds_word section = cond (is_section Freecells section) 1 0

pub words-one : (section : Section) (place : ℕ) (word : List ℕ) → count_of_words Freecells (word_item section place word ∷ []) ≡ adds_word section
words-one Foundations place word = refl
words-one Freecells place word = refl
words-one Column place word = refl

pub lines-none : (counted section : Section) (place : ℕ) (word : List ℕ) → count_of_lines counted (word_item section place word ∷ []) ≡ 0
lines-none Foundations Foundations place word = refl
lines-none Foundations Freecells place word = refl
lines-none Foundations Column place word = refl
lines-none Freecells Foundations place word = refl
lines-none Freecells Freecells place word = refl
lines-none Freecells Column place word = refl
lines-none Column Foundations place word = refl
lines-none Column Freecells place word = refl
lines-none Column Column place word = refl

-- what a word must be after earlier items
pub record WordFits (game : Game) (earlier : List Item) (section : Section) (word : List ℕ) : Type 0 where
  pub cells : count_of_words Freecells earlier + adds_word section ≤ game.cells
  pub form : has_form section word ≡ true
  pub suits : (suit : ℕ) → count_of suit (suits_of_word section word) + count_of suit (flat_map suits_of_item earlier) ≤ 1
  pub cards : (card : ℕ) → count_of card (cards_of_word section word) + count_of card (flat_map cards_of_item earlier) ≤ 1

word_sound : (game : Game) (earlier : List Item) (section : Section) (place : ℕ) (word : List ℕ) → Sound game earlier
    → WordFits game earlier section word
    → Sound game (earlier ++ word_item section place word ∷ [])
word_sound game earlier section place word sound fits =
    let item = word_item section place word in record {
      foundations_lines = let sum = lines-append Foundations earlier (item ∷ []) in let none = lines-none Foundations section place word in let bound = sound.foundations_lines in omega arith;
      cells_lines = let sum = lines-append Freecells earlier (item ∷ []) in let none = lines-none Freecells section place word in let bound = sound.cells_lines in omega arith;
      column_lines = let sum = lines-append Column earlier (item ∷ []) in let none = lines-none Column section place word in let bound = sound.column_lines in omega arith;
      cell_words = let sum = words-append Freecells earlier (item ∷ []) in let one = words-one section place word in let bound = fits.cells in omega arith;
      forms = All-append (λ item. is_formed item.section item.word ≡ true) earlier (item ∷ []) sound.forms
          (All-cons (λ item. is_formed item.section item.word ≡ true) item [] fits.form (All-nil (λ item. is_formed item.section item.word ≡ true)));
      suits = λ suit.
          let sum = numbers-append suits_of_item suit earlier (item ∷ []) in
          let own = ap (count_of suit) (item_numbers (suits_of_word section) word) in
          let bound = fits.suits suit in omega arith;
      cards = λ card.
          let sum = numbers-append cards_of_item card earlier (item ∷ []) in
          let own = ap (count_of card) (item_numbers (cards_of_word section) word) in
          let bound = fits.cards card in omega arith;
    }

word_fits : (game : Game) (earlier : List Item) (section : Section) (place : ℕ) (word : List ℕ)
    → Sound game (earlier ++ word_item section place word ∷ [])
    → WordFits game earlier section word
word_fits game earlier section place word sound =
    let item = word_item section place word in record {
      cells = let sum = words-append Freecells earlier (item ∷ []) in let one = words-one section place word in let bound = sound.cell_words in omega arith;
      form = All-head (λ item. is_formed item.section item.word ≡ true) item [] (All-right (λ item. is_formed item.section item.word ≡ true) earlier (item ∷ []) sound.forms);
      suits = λ suit.
          let sum = numbers-append suits_of_item suit earlier (item ∷ []) in
          let own = ap (count_of suit) (item_numbers (suits_of_word section) word) in
          let bound = sound.suits suit in omega arith;
      cards = λ card.
          let sum = numbers-append cards_of_item card earlier (item ∷ []) in
          let own = ap (count_of card) (item_numbers (cards_of_word section) word) in
          let bound = sound.cards card in omega arith;
    }

-- the cells have a place for the word exactly where it is not past them
place_from : (game : Game) (earlier : List Item) (section : Section) → count_of_words Freecells earlier ≤ game.cells
    → is_past_cells game section earlier ≡ false
    → count_of_words Freecells earlier + adds_word section ≤ game.cells
place_from game earlier Foundations bound e = omega arith
place_from game earlier Freecells bound e = below_from game.cells (count_of_words Freecells earlier) e
place_from game earlier Column bound e = omega arith

place_to : (game : Game) (earlier : List Item) (section : Section) → count_of_words Freecells earlier + adds_word section ≤ game.cells
    → is_past_cells game section earlier ≡ false
place_to game earlier Foundations bound = refl
place_to game earlier Freecells bound = below_to game.cells (count_of_words Freecells earlier) bound
place_to game earlier Column bound = refl

word_fit_from : (game : Game) (earlier : List Item) (section : Section) (word : List ℕ) → Sound game earlier
    → fault_of_word game earlier section word ≡ None
    → WordFits game earlier section word
word_fit_from game earlier section word sound e =
    let (room, formed) = none_from (is_past_cells game section earlier) _ _ e in
    let (form, apart) = none_from (not (has_form section word)) _ _ formed in
    let (suits, others) = none_from (is_repeated suits_of_item earlier (suits_of_word section word)) _ _ apart in
    let (cards, end) = none_from (is_repeated cards_of_item earlier (cards_of_word section word)) _ _ others in
    record {
      cells = place_from game earlier section sound.cell_words room;
      form = not-false (has_form section word) form;
      suits = λ suit. not_repeated suits_of_item earlier (suits_of_word section word) suit suits (suits_held section word suit) (sound.suits suit);
      cards = λ card. not_repeated cards_of_item earlier (cards_of_word section word) card cards ((cards_held section word).1 card) (sound.cards card);
    }

word_fit_to : (game : Game) (earlier : List Item) (section : Section) (word : List ℕ) → WordFits game earlier section word
    → fault_of_word game earlier section word ≡ None
word_fit_to game earlier section word fits =
    let suits = suits_of_word section word in
    let cards = cards_of_word section word in
    let other_suits = no_repeat suits_of_item earlier suits (λ suit. suit ≡ suit) (all_same suits) (λ suit same. fits.suits suit) in
    let other_cards = no_repeat cards_of_item earlier cards IsCard (cards_held section word).0 (λ card is. fits.cards card) in
    none_to (is_past_cells game section earlier) _ _ (place_to game earlier section fits.cells)
    (none_to (not (has_form section word)) _ _ (ap not fits.form)
    (none_to (is_repeated suits_of_item earlier suits) _ _ other_suits
    (none_to (is_repeated cards_of_item earlier cards) _ _ other_cards refl)))
  where
    all_same : (xs : List ℕ) → All (λ x. x ≡ x) xs
    all_same [] = All-nil (λ x. x ≡ x)
    all_same (x ∷ xs) = All-cons (λ x. x ≡ x) x xs refl (all_same xs)

-- ---- one item, and all

pub item_sound : (game : Game) (earlier : List Item) (item : Item) → Sound game earlier → fault_of_part game earlier item.section item.word ≡ None
    → Sound game (earlier ++ item ∷ [])
item_sound game earlier item sound e = part item.section item.place item.word sound e
  where
    part : (section : Section) (place : ℕ) (word : Option (List ℕ)) → Sound game earlier → fault_of_part game earlier section word ≡ None
        → Sound game (earlier ++ record { section = section; place = place; word = word } ∷ [])
    part section place None sound e = line_sound game earlier section place sound (fit_from game earlier section sound e)
    part section place (Some word) sound e = word_sound game earlier section place word sound (word_fit_from game earlier section word sound e)

item_faultless : (game : Game) (earlier : List Item) (item : Item) → Sound game (earlier ++ item ∷ [])
    → fault_of_part game earlier item.section item.word ≡ None
item_faultless game earlier item sound = part item.section item.place item.word sound
  where
    part : (section : Section) (place : ℕ) (word : Option (List ℕ))
        → Sound game (earlier ++ record { section = section; place = place; word = word } ∷ [])
        → fault_of_part game earlier section word ≡ None
    part section place None sound = fit_to earlier section (lines_fit game earlier section place sound)
    part section place (Some word) sound = word_fit_to game earlier section word (word_fits game earlier section place word sound)

pub no_fault : {X Y : Type 0} (f : X → Y) (o : Option X) (rest : Option Y) → option_or (option_map f o) rest ≡ None → (o ≡ None) × (rest ≡ None)
no_fault f None rest e = (refl, e)
no_fault f (Some x) rest e = absurd (cc)

both_none : {X Y : Type 0} (f : X → Y) (o : Option X) (rest : Option Y) → o ≡ None → rest ≡ None → option_or (option_map f o) rest ≡ None
both_none f None rest e r = r
both_none f (Some x) rest e r = absurd (cc)

pub Sound-from_faultless : (game : Game) (earlier items : List Item) → Sound game earlier → first_faulty game earlier items ≡ None
    → Sound game (earlier ++ items)
Sound-from_faultless game earlier [] sound e = subst (Sound game) (sym (append-nil earlier)) sound
Sound-from_faultless game earlier (item ∷ items) sound e =
    let (here, later) = no_fault _ (fault_of_part game earlier item.section item.word) _ e in
    subst (Sound game) (append_assoc earlier (item ∷ []) items)
    (Sound-from_faultless game (earlier ++ item ∷ []) items (item_sound game earlier item sound here) later)

pub faultless-from_Sound : (game : Game) (earlier items : List Item) → Sound game (earlier ++ items) → first_faulty game earlier items ≡ None
faultless-from_Sound game earlier [] sound = refl
faultless-from_Sound game earlier (item ∷ items) sound =
    let all : Sound game ((earlier ++ item ∷ []) ++ items) = subst (Sound game) (sym (append_assoc earlier (item ∷ []) items)) sound in
    both_none _ (fault_of_part game earlier item.section item.word) _
    (item_faultless game earlier item (Sound-front game (earlier ++ item ∷ []) items all))
    (faultless-from_Sound game (earlier ++ item ∷ []) items all)
