-- What holds of the items of a text, by its rows: the lines, the words and the cards of each section.
use Rattle.std.proofs.Common.{◌++◌, ◌+◌, ◌∙◌, ◌∷◌, ◌≡◌, [], All, ap, append-nil, arith, Bool, cond, false, length}
use Rattle.std.proofs.Common.{length-append, List, map, refl, Some, subst, sym, true, ℕ}
use Rattle.std.proofs.lemmas.List.Concat.{flat_map-append}
use Rattle.std.{proofs.lemmas.List.Elements.{All-append, All-cons, All-head, All-nil, All-tail}, specs.List.{flat_map}}
use Rattle.std.specs.Option.{option_to_list}
use Rattle.{fc_board.proofs.BoardLemmas.{All-left, All-right, count_of-append}, fc_card.specs.{count_of}}
use Rattle.fc_text.proofs.SoundLemmas.{is_formed, line_item, lines-append, lines-none, lines-one, word_item}
use Rattle.fc_text.proofs.SoundLemmas.{words-append, words-none, words-one}
use Rattle.fc_text.specs.{Faults.{count_of_lines, count_of_words, has_form, Item, items_of_row}, Lines.{Piece}}
use Rattle.fc_text.specs.{Rows.{Row}, Spelling.{is_section, lines_of, words_of}}
use Rattle.fc_text.specs.declared.board.reader.Section.{Section, TheVariants.{Column, Foundations, Freecells}}

-- ---- lines

pub length-kept : {X : Type 0} (b : Bool) (x : X) (xs : List X) → length (cond b (x ∷ xs) xs) ≡ cond b 1 0 + length xs
length-kept true x xs = omega arith
length-kept false x xs = omega arith

abbrev pub items_of_words : Section → List Piece → List Item
items_of_words section words = map (λ word. record { section = section; place = word.start; word = Some word.bytes }) words

pub no_lines : (counted section : Section) (words : List Piece) → count_of_lines counted (items_of_words section words) ≡ 0
no_lines counted section [] = refl
no_lines counted section (word ∷ words) =
    lines-append counted (word_item section word.start word.bytes ∷ []) (items_of_words section words)
    ∙ ap (λ n. n + count_of_lines counted (items_of_words section words)) (lines-none counted section word.start word.bytes)
    ∙ ap (λ n. 0 + n) (no_lines counted section words)

lines_in_row : (counted : Section) (row : Row) → count_of_lines counted (items_of_row row) ≡ cond (is_section counted row.section) 1 0
lines_in_row counted row =
    let first = line_item row.section row.start ∷ [] in
    let rest = items_of_words row.section row.words in
    let sum = lines-append counted first rest in
    let one = lines-one counted row.section row.start in
    let none = no_lines counted row.section row.words in
    sum ∙ ap (λ n. n + count_of_lines counted rest) one ∙ ap (λ n. cond (is_section counted row.section) 1 0 + n) none ∙ omega arith

pub count_lines : (counted : Section) (rows : List Row) → count_of_lines counted (flat_map items_of_row rows) ≡ length (lines_of counted rows)
count_lines counted [] = refl
count_lines counted (row ∷ rows) =
    lines-append counted (items_of_row row) (flat_map items_of_row rows)
    ∙ ap (λ n. n + count_of_lines counted (flat_map items_of_row rows)) (lines_in_row counted row)
    ∙ ap (λ n. cond (is_section counted row.section) 1 0 + n) (count_lines counted rows)
    ∙ sym (length-kept (is_section counted row.section) row (lines_of counted rows))

-- ---- words

words_kept : (b : Bool) (row : Row) (rows : List Row)
    → flat_map (λ row. row.words) (cond b (row ∷ rows) rows) ≡ cond b row.words [] ++ flat_map (λ row. row.words) rows
words_kept true row rows = refl
words_kept false row rows = refl

pub words_of-cons : (section : Section) (row : Row) (rows : List Row)
    → words_of section (row ∷ rows) ≡ cond (is_section section row.section) row.words [] ++ words_of section rows
words_of-cons section row rows = words_kept (is_section section row.section) row (lines_of section rows)

words_in_items : (section : Section) (words : List Piece)
    → count_of_words Freecells (items_of_words section words) ≡ length (cond (is_section Freecells section) words [])
words_in_items section [] = nothing (is_section Freecells section)
  where
    nothing : (b : Bool) → 0 ≡ length (cond {A = List Piece} b [] [])
    nothing true = refl
    nothing false = refl
words_in_items section (word ∷ words) =
    words-append Freecells (word_item section word.start word.bytes ∷ []) (items_of_words section words)
    ∙ ap (λ n. n + count_of_words Freecells (items_of_words section words)) (words-one section word.start word.bytes)
    ∙ ap (λ n. cond (is_section Freecells section) 1 0 + n) (words_in_items section words)
    ∙ one_more (is_section Freecells section)
  where
    one_more : (b : Bool) → cond b 1 0 + length (cond {A = List Piece} b words []) ≡ length (cond b (word ∷ words) [])
    one_more true = omega arith
    one_more false = refl

words_in_row : (row : Row) → count_of_words Freecells (items_of_row row) ≡ length (cond (is_section Freecells row.section) row.words [])
words_in_row row =
    words-append Freecells (line_item row.section row.start ∷ []) (items_of_words row.section row.words)
    ∙ ap (λ n. n + count_of_words Freecells (items_of_words row.section row.words)) (words-none row.section row.start)
    ∙ ap (λ n. 0 + n) (words_in_items row.section row.words)
    ∙ omega arith

pub count_words : (rows : List Row) → count_of_words Freecells (flat_map items_of_row rows) ≡ length (words_of Freecells rows)
count_words [] = refl
count_words (row ∷ rows) =
    words-append Freecells (items_of_row row) (flat_map items_of_row rows)
    ∙ ap (λ n. n + count_of_words Freecells (flat_map items_of_row rows)) (words_in_row row)
    ∙ ap (λ n. length (cond (is_section Freecells row.section) row.words []) + n) (count_words rows)
    ∙ sym (length-append (cond (is_section Freecells row.section) row.words []) (words_of Freecells rows))
    ∙ ap length (sym (words_of-cons Freecells row rows))

-- ---- forms

abbrev Formed : Item → Type 0
Formed item = is_formed item.section item.word ≡ true

abbrev pub WordsFormed : Section → List Piece → Type 0
WordsFormed section words = All (λ word. has_form section word.bytes ≡ true) words

formed_words : (section : Section) (words : List Piece) → All Formed (items_of_words section words) → WordsFormed section words
formed_words section [] are = All-nil (λ word. has_form section word.bytes ≡ true)
formed_words section (word ∷ words) are =
    All-cons (λ word. has_form section word.bytes ≡ true) word words
    (All-head Formed (word_item section word.start word.bytes) (items_of_words section words) are)
    (formed_words section words (All-tail Formed (word_item section word.start word.bytes) (items_of_words section words) are))

formed_items : (section : Section) (words : List Piece) → WordsFormed section words → All Formed (items_of_words section words)
formed_items section [] are = All-nil Formed
formed_items section (word ∷ words) are =
    All-cons Formed (word_item section word.start word.bytes) (items_of_words section words)
    (All-head (λ word. has_form section word.bytes ≡ true) word words are)
    (formed_items section words (All-tail (λ word. has_form section word.bytes ≡ true) word words are))

kept_words : (section other : Section) (words : List Piece) → WordsFormed other words → WordsFormed section (cond (is_section section other) words [])
kept_words Foundations Foundations words are = are
kept_words Foundations Freecells words are = All-nil (λ word. has_form Foundations word.bytes ≡ true)
kept_words Foundations Column words are = All-nil (λ word. has_form Foundations word.bytes ≡ true)
kept_words Freecells Foundations words are = All-nil (λ word. has_form Freecells word.bytes ≡ true)
kept_words Freecells Freecells words are = are
kept_words Freecells Column words are = All-nil (λ word. has_form Freecells word.bytes ≡ true)
kept_words Column Foundations words are = All-nil (λ word. has_form Column word.bytes ≡ true)
kept_words Column Freecells words are = All-nil (λ word. has_form Column word.bytes ≡ true)
kept_words Column Column words are = are

pub forms_of : (section : Section) (rows : List Row) → All Formed (flat_map items_of_row rows) → WordsFormed section (words_of section rows)
forms_of section [] are = All-nil (λ word. has_form section word.bytes ≡ true)
forms_of section (row ∷ rows) are =
    let here = All-tail Formed (line_item row.section row.start) (items_of_words row.section row.words)
    (All-left Formed (items_of_row row) (flat_map items_of_row rows) are) in
    subst (WordsFormed section) (sym (words_of-cons section row rows))
    (All-append (λ word. has_form section word.bytes ≡ true) (cond (is_section section row.section) row.words []) (words_of section rows)
    (kept_words section row.section row.words (formed_words row.section row.words here))
    (forms_of section rows (All-right Formed (items_of_row row) (flat_map items_of_row rows) are)))

own_words : (section : Section) (words : List Piece) (kept : (counted : Section) → WordsFormed counted (cond (is_section counted section) words []))
    → WordsFormed section words
own_words Foundations words kept = kept Foundations
own_words Freecells words kept = kept Freecells
own_words Column words kept = kept Column

pub formed_from : (rows : List Row) → ((section : Section) → WordsFormed section (words_of section rows)) → All Formed (flat_map items_of_row rows)
formed_from [] are = All-nil Formed
formed_from (row ∷ rows) are =
    let own = λ (counted : Section). cond (is_section counted row.section) row.words [] in
    let parts : (counted : Section) → WordsFormed counted (own counted ++ words_of counted rows) = λ counted. rw (words_of-cons counted row rows) at (are counted) in
    let here = own_words row.section row.words (λ counted. All-left (λ word. has_form counted word.bytes ≡ true) (own counted) (words_of counted rows) (parts counted)) in
    let later : (counted : Section) → WordsFormed counted (words_of counted rows) =
    λ counted. All-right (λ word. has_form counted word.bytes ≡ true) (own counted) (words_of counted rows) (parts counted) in
    All-append Formed (items_of_row row) (flat_map items_of_row rows)
    (All-cons Formed (line_item row.section row.start) (items_of_words row.section row.words) refl (formed_items row.section row.words here))
    (formed_from rows later)

-- ---- the numbers that items name

-- what the words of a section name
abbrev pub in_section : (Section → List ℕ → List ℕ) → Section → List Piece → List ℕ
in_section numbers section words = flat_map (λ word. numbers section word.bytes) words

abbrev numbers_of_item : (Section → List ℕ → List ℕ) → Item → List ℕ
numbers_of_item numbers item = flat_map (numbers item.section) (option_to_list item.word)

numbers_in_words : (numbers : Section → List ℕ → List ℕ) (section : Section) (words : List Piece)
    → flat_map (numbers_of_item numbers) (items_of_words section words) ≡ in_section numbers section words
numbers_in_words numbers section [] = refl
numbers_in_words numbers section (word ∷ words) =
    ap (λ these. these ++ flat_map (numbers_of_item numbers) (items_of_words section words)) (append-nil (numbers section word.bytes))
    ∙ ap (λ rest. numbers section word.bytes ++ rest) (numbers_in_words numbers section words)

-- the numbers of the three sections together, by their counts
abbrev in_all : (Section → List ℕ → List ℕ) → ℕ → List Row → ℕ
in_all numbers number rows =
    count_of number (in_section numbers Foundations (words_of Foundations rows))
    + count_of number (in_section numbers Freecells (words_of Freecells rows))
    + count_of number (in_section numbers Column (words_of Column rows))

in_section-cons : (numbers : Section → List ℕ → List ℕ) (number : ℕ) (section : Section) (row : Row) (rows : List Row)
    → count_of number (in_section numbers section (words_of section (row ∷ rows)))
    ≡ count_of number (in_section numbers section (cond (is_section section row.section) row.words [])) + count_of number (in_section numbers section (words_of section rows))
in_section-cons numbers number section row rows =
    ap (λ words. count_of number (in_section numbers section words)) (words_of-cons section row rows)
    ∙ ap (count_of number) (flat_map-append (λ word. numbers section word.bytes) (cond (is_section section row.section) row.words []) (words_of section rows))
    ∙ count_of-append number (in_section numbers section (cond (is_section section row.section) row.words [])) (in_section numbers section (words_of section rows))

-- a row is in one of the sections
one_section : (numbers : Section → List ℕ → List ℕ) (number : ℕ) (section : Section) (words : List Piece)
    → count_of number (in_section numbers section words)
    ≡ count_of number (in_section numbers Foundations (cond (is_section Foundations section) words []))
    + count_of number (in_section numbers Freecells (cond (is_section Freecells section) words []))
    + count_of number (in_section numbers Column (cond (is_section Column section) words []))
one_section numbers number Foundations words = omega arith
one_section numbers number Freecells words = omega arith
one_section numbers number Column words = omega arith

pub count_numbers : (numbers : Section → List ℕ → List ℕ) (number : ℕ) (rows : List Row)
    → count_of number (flat_map (numbers_of_item numbers) (flat_map items_of_row rows)) ≡ in_all numbers number rows
count_numbers numbers number [] = omega arith
count_numbers numbers number (row ∷ rows) =
    let first = in_section-cons numbers number Foundations row rows in
    let second = in_section-cons numbers number Freecells row rows in
    let third = in_section-cons numbers number Column row rows in
    let here = one_section numbers number row.section row.words in
    let rest = count_numbers numbers number rows in
    let both =
    ap (count_of number) (flat_map-append (numbers_of_item numbers) (items_of_row row) (flat_map items_of_row rows))
    ∙ count_of-append number (flat_map (numbers_of_item numbers) (items_of_row row)) (flat_map (numbers_of_item numbers) (flat_map items_of_row rows)) in
    let own = ap (count_of number) (numbers_in_words numbers row.section row.words) in
    omega arith
