-- Items that are taken one list after another, line by line and word by word.
use Rattle.std.proofs.Common.{◌&&◌, ◌++◌, ◌+◌, ◌-◌, ◌<◌, ◌||◌, ◌∙◌, ◌∷◌, ◌≡◌, ◌≤◌, ◌⊎◌, [], All, ap, append-nil, arith}
use Rattle.std.proofs.Common.{Bool, cond, drop, drop-drop, false, get_or, inl, inr, leb, length, length-append, List}
use Rattle.std.proofs.Common.{ltb, map, min, None, not, Option, refl, Some, suc, sym, take, true, zero, ℕ}
use Rattle.std.proofs.lemmas.{Bool.{both_ways, Decides.{leb_tells, nat_tests}}, List.{drop_more}}
use Rattle.std.proofs.lemmas.List.{Elements.{All-cons, All-nil}, length-drop, length-take, Sums.{prefix_len-le-length}}
use Rattle.std.{proofs.lemmas.List.{take-append-drop}, specs.{List.{flat_map, prefix_len}, Option.{option_or}}}
use Rattle.std.proofs.Math.Numerals.{one-add}
use Rattle.fc_board.specs.Games.{Game}
use Rattle.fc_text.{proofs.{KnownLemmas.{length-with_card}, WordLemmas.{EndsWord, first_word}}, specs.Bytes.{is_gap}}
use Rattle.fc_text.specs.{Faults.{Item, items_of_row}, Lines.{lines_from, Piece, words_from}, reader.{after_item}}
use Rattle.fc_text.specs.reader.{after_items, after_part, first_known_fault, has_room, is_begun, items_of_words, Known}
use Rattle.fc_text.specs.{reader.{known_fault, nothing_known, rows_after, rows_left, rows_of_line}, Rows.{Blank}}
use Rattle.fc_text.specs.Rows.{column_row, columns_left, Comment, Content, is_empty, Line, line_of, Row, rows_of}
use Rattle.fc_text.specs.{Rows.{rows_within}, Spelling.{card_spelled}}
use Rattle.fc_text.specs.declared.board.reader.Section.{Section, TheVariants.{Column, Foundations, Freecells}}

-- ---- one list of items after another

or_assoc : {X : Type 0} (a b c : Option X) → option_or (option_or a b) c ≡ option_or a (option_or b c)
or_assoc None b c = refl
or_assoc (Some x) b c = refl

pub fault-append : (game : Game) (known : Known) (xs ys : List Item)
    → first_known_fault game known (xs ++ ys) ≡ option_or (first_known_fault game known xs) (first_known_fault game (after_items known xs) ys)
fault-append game known [] ys = refl
fault-append game known (item ∷ xs) ys =
    let next = after_item known item in
    rw (fault-append game next xs ys, or_assoc (known_fault game known item) (first_known_fault game next xs) (first_known_fault game (after_items next xs) ys))

-- ---- the words of a line, from the front

abbrev in_word_byte : ℕ → Bool
in_word_byte byte = not (is_gap byte)

pub word_after_gap : (place byte : ℕ) (rest : List ℕ) → is_gap byte ≡ true
    → words_from is_gap place (byte ∷ rest) ≡ words_from is_gap (place + 1) rest
word_after_gap place byte rest e = rw e

solid_front : (bytes : List ℕ) → All (λ byte. is_gap byte ≡ false) (take (prefix_len in_word_byte bytes) bytes)
solid_front [] = All-nil (λ byte. is_gap byte ≡ false)
solid_front (byte ∷ rest) = by_gap (is_gap byte) refl (solid_front rest)
  where
    by_gap : (b : Bool) → is_gap byte ≡ b → All (λ byte. is_gap byte ≡ false) (take (prefix_len in_word_byte rest) rest)
        → All (λ byte. is_gap byte ≡ false) (take (cond (not b) (1 + prefix_len in_word_byte rest) 0) (byte ∷ rest))
    by_gap true e are = All-nil (λ byte. is_gap byte ≡ false)
    by_gap false e are =
        rw (one-add (prefix_len in_word_byte rest)) (All-cons (λ byte. is_gap byte ≡ false) byte (take (prefix_len in_word_byte rest) rest) e are)

gap_follows : (bytes : List ℕ) → EndsWord is_gap (drop (prefix_len in_word_byte bytes) bytes)
gap_follows [] = tt
gap_follows (byte ∷ rest) = by_gap (is_gap byte) refl (gap_follows rest)
  where
    by_gap : (b : Bool) → is_gap byte ≡ b → EndsWord is_gap (drop (prefix_len in_word_byte rest) rest)
        → EndsWord is_gap (drop (cond (not b) (1 + prefix_len in_word_byte rest) 0) (byte ∷ rest))
    by_gap true e ends = e
    by_gap false e ends = rw (one-add (prefix_len in_word_byte rest)) ends

-- a word that begins with this byte ends before the next gap
word_here : (place byte : ℕ) (rest : List ℕ) → is_gap byte ≡ false → (let k = prefix_len in_word_byte rest in
    words_from is_gap place (byte ∷ rest) ≡ record { start = place; bytes = byte ∷ take k rest } ∷ words_from is_gap (place + length (byte ∷ take k rest)) (drop k rest))
word_here place byte rest e =
    let k = prefix_len in_word_byte rest in
    ap (λ bytes. words_from is_gap place (byte ∷ bytes)) (sym (take-append-drop k rest))
    ∙ first_word is_gap place byte (take k rest) (drop k rest) (All-cons (λ byte. is_gap byte ≡ false) byte (take k rest) e (solid_front rest)) (gap_follows rest)

-- the length of the word that begins at this index
pub record WordAt (start : ℕ) (bytes : List ℕ) (at k : ℕ) : Type 0 where
  pub some : 0 < k
  pub within : at + k ≤ length bytes
  pub words : words_from is_gap (start + at) (drop at bytes) ≡ record { start = start + at; bytes = take k (drop at bytes) } ∷ words_from is_gap (start + (at + k)) (drop (at + k) bytes)

pub word_at : (start : ℕ) (bytes : List ℕ) (at : ℕ) → at < length bytes → is_gap (get_or bytes at 0) ≡ false
    → WordAt start bytes at (prefix_len in_word_byte (drop at bytes))
word_at start bytes at inside e =
    rw (split, e) found
  where
    byte : ℕ
    byte = get_or bytes at 0

    rest : List ℕ
    rest = drop (at + 1) bytes

    k : ℕ
    k = prefix_len in_word_byte rest

    split : drop at bytes ≡ byte ∷ rest
    split = drop_more bytes at 0 inside

    short : k ≤ length rest
    short = prefix_len-le-length in_word_byte rest

    long : length rest ≡ length bytes - (at + 1)
    long = length-drop (at + 1) bytes

    front : take (1 + k) (drop at bytes) ≡ byte ∷ take k rest
    front = rw (split, one-add k)

    follows : drop (at + (1 + k)) bytes ≡ drop k rest
    follows = ap (λ n. drop n bytes) (shuffle at k) ∙ sym (drop-drop k (at + 1) bytes)
      where
        shuffle : (a n : ℕ) → a + (1 + n) ≡ a + 1 + n
        shuffle a n = omega arith

    size : length (byte ∷ take k rest) ≡ 1 + k
    size = ap suc (length-take k rest) ∙ least k (length rest) short
      where
        least : (m n : ℕ) → m ≤ n → suc (min m n) ≡ 1 + m
        least m n h = omega arith

    found : WordAt start bytes at (1 + k)
    found = record {
      some = omega arith;
      within = omega (arith, short, long, inside);
      words = let place : start + (at + (1 + k)) ≡ start + at + (1 + k) = omega arith in rw (front, follows, split, word_here (start + at) byte rest e, size, place);
    }

-- ---- rows, line by line, by what is known

pub ltb_tells : (a b : ℕ) → ((ltb a b ≡ true) × (a < b)) ⊎ ((ltb a b ≡ false) × (b ≤ a))
ltb_tells a b = again (leb_tells (suc a) b)
  where
    again : ((leb (suc a) b ≡ true) × (suc a ≤ b)) ⊎ ((leb (suc a) b ≡ false) × (b < suc a))
        → ((ltb a b ≡ true) × (a < b)) ⊎ ((ltb a b ≡ false) × (b ≤ a))
    again (inl (test, h)) = inl (test, omega arith)
    again (inr (test, h)) = inr (test, omega arith)

pub rows_at_first : (text : List ℕ) → rows_of text ≡ rows_left nothing_known (map line_of (lines_from 0 text))
rows_at_first text = refl

-- words change neither what was begun nor how many columns there are
pub record SameLines (old new : Known) : Type 0 where
  pub begun : is_begun new ≡ is_begun old
  pub columns : length new.columns ≡ length old.columns

SameLines-word : (known : Known) (section : Section) (word : List ℕ) → SameLines known (after_part known section (Some word))
SameLines-word known Foundations word = record { begun = refl; columns = refl }
SameLines-word known Freecells word = record { begun = refl; columns = refl }
SameLines-word known Column word = record {
  begun = ap (λ n. known.foundations_line || known.cells_line || ltb 0 n) (length-with_card known.columns (card_spelled word));
  columns = length-with_card known.columns (card_spelled word);
}

SameLines-words : (known : Known) (section : Section) (words : List Piece) → SameLines known (after_items known (items_of_words section words))
SameLines-words known section [] = record { begun = refl; columns = refl }
SameLines-words known section (word ∷ words) =
    let first = SameLines-word known section word.bytes in
    let rest = SameLines-words (after_part known section (Some word.bytes)) section words in
    record { begun = rest.begun ∙ first.begun; columns = rest.columns ∙ first.columns }

-- a row begins, and takes a place if it is a column's
begun_after : (known : Known) (section : Section) → is_begun (after_part known section None) ≡ true
begun_after known Foundations = refl
begun_after known Freecells = any known.foundations_line (ltb 0 (length known.columns))
  where
    any : (a c : Bool) → ((a || true) || c) ≡ true
    any true c = refl
    any false c = refl
begun_after known Column = by_length known.foundations_line known.cells_line (length (known.columns ++ [] ∷ [])) (length-append known.columns ([] ∷ []))
  where
    by_length : (a b : Bool) (n : ℕ) → n ≡ length known.columns + 1 → ((a || b) || ltb 0 n) ≡ true
    by_length true b n e = refl
    by_length false true n e = refl
    by_length false false n e = grind (arith, nat_tests)

places_after_line : (known : Known) (section : Section)
    → columns_left section (8 - length known.columns) ≡ 8 - length (after_part known section None).columns
places_after_line known Foundations = refl
places_after_line known Freecells = refl
places_after_line known Column =
    one_less (length known.columns) ∙ ap (λ n. 8 - n) (sym (length-append known.columns ([] ∷ [])))
  where
    one_less : (n : ℕ) → 8 - n - 1 ≡ 8 - (n + 1)
    one_less n = omega arith

rows_begun : (known : Known) (lines : List Line) → is_begun known ≡ true → rows_left known lines ≡ rows_within (8 - length known.columns) lines
rows_begun known lines e = rw e

pub held_first : (left : ℕ) (row : Row) (lines : List Line)
    → rows_within left (Content row ∷ lines) ≡ row ∷ rows_within (columns_left row.section left) lines
held_first zero row lines = refl
held_first (suc left) row lines = refl

rows_held : (begun : Bool) (left : ℕ) (row : Row) (lines : List Line)
    → rows_after begun left (Content row ∷ lines) ≡ row ∷ rows_within (columns_left row.section left) lines
rows_held true left row lines = held_first left row lines
rows_held false left row lines = held_first left row lines

-- the rows of a line and of what follows it
pub rows_first : (known : Known) (line : Line) (lines : List Line) → (let rows = rows_of_line (is_begun known) (has_room known) line in
    rows_left known (line ∷ lines) ≡ rows ++ rows_left (after_items known (flat_map items_of_row rows)) lines)
rows_first known Comment lines = by_begun (is_begun known)
  where
    by_begun : (b : Bool) → rows_after b (8 - length known.columns) (Comment ∷ lines) ≡ rows_after b (8 - length known.columns) lines
    by_begun true = comment_first (8 - length known.columns)
      where
        comment_first : (left : ℕ) → rows_within left (Comment ∷ lines) ≡ rows_within left lines
        comment_first zero = refl
        comment_first (suc left) = refl
    by_begun false = rw (one-add (prefix_len is_empty lines))
rows_first known (Content row) lines =
    rows_held (is_begun known) (8 - length known.columns) row lines
    ∙ ap (λ rest. row ∷ rest) (sym later)
  where
    line : Known
    line = after_part known row.section None

    held : Known
    held = after_items line (items_of_words row.section row.words)

    words : SameLines line held
    words = SameLines-words line row.section row.words

    later : rows_left (after_items known (items_of_row row ++ [])) lines ≡ rows_within (columns_left row.section (8 - length known.columns)) lines
    later =
        let begun = words.begun ∙ begun_after known row.section in
        rw (append-nil (items_of_row row), rows_begun held lines begun, words.columns, places_after_line known row.section)
rows_first known (Blank start) lines = by_begun (is_begun known) refl (has_room known) refl
  where
    by_begun : (b : Bool) → is_begun known ≡ b → (p : Bool) → has_room known ≡ p
        → rows_after b (8 - length known.columns) (Blank start ∷ lines)
        ≡ cond (b && p) (column_row start [] ∷ []) [] ++ rows_left (after_items known (flat_map items_of_row (cond (b && p) (column_row start [] ∷ []) []))) lines
    by_begun true begun true place = rw (one_less (ltb_tells (length known.columns) 8), later)
      where
        one_less : (((ltb (length known.columns) 8) ≡ true) × (length known.columns < 8)) ⊎ ((ltb (length known.columns) 8 ≡ false) × (8 ≤ length known.columns))
            → 8 - length known.columns ≡ suc (8 - length (known.columns ++ [] ∷ []))
        one_less (inl (test, small)) = omega (arith, length-append known.columns ([] ∷ []))
        one_less (inr (test, high)) = absurd (both_ways (has_room known) test place)

        later : rows_left (after_part known Column None) lines ≡ rows_within (8 - length (known.columns ++ [] ∷ [])) lines
        later = rows_begun (after_part known Column None) lines (begun_after known Column)
    by_begun true begun false place = blank_skipped (8 - length known.columns) (no_place (ltb_tells (length known.columns) 8)) ∙ sym (rows_begun known lines begun)
      where
        no_place : (((ltb (length known.columns) 8) ≡ true) × (length known.columns < 8)) ⊎ ((ltb (length known.columns) 8 ≡ false) × (8 ≤ length known.columns))
            → 8 - length known.columns ≡ 0
        no_place (inl (test, small)) = absurd (both_ways (has_room known) place test)
        no_place (inr (test, high)) = omega arith

        blank_skipped : (left : ℕ) → left ≡ 0 → rows_within left (Blank start ∷ lines) ≡ rows_within left lines
        blank_skipped zero e = refl
        blank_skipped (suc left) e = absurd (omega arith)
    by_begun false begun p place = rw (one-add (prefix_len is_empty lines), begun)
