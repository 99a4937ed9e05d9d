-- Texts that differ in the case of letters alone are read alike.
use Rattle.std.proofs.Common.{◌&&◌, ◌++◌, ◌+◌, ◌-◌, ◌<◌, ◌∙◌, ◌∷◌, ◌≡◌, [], ap, ap₂, arith, Bool, codes, cond, drop}
use Rattle.std.proofs.Common.{eqb, false, leb, length, List, map, None, Option, refl, Some, suc, take, true, zero, ℕ}
use Rattle.std.proofs.lemmas.{Bool.Decides.{nat_tests}, List.{length-map, map-append}}
use Rattle.std.{proofs.lemmas.Str.Ascii.{lowercase-uppercase, uppercase-uppercase}, specs.Char.{to_ascii_uppercase}}
use Rattle.std.specs.List.{cons_option, flat_map, list_any, position_or_len, prefix_len}
use Rattle.std.specs.Option.{is_some, option_map, option_to_list}
use Rattle.std.specs.Str.{bytes_eq, str_to_ascii_lowercase, str_to_ascii_uppercase}
use Rattle.{fc_board.specs.Games.{Game}, fc_card.specs.{rank_letters, suit_letters}}
use Rattle.fc_text.{proofs.{RowLemmas.{items_of_words}, SoundLemmas.{lines-append, words-append}}, specs.Bytes.{is_gap}}
use Rattle.fc_text.specs.Faults.{cards_of_word, count_of_lines, count_of_words, fault_of_line, fault_of_part}
use Rattle.fc_text.specs.Faults.{first_fault, first_faulty, has_form, is_past_cells, Item, items_of, items_of_row}
use Rattle.fc_text.specs.Faults.{suits_of_word}
use Rattle.fc_text.specs.{Lines.{in_line, in_word, lines_from, Piece, trim_carriage_return, words_from}, Rows.{Blank}}
use Rattle.fc_text.specs.Rows.{cells_names, column_row, columns_left, Comment, Content, heights_names, is_colon}
use Rattle.fc_text.specs.Rows.{is_empty, is_named, Line, line_of, line_of_front, named_row, Row, row_of, rows_of}
use Rattle.fc_text.specs.{Rows.{rows_within}, Spelling.{all_spelled, board_of, card_spelled, cell_spelled}}
use Rattle.fc_text.specs.Spelling.{foundation_spelled, height_spelled, is_section, letter_spelled, lines_of}
use Rattle.fc_text.specs.Spelling.{rank_spelled, words_of}
use Rattle.fc_text.specs.declared.board.reader.Section.{Section, TheVariants.{Column, Foundations, Freecells}}

abbrev upper : List ℕ → List ℕ
upper bytes = str_to_ascii_uppercase bytes

-- a function of what a test chooses is chosen by the test
after_test : {X Y : Type 0} (f : X → Y) (b : Bool) (x y : X) → cond b (f x) (f y) ≡ f (cond b x y)
after_test f true x y = refl
after_test f false x y = refl

-- ---- bytes

-- a byte that is no letter is read alike
other_byte : (byte other : ℕ) → other < 65 → eqb (to_ascii_uppercase byte) other ≡ eqb byte other
other_byte byte other h = grind (arith, nat_tests)

gap_alike : (byte : ℕ) → is_gap (to_ascii_uppercase byte) ≡ is_gap byte
gap_alike byte = rw (other_byte byte 32 (omega arith), other_byte byte 9 (omega arith))

take_alike : (n : ℕ) (bytes : List ℕ) → take n (upper bytes) ≡ upper (take n bytes)
take_alike zero bytes = refl
take_alike (suc n) [] = refl
take_alike (suc n) (byte ∷ bytes) = rw (take_alike n bytes)

drop_alike : (n : ℕ) (bytes : List ℕ) → drop n (upper bytes) ≡ upper (drop n bytes)
drop_alike zero bytes = refl
drop_alike (suc n) [] = refl
drop_alike (suc n) (byte ∷ bytes) = drop_alike n bytes

-- ---- what words spell

-- a word of the given bytes, of which none is a letter
mark_alike : (mark : ℕ) → mark < 65 → (word : List ℕ) → bytes_eq (upper word) (mark ∷ []) ≡ bytes_eq word (mark ∷ [])
mark_alike mark h [] = refl
mark_alike mark h (byte ∷ []) = rw (other_byte byte mark h)
mark_alike mark h (byte ∷ next ∷ rest) = rw (other_byte byte mark h)

ten_alike : (word : List ℕ) → bytes_eq (upper word) (codes "10") ≡ bytes_eq word (codes "10")
ten_alike [] = refl
ten_alike (byte ∷ word) = rw (other_byte byte 49 (omega arith), mark_alike 48 (omega arith) word)

letter_alike : (letters word : List ℕ) → letter_spelled letters (upper word) ≡ letter_spelled letters word
letter_alike letters [] = refl
letter_alike letters (letter ∷ []) = rw (uppercase-uppercase letter)
letter_alike letters (letter ∷ next ∷ rest) = refl

rank_alike : (word : List ℕ) → rank_spelled (upper word) ≡ rank_spelled word
rank_alike word = rw (ten_alike word, mark_alike 49 (omega arith) word, letter_alike rank_letters word)

height_alike : (word : List ℕ) → height_spelled (upper word) ≡ height_spelled word
height_alike word = rw (mark_alike 48 (omega arith) word, rank_alike word)

-- a card is its rank and then its suit
card_alike : (word : List ℕ) → card_spelled (upper word) ≡ card_spelled word
card_alike word =
    let last = length word - 1 in
    rw (
      length-map word to_ascii_uppercase,
      drop_alike last word,
      letter_alike suit_letters (drop last word),
      take_alike last word,
      rank_alike (take last word),
    )

cell_alike : (word : List ℕ) → cell_spelled (upper word) ≡ cell_spelled word
cell_alike word = rw (mark_alike 45 (omega arith) word, mark_alike 42 (omega arith) word, card_alike word)

foundation_alike : (word : List ℕ) → foundation_spelled (upper word) ≡ foundation_spelled word
foundation_alike [] = refl
foundation_alike (letter ∷ []) = refl
foundation_alike (letter ∷ mark ∷ rest) = rw (other_byte mark 45 (omega arith), letter_alike suit_letters (letter ∷ []), height_alike rest)

-- ---- pieces of a text

abbrev upper_piece : Piece → Piece
upper_piece piece = record { start = piece.start; bytes = upper piece.bytes }

-- lines and words are cut alike
lines_alike : (place : ℕ) (text : List ℕ) → lines_from place (upper text) ≡ map upper_piece (lines_from place text)
lines_alike place [] = refl
lines_alike place (byte ∷ rest) =
    rw (other_byte byte 10 (omega arith), lines_alike (place + 1) rest, by_test (eqb byte 10) (lines_from (place + 1) rest))
  where
    by_test : (b : Bool) (lines : List Piece)
        → cond b (record { start = place; bytes = [] } ∷ map upper_piece lines) (in_line place (to_ascii_uppercase byte) (map upper_piece lines))
        ≡ map upper_piece (cond b (record { start = place; bytes = [] } ∷ lines) (in_line place byte lines))
    by_test true lines = refl
    by_test false [] = refl
    by_test false (line ∷ lines) = refl

words_alike : (place : ℕ) (bytes : List ℕ) → words_from is_gap place (upper bytes) ≡ map upper_piece (words_from is_gap place bytes)
words_alike place [] = refl
words_alike place (byte ∷ rest) = rw (gap_alike byte, words_alike (place + 1) rest, by_test (is_gap byte) (words_from is_gap (place + 1) rest))
  where
    by_test : (b : Bool) (words : List Piece)
        → cond b (map upper_piece words) (in_word place (to_ascii_uppercase byte) (map upper_piece words))
        ≡ map upper_piece (cond b words (in_word place byte words))
    by_test true words = refl
    by_test false [] = refl
    by_test false (word ∷ words) =
        after_test (map upper_piece) (eqb word.start (place + 1)) (record { start = place; bytes = byte ∷ word.bytes } ∷ words)
        (record { start = place; bytes = byte ∷ [] } ∷ word ∷ words)

return_alike : (line : List ℕ) → trim_carriage_return (upper line) ≡ upper (trim_carriage_return line)
return_alike [] = refl
return_alike (byte ∷ []) = rw (other_byte byte 13 (omega arith), after_test upper (eqb byte 13) [] (byte ∷ []))
return_alike (byte ∷ next ∷ rest) = rw (return_alike (next ∷ rest))

prefix_alike : (bytes : List ℕ) → prefix_len is_gap (upper bytes) ≡ prefix_len is_gap bytes
prefix_alike [] = refl
prefix_alike (byte ∷ bytes) = rw (gap_alike byte, prefix_alike bytes)

colon_alike : (bytes : List ℕ) → position_or_len is_colon (upper bytes) ≡ position_or_len is_colon bytes
colon_alike [] = refl
colon_alike (byte ∷ bytes) = rw (other_byte byte 58 (omega arith), colon_alike bytes)

some_colon_alike : (bytes : List ℕ) → list_any is_colon (upper bytes) ≡ list_any is_colon bytes
some_colon_alike [] = refl
some_colon_alike (byte ∷ bytes) = rw (other_byte byte 58 (omega arith), some_colon_alike bytes)

lower_alike : (bytes : List ℕ) → str_to_ascii_lowercase (upper bytes) ≡ str_to_ascii_lowercase bytes
lower_alike [] = refl
lower_alike (byte ∷ bytes) = rw (lowercase-uppercase byte, lower_alike bytes)

-- ---- rows

abbrev upper_row : Row → Row
upper_row row = record { section = row.section; start = row.start; words = map upper_piece row.words }

abbrev upper_line : Line → Line
upper_line Comment = Comment
upper_line (Blank start) = Blank start
upper_line (Content row) = Content (upper_row row)

named_alike : (names : List (List ℕ)) (bytes : List ℕ) → is_named names (upper bytes) ≡ is_named names bytes
named_alike names bytes =
    let colon = position_or_len is_colon bytes in
    rw (some_colon_alike bytes, colon_alike bytes, take_alike colon bytes)
    (ap (λ lower. list_any is_colon bytes && list_any (λ known. bytes_eq lower (str_to_ascii_lowercase known)) names)
    (lower_alike (take colon bytes)))

named_row_alike : (section : Section) (start : ℕ) (bytes : List ℕ) → named_row section start (upper bytes) ≡ upper_row (named_row section start bytes)
named_row_alike section start bytes = rw (
  colon_alike bytes,
  drop_alike (position_or_len is_colon bytes + 1) bytes,
  words_alike (start + position_or_len is_colon bytes + 1) (drop (position_or_len is_colon bytes + 1) bytes),
)

column_alike : (start : ℕ) (bytes : List ℕ) → column_row start (upper bytes) ≡ upper_row (column_row start bytes)
column_alike start [] = refl
column_alike start (byte ∷ rest) =
    ap (λ words. record { section = Column; start = start; words = words })
    (ap (λ b. cond b (words_from is_gap (start + 1) (upper rest)) (words_from is_gap start (upper (byte ∷ rest)))) (other_byte byte 58 (omega arith))
    ∙ ap₂ (λ follows whole. cond (eqb byte 58) follows whole) (words_alike (start + 1) rest) (words_alike start (byte ∷ rest))
    ∙ after_test (map upper_piece) (eqb byte 58) (words_from is_gap (start + 1) rest) (words_from is_gap start (byte ∷ rest)))

-- a row is known by its name, or is a column
row_alike : (start : ℕ) (bytes : List ℕ) → row_of start (upper bytes) ≡ upper_row (row_of start bytes)
row_alike start bytes = rw (
  named_alike heights_names bytes,
  named_alike cells_names bytes,
  by_names (is_named heights_names bytes) (is_named cells_names bytes),
)
  where
    by_names : (a b : Bool)
        → cond a (named_row Foundations start (upper bytes)) (cond b (named_row Freecells start (upper bytes)) (column_row start (upper bytes)))
        ≡ upper_row (cond a (named_row Foundations start bytes) (cond b (named_row Freecells start bytes) (column_row start bytes)))
    by_names true b = named_row_alike Foundations start bytes
    by_names false true = named_row_alike Freecells start bytes
    by_names false false = column_alike start bytes

front_alike : (start : ℕ) (bytes : List ℕ) → line_of_front start (upper bytes) ≡ upper_line (line_of_front start bytes)
front_alike start [] = refl
front_alike start (byte ∷ rest) =
    let row = row_of start (byte ∷ rest) in
    rw (other_byte byte 35 (omega arith), row_alike start (byte ∷ rest), after_test upper_line (eqb byte 35) Comment (Content row))

line_alike : (line : Piece) → line_of (upper_piece line) ≡ upper_line (line_of line)
line_alike line =
    let bytes = trim_carriage_return line.bytes in
    rw (
      return_alike line.bytes,
      prefix_alike bytes,
      drop_alike (prefix_len is_gap bytes) bytes,
      front_alike (line.start + prefix_len is_gap bytes) (drop (prefix_len is_gap bytes) bytes),
    )

lines_of_alike : (lines : List Piece) → map line_of (map upper_piece lines) ≡ map upper_line (map line_of lines)
lines_of_alike [] = refl
lines_of_alike (line ∷ lines) = rw (line_alike line, lines_of_alike lines)

within_alike : (left : ℕ) (lines : List Line) → rows_within left (map upper_line lines) ≡ map upper_row (rows_within left lines)
within_alike zero [] = refl
within_alike (suc left) [] = refl
within_alike zero (Comment ∷ lines) = within_alike zero lines
within_alike (suc left) (Comment ∷ lines) = within_alike (suc left) lines
within_alike zero (Blank start ∷ lines) = within_alike zero lines
within_alike (suc left) (Blank start ∷ lines) = rw (within_alike left lines)
within_alike zero (Content row ∷ lines) = rw (within_alike (columns_left row.section zero) lines)
within_alike (suc left) (Content row ∷ lines) = rw (within_alike (columns_left row.section (suc left)) lines)

empty_alike : (lines : List Line) → prefix_len is_empty (map upper_line lines) ≡ prefix_len is_empty lines
empty_alike [] = refl
empty_alike (Comment ∷ lines) = rw (empty_alike lines)
empty_alike (Blank start ∷ lines) = rw (empty_alike lines)
empty_alike (Content row ∷ lines) = refl

drop_lines : (n : ℕ) (lines : List Line) → drop n (map upper_line lines) ≡ map upper_line (drop n lines)
drop_lines zero lines = refl
drop_lines (suc n) [] = refl
drop_lines (suc n) (line ∷ lines) = drop_lines n lines

rows_alike : (text : List ℕ) → rows_of (upper text) ≡ map upper_row (rows_of text)
rows_alike text =
    let lines = map line_of (lines_from 0 text) in
    rw (
      lines_alike 0 text,
      lines_of_alike (lines_from 0 text),
      empty_alike lines,
      drop_lines (prefix_len is_empty lines) lines,
      within_alike 8 (drop (prefix_len is_empty lines) lines),
    )

-- ---- items

abbrev upper_item : Item → Item
upper_item item = record { section = item.section; place = item.place; word = option_map upper item.word }

words_items : (section : Section) (words : List Piece)
    → items_of_words section (map upper_piece words) ≡ map upper_item (items_of_words section words)
words_items section [] = refl
words_items section (word ∷ words) = rw (words_items section words)

items_alike : (rows : List Row) → flat_map items_of_row (map upper_row rows) ≡ map upper_item (flat_map items_of_row rows)
items_alike [] = refl
items_alike (row ∷ rows) = rw (
  words_items row.section row.words,
  items_alike rows,
  map-append upper_item (items_of_words row.section row.words) (flat_map items_of_row rows),
)

cards_of_alike : (section : Section) (word : List ℕ) → cards_of_word section (upper word) ≡ cards_of_word section word
cards_of_alike Foundations word = rw (foundation_alike word)
cards_of_alike Freecells word = rw (cell_alike word)
cards_of_alike Column word = ap option_to_list (card_alike word)

suits_of_alike : (section : Section) (word : List ℕ) → suits_of_word section (upper word) ≡ suits_of_word section word
suits_of_alike Foundations word = rw (foundation_alike word)
suits_of_alike Freecells word = refl
suits_of_alike Column word = refl

form_alike : (section : Section) (word : List ℕ) → has_form section (upper word) ≡ has_form section word
form_alike Foundations word = ap is_some (foundation_alike word)
form_alike Freecells word = ap is_some (cell_alike word)
form_alike Column word = ap is_some (card_alike word)

-- the numbers of all items, where those of a word are alike
numbers_alike : (numbers : Section → List ℕ → List ℕ) → ((section : Section) (word : List ℕ) → numbers section (upper word) ≡ numbers section word)
    → (items : List Item)
    → flat_map (λ item. flat_map (numbers item.section) (option_to_list item.word)) (map upper_item items)
    ≡ flat_map (λ item. flat_map (numbers item.section) (option_to_list item.word)) items
numbers_alike numbers same [] = refl
numbers_alike numbers same (item ∷ items) = rw (at_word item.word, numbers_alike numbers same items)
  where
    at_word : (word : Option (List ℕ))
        → flat_map (numbers item.section) (option_to_list (option_map upper word)) ≡ flat_map (numbers item.section) (option_to_list word)
    at_word None = refl
    at_word (Some word) = rw (same item.section word)

counted_alike : (counted : Section) (items : List Item)
    → (count_of_lines counted (map upper_item items) ≡ count_of_lines counted items)
    × (count_of_words counted (map upper_item items) ≡ count_of_words counted items)
counted_alike counted [] = (refl, refl)
counted_alike counted (item ∷ items) =
    let (lines, words) = counted_alike counted items in (
      rw (
        lines-append counted (upper_item item ∷ []) (map upper_item items),
        one_line item.word,
        lines,
        lines-append counted (item ∷ []) items,
      ),
      rw (
        words-append counted (upper_item item ∷ []) (map upper_item items),
        one_word item.word,
        words,
        words-append counted (item ∷ []) items,
      ),
    )
  where
    part : Option (List ℕ) → Item
    part word = record { section = item.section; place = item.place; word = word }

    one_line : (word : Option (List ℕ)) → count_of_lines counted (part (option_map upper word) ∷ []) ≡ count_of_lines counted (part word ∷ [])
    one_line None = refl
    one_line (Some word) = refl

    one_word : (word : Option (List ℕ)) → count_of_words counted (part (option_map upper word) ∷ []) ≡ count_of_words counted (part word ∷ [])
    one_word None = refl
    one_word (Some word) = refl

line_fault_alike : (section : Section) (earlier : List Item) → fault_of_line section (map upper_item earlier) ≡ fault_of_line section earlier
line_fault_alike Foundations earlier = rw ((counted_alike Foundations earlier).0)
line_fault_alike Freecells earlier = rw ((counted_alike Freecells earlier).0)
line_fault_alike Column earlier = rw ((counted_alike Column earlier).0)

past_alike : (game : Game) (section : Section) (earlier : List Item)
    → is_past_cells game section (map upper_item earlier) ≡ is_past_cells game section earlier
past_alike game Foundations earlier = refl
past_alike game Freecells earlier = ap (leb game.cells) (counted_alike Freecells earlier).1
past_alike game Column earlier = refl

part_alike : (game : Game) (earlier : List Item) (section : Section) (part : Option (List ℕ))
    → fault_of_part game (map upper_item earlier) section (option_map upper part) ≡ fault_of_part game earlier section part
part_alike game earlier section None = line_fault_alike section earlier
part_alike game earlier section (Some word) =
    rw (
      past_alike game section earlier,
      form_alike section word,
      numbers_alike suits_of_word suits_of_alike earlier,
      suits_of_alike section word,
      numbers_alike cards_of_word cards_of_alike earlier,
      cards_of_alike section word,
    )

-- so the first fault is the same
faulty_alike : (game : Game) (earlier items : List Item)
    → first_faulty game (map upper_item earlier) (map upper_item items) ≡ first_faulty game earlier items
faulty_alike game earlier [] = refl
faulty_alike game earlier (item ∷ items) = rw (
  part_alike game earlier item.section item.word,
  ← map-append upper_item earlier (item ∷ []),
  faulty_alike game (earlier ++ item ∷ []) items,
)

items_of_alike : (text : List ℕ) → items_of (upper text) ≡ map upper_item (items_of text)
items_of_alike text = rw (rows_alike text, items_alike (rows_of text))

fault_of_upper : (game : Game) (text : List ℕ) → first_fault game (upper text) ≡ first_fault game text
fault_of_upper game text = rw (
  items_of_alike text,
  faulty_alike game [] (items_of text),
  length-map text to_ascii_uppercase,
  numbers_alike cards_of_word cards_of_alike (items_of text),
)

pub faults_alike : (game : Game) (text other : List ℕ) → str_to_ascii_uppercase text ≡ str_to_ascii_uppercase other
    → first_fault game text ≡ first_fault game other
faults_alike game text other e = rw (← fault_of_upper game text, e, fault_of_upper game other)

-- ---- the board that the words give

spelled_alike : {X : Type 0} (spelled : List ℕ → Option X) → ((word : List ℕ) → spelled (upper word) ≡ spelled word)
    → (words : List Piece) → all_spelled spelled (map upper_piece words) ≡ all_spelled spelled words
spelled_alike spelled same [] = refl
spelled_alike spelled same (word ∷ words) = ap₂ cons_option (same word.bytes) (spelled_alike spelled same words)

lines_of_rows : (section : Section) (rows : List Row) → lines_of section (map upper_row rows) ≡ map upper_row (lines_of section rows)
lines_of_rows section [] = refl
lines_of_rows section (row ∷ rows) =
    let later = lines_of section rows in
    rw (lines_of_rows section rows, after_test (map upper_row) (is_section section row.section) (row ∷ later) later)

words_of_rows : (section : Section) (text : List ℕ) → words_of section (rows_of (upper text)) ≡ map upper_piece (words_of section (rows_of text))
words_of_rows section text = rw (rows_alike text, lines_of_rows section (rows_of text), joined_words (lines_of section (rows_of text)))
  where
    joined_words : (rows : List Row) → flat_map (λ row. row.words) (map upper_row rows) ≡ map upper_piece (flat_map (λ row. row.words) rows)
    joined_words [] = refl
    joined_words (row ∷ rows) = rw (joined_words rows, map-append upper_piece row.words (flat_map (λ row. row.words) rows))

columns_alike : (text : List ℕ)
    → map (λ row. all_spelled card_spelled row.words) (lines_of Column (rows_of (upper text)))
    ≡ map (λ row. all_spelled card_spelled row.words) (lines_of Column (rows_of text))
columns_alike text = rw (rows_alike text, lines_of_rows Column (rows_of text), each (lines_of Column (rows_of text)))
  where
    each : (rows : List Row)
        → map (λ row. all_spelled card_spelled row.words) (map upper_row rows) ≡ map (λ row. all_spelled card_spelled row.words) rows
    each [] = refl
    each (row ∷ rows) = rw (spelled_alike card_spelled card_alike row.words, each rows)

board_of_upper : (game : Game) (text : List ℕ) → board_of game (upper text) ≡ board_of game text
board_of_upper game text = rw (
  words_of_rows Foundations text,
  spelled_alike foundation_spelled foundation_alike (words_of Foundations (rows_of text)),
  words_of_rows Freecells text,
  spelled_alike cell_spelled cell_alike (words_of Freecells (rows_of text)),
  columns_alike text,
)

pub boards_alike : (game : Game) (text other : List ℕ) → str_to_ascii_uppercase text ≡ str_to_ascii_uppercase other
    → board_of game text ≡ board_of game other
boards_alike game text other e = rw (← board_of_upper game text, e, board_of_upper game other)
