-- What the lines of a board's text hold: its foundations, its cells or a column.
use Rattle.std.specs.List.{after_first, before_first, list_any, position_or_len, prefix_len}
use Rattle.std.specs.Prelude.{◌&&◌, ◌+◌, ◌-◌, ◌==◌, ◌∷◌, [], Bool, codes, drop, false}
use Rattle.std.specs.Prelude.{if◌then◌else◌, List, map, suc, true, zero, ℕ}
use Rattle.std.specs.Str.{str_eq_ignore_ascii_case}
use Rattle.fc_card.specs.Types.{Text}
use Rattle.fc_text.specs.Bytes.{colon, is_gap, number_sign}
use Rattle.fc_text.specs.Lines.{lines_from, Piece, trim_carriage_return, words_from}
use Rattle.fc_text.specs.declared.board.reader.Section.{Section}
use Rattle.fc_text.specs.declared.board.reader.Section.TheVariants.{Column, Foundations, Freecells}

-- -------- What the lines of a board's text hold: its foundations, its cells or a column. From: Freecell Solver's board text; what a blank line means is this project's profile.

-- a line that holds something: its section, where it begins, and its words
pub record Row : Type 0 where
  pub section : Section
  pub start : ℕ
  pub words : List Piece

-- what a line is
pub data Line : Type 0 where
  Comment : Line
  Blank : (start : ℕ) → Line
  Content : (row : Row) → Line

-- ---- one line

abbrev pub heights_names : List Text
heights_names = codes "foundations" ∷ codes "foundation" ∷ codes "founds" ∷ codes "found" ∷ codes "decks" ∷ codes "deck" ∷ []

abbrev pub cells_names : List Text
cells_names = codes "freecells" ∷ codes "freecell" ∷ codes "fc" ∷ []

abbrev pub is_colon : ℕ → Bool
is_colon byte = byte == colon

-- what comes before the first colon is one of the names, in any case
abbrev pub is_named : List Text → Text → Bool
is_named names bytes = list_any is_colon bytes && list_any (str_eq_ignore_ascii_case (before_first is_colon bytes)) names

-- the row of a named line: its words are those after the colon
abbrev pub named_row : Section → ℕ → Text → Row
named_row section start bytes =
    record { section = section; start = start; words = words_from is_gap (start + position_or_len is_colon bytes + 1) (after_first is_colon bytes) }

-- the row of a column: one colon may be at its front
abbrev pub column_row : ℕ → Text → Row
column_row start [] = record { section = Column; start = start; words = [] }
column_row start (byte ∷ rest) =
    let words = if byte == colon then words_from is_gap (start + 1) rest else words_from is_gap start (byte ∷ rest) in
    record { section = Column; start = start; words = words }

-- the row of a line that begins with its first word
abbrev pub row_of : ℕ → Text → Row
row_of start bytes =
    if is_named heights_names bytes then named_row Foundations start bytes
    else if is_named cells_names bytes then named_row Freecells start bytes
    else column_row start bytes

-- what a line is, once the blanks and tabs at its front are gone
abbrev pub line_of_front : ℕ → Text → Line
line_of_front start [] = Blank start
line_of_front start (byte ∷ rest) = if byte == number_sign then Comment else Content (row_of start (byte ∷ rest))

abbrev pub line_of : Piece → Line
line_of line =
    let bytes = trim_carriage_return line.bytes in
    line_of_front (line.start + prefix_len is_gap bytes) (drop (prefix_len is_gap bytes) bytes)

-- ---- all lines

-- a line that holds nothing
abbrev pub is_empty : Line → Bool
is_empty Comment = true
is_empty (Blank start) = true
is_empty (Content row) = false

-- how many columns may still come after this line
abbrev pub columns_left : Section → ℕ → ℕ
columns_left Column left = left - 1
columns_left section left = left

-- the rows of lines: comments are skipped, and a blank line is an empty column as long as columns may still come
abbrev pub rows_within : ℕ → List Line → List Row
rows_within left [] = []
rows_within left (Comment ∷ lines) = rows_within left lines
rows_within zero (Blank start ∷ lines) = rows_within zero lines
rows_within (suc left) (Blank start ∷ lines) = column_row start [] ∷ rows_within left lines
rows_within left (Content row ∷ lines) = row ∷ rows_within (columns_left row.section left) lines

-- what comes before the first line that holds something is skipped
abbrev pub rows_of_lines : List Line → List Row
rows_of_lines lines = rows_within 8 (drop (prefix_len is_empty lines) lines)

-- the rows of a text
abbrev pub rows_of : Text → List Row
rows_of text = rows_of_lines (map line_of (lines_from 0 text))
