-- Under which columns the cards of rows stand, and which column a line with a number is.
use Rattle.std.specs.{List.{count_by, list_all, list_any}, Option.{is_none, option_or}}
use Rattle.std.specs.Prelude.{◌%◌, ◌&&◌, ◌++◌, ◌-◌, ◌/◌, ◌==◌, ◌||◌, ◌∷◌, [], Bool, codes, drop}
use Rattle.std.specs.Prelude.{false, if◌then◌else◌, length, List, min, nat_lt, None, not, Option}
use Rattle.std.specs.{Prelude.{slice_get, slice_index_or, Some, take, true, ℕ}, Str.{bytes_eq}}
use Rattle.{fc_board.specs.Boards.{Board}, fc_card.specs.{places, Types.{Card, Pile, Text}}}
use Rattle.fc_text.specs.{Bytes.{tab}, Lines.{lines_from, Piece, words}}
use Rattle.fc_text.specs.Notation.{separates_tokens}
use Rattle.fc_import.specs.Labels.{label_of}
use Rattle.fc_import.specs.Scan.{named_card, named_cards, uncommented, words_of}
use Rattle.fc_import.specs.declared.labels.LabelKind.{LabelKind, TheVariants.{Column}}
use Rattle.fc_import.specs.declared.layout.Layout.{Layout, TheVariants.{Deal, Rows}}
use Rattle.fc_import.specs.declared.strips.Strips.{Strips, TheVariants.{Bytes, Fields, Words}}

-- -------- Where each column has its strip of a line. From: how books, sites, programs and spreadsheets lay rows out.

-- a comma, a semicolon, a bar, a slash and a tab
abbrev pub parts_fields : ℕ → Bool
parts_fields byte = list_any (λ mark. mark == byte) (codes ",;|/" ++ tab ∷ [])

-- and those that may stand for no card
abbrev pub is_mark : ℕ → Bool
is_mark byte = parts_fields byte || list_any (λ mark. mark == byte) (codes "-*._[]\"'")

-- seven cards in each of four columns, and six in the others
abbrev pub is_dealt : Board → Bool
is_dealt board =
    list_all (λ number. length (slice_index_or board.columns number []) == (if nat_lt number 4 then 7 else 6))
    (places 8)

-- counted up to 65,535
abbrev pub words_in : Text → ℕ
words_in text = min (length (words separates_tokens text)) 65535

-- a line has strips of bytes if no mark tells of other places
-- and of words if none parts fields, and it has so many words between blanks, or the rows are a deal's
abbrev pub has_strips : Strips → Board → (line : Text) → Bool
has_strips (Bytes base unit) board line = not (list_any is_mark line)
has_strips (Fields base) board line = true
has_strips (Words base count) board line =
    count_by parts_fields line == 0 && (words_in line == count || is_dealt board)

-- how many strips of this width there are between two places, if they are whole
abbrev pub whole_strips : (base unit place : ℕ) → Option ℕ
whole_strips base unit place =
    if unit == 0 || nat_lt place base || not ((place - base) % unit == 0) then None else Some ((place - base) / unit)

-- the strip that a word is in, by where it begins, or its last two bytes
-- or by how many marks that part fields, or words between blanks, come before it
abbrev pub strip_of : Strips → (line : Text) → Piece × ℕ → Option ℕ
strip_of (Bytes base unit) line word =
    option_or (whole_strips base unit word.0.start) (whole_strips base unit (word.1 - 2))
strip_of (Fields base) line word = whole_strips base 1 (count_by parts_fields (take word.0.start line))
strip_of (Words base count) line word = whole_strips base 1 (words_in (take word.0.start line))

-- -------- Whether the rows tell under which column each card stands. From: this project's profile.

abbrev pub has_card : Pile → Card → Bool
has_card column card = list_any (λ other. other == card) column

abbrev pub holds : Card → Option Card → Bool
holds card None = false
holds card (Some other) = other == card

abbrev pub is_under : List Pile → Card → (strip : Option ℕ) → Bool
is_under columns card None = false
is_under columns card (Some number) = has_card (slice_index_or columns number []) card

-- the card is in a cell, or in the column in whose strip the word is
abbrev pub is_told : Option Card → Board → (strip : Option ℕ) → Bool
is_told None board strip = true
is_told (Some card) board strip = list_any (holds card) board.cells || is_under board.columns card strip

abbrev pub is_below : Strips → (has_strips : Bool) → Board → (line : Text) → (word : Piece × ℕ) → Bool
is_below strips has board line word =
    is_told (named_card word.0.bytes) board (if has then strip_of strips line word else None)

abbrev pub are_below : Strips → Board → (line : Text) → Bool
are_below strips board line =
    let has = has_strips strips board (uncommented line) in
    list_all (is_below strips has board (uncommented line)) (words_of line)

-- -------- Whether lines with the number of a column are that column. From: this project's profile.

-- no card, or one of the column of the number that the label says, if it says one
abbrev pub fits_label : LabelKind → Board → Option Card → Bool
fits_label (Column number) board (Some card) = has_card (slice_index_or board.columns (number - 1) []) card
fits_label label board card = true

-- the first card that the line names is in the column of the line's number, if there are both
abbrev pub fits_its_number : Board → (line : Text) → Bool
fits_its_number board line = fits_label (label_of (uncommented line)) board (slice_get (named_cards line) 0)

-- -------- Whether one line has the cards in the order of dealing. From: how Microsoft's deals are written in one line.

-- what stands between two places of a line
abbrev pub between : (line : Text) → (start end : ℕ) → Text
between line start end = take (end - start) (drop start line)

-- from this place on the same mark stands before each word
abbrev pub are_parted_by : (line mark : Text) → (start : ℕ) → List (Piece × ℕ) → Bool
are_parted_by line mark start [] = true
are_parted_by line mark start (word ∷ words) = bytes_eq (between line start word.0.start) mark && are_parted_by line mark word.1 words

-- the same mark stands between any two words
abbrev pub are_even : (line : Text) → List (Piece × ℕ) → Bool
are_even line (first ∷ second ∷ words) = are_parted_by line (between line first.1 second.0.start) second.1 words
are_even line words = true

-- no card, or words that one mark parts: so no group of them may be a column
abbrev pub has_no_groups : (line : Text) → Bool
has_no_groups line = is_none (slice_get (named_cards line) 0) || are_even (uncommented line) (words_of line)

-- -------- Whether lines tell the columns of their cards. From: this project's profile.

-- each word of rows that names a card of a column is in that column's strip; cards in the order of dealing are all of a deal, in no groups; and in layouts where a line has the cards of one column, its first card is in the column of its number, if it has one
abbrev pub tells_columns : Layout → (piece : Text) → Board → Bool
tells_columns (Rows strips) piece board = list_all (λ line. are_below strips board line.bytes) (lines_from 0 piece)
tells_columns Deal piece board = (is_dealt board && list_all (λ line. has_no_groups line.bytes) (lines_from 0 piece)) && list_all (λ line. fits_its_number board line.bytes) (lines_from 0 piece)
tells_columns layout piece board = list_all (λ line. fits_its_number board line.bytes) (lines_from 0 piece)
