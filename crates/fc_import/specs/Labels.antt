-- What may stand before the cards of a line: the name of the line with a colon, or the number of its column. From: Freecell Solver's board text, and how sites and programs name the parts of a board.
use Rattle.std.specs.{List.{before_first}, Prelude.{◌&&◌, ◌-◌, ◌==◌, ◌||◌, ◌∷◌, [], Bool, codes}}
use Rattle.std.specs.Prelude.{false, if◌then◌else◌, length, List, map, nat_le, nat_lt, slice_index}
use Rattle.std.specs.Prelude.{true, ℕ}
use Rattle.fc_card.specs.Types.{Text}
use Rattle.fc_text.specs.{Bytes.{colon}, Lines.{Piece, with_end, words_from}}
use Rattle.fc_import.specs.Names.{cells_names, column_names, columns_names, foundations_names}
use Rattle.fc_import.specs.{Names.{is_among}, Scan.{parts_words, uncommented, word_at}}
use Rattle.fc_import.specs.declared.labels.LabelKind.{LabelKind, TheVariants.{Bare, Cells, Column}}
use Rattle.fc_import.specs.declared.labels.LabelKind.TheVariants.{Columns, Foundations, Unknown}

-- -------- Labels. From: this project's profile.

-- a digit from 1 to 8
abbrev pub is_column_number : Text → Bool
is_column_number word = length word == 1 && nat_le 0x31 (slice_index word 0) && nat_le (slice_index word 0) 0x38

-- what one word says that comes before a colon
abbrev pub said_by_one : Text → LabelKind
said_by_one word =
    if is_among word foundations_names then Foundations
    else if is_among word cells_names then Cells
    else if is_among word columns_names then Columns
    else if is_column_number word then Column (slice_index word 0 - 0x30)
    else Unknown

-- and what two words say: `Free cells`, `Home cells`, and a column with its number
abbrev pub said_by_two : (first second : Text) → LabelKind
said_by_two first second =
    if is_among second (codes "cells" ∷ codes "cell" ∷ []) then (if is_among first (codes "free" ∷ []) then Cells else if is_among first (codes "home" ∷ []) then Foundations else Unknown)
    else if is_among first column_names && is_column_number second then Column (slice_index second 0 - 0x30)
    else Unknown

abbrev pub said_by_words : List (Piece × ℕ) → LabelKind
said_by_words words =
    if length words == 0 then Bare
    else if length words == 1 then said_by_one (word_at words 0)
    else if length words == 2 then said_by_two (word_at words 0) (word_at words 1)
    else Unknown

-- without a colon, the number of a column with a dot or a bracket
abbrev pub is_numbered : (text : Text) → (word : Piece × ℕ) → Bool
is_numbered text word =
    let mark = slice_index text word.1 in
    is_column_number word.0.bytes && (mark == 0x2E || mark == 0x29)

abbrev pub said_by_front : (text : Text) → List (Piece × ℕ) → LabelKind
said_by_front text [] = Bare
said_by_front text (word ∷ words) = if is_numbered text word then Column (slice_index word.0.bytes 0 - 0x30) else Bare

-- the words of a text
abbrev pub all_words : Text → List (Piece × ℕ)
all_words text = map with_end (words_from parts_words 0 text)

-- what a line before a comment begins with
abbrev pub label_of : (text : Text) → LabelKind
label_of text =
    let front = before_first (λ byte. byte == colon) text in
    if length front == length text then said_by_front text (all_words text) else said_by_words (all_words front)

-- a line says that it is a column's by its number, or by a colon alone
abbrev pub says : LabelKind → (has_colon : Bool) → Bool
says Bare has_colon = has_colon
says (Column number) has_colon = true
says kind has_colon = false

abbrev pub says_column : Text → Bool
says_column line =
    let text = uncommented line in
    says (label_of text) (nat_lt (length (before_first (λ byte. byte == colon) text)) (length text))
