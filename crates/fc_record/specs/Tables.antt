-- What `table` prints for a record, as columns or as JSON.
use Rattle.std.specs.{Fmt.{decimal}, List.{flat_map, join_with_byte, zip}, Prelude.{◌++◌, ◌+◌, ◌-◌}}
use Rattle.std.specs.Prelude.{◌==◌, ◌||◌, ◌∷◌, [], Bool, codes, drop, false, if◌then◌else◌, length}
use Rattle.std.specs.{Prelude.{List, map, Option, slice_index, take, true, ℕ}, Str.{bytes_eq}}
use Rattle.fc_card.specs.{renaming_text, Types.{Text}}
use Rattle.fc_board.specs.{Boards.{Board}, Games.{Game, game_of, renamings_of, variant_word}}
use Rattle.fc_board.specs.{Moves.{MoveList}, Play.{list_verdict, Verdict, Won}}
use Rattle.fc_text.specs.Bytes.{blank, dash, line_feed, tab}
use Rattle.fc_text.specs.Notation.{cell_letters, column_digits}
use Rattle.fc_canon.specs.{chosen_passage, least_text}
use Rattle.fc_record.specs.{Grammar.{Contents, Heading}, Printing.{name_of, record_reason}}
use Rattle.fc_record.specs.RecordTexts.{RecordText}
use Rattle.fc_record.specs.declared.record.RecordFault.{RecordFault}

-- -------- JSON texts of one line. From: RFC 8259.

-- a string of printing bytes: in quotes (34), with a backslash (92) before each of its quotes and backslashes
abbrev pub json_string : Text → Text
json_string text = 34 ∷ flat_map (λ byte. if byte == 34 || byte == 92 then 92 ∷ byte ∷ [] else byte ∷ []) text ++ 34 ∷ []

-- an object: in braces (123, 125) the names of its members with the texts of their values, with colons (58) and commas (44) between
abbrev pub json_object : List (Text × Text) → Text
json_object members = 123 ∷ join_with_byte 44 (map (λ member. json_string member.0 ++ 58 ∷ member.1) members) ++ 125 ∷ line_feed ∷ []

-- what is printed in place of the line of a refusal where lines are JSON: the record's name, the place of the fault in the collection, and the reason
abbrev pub refusal_object : RecordText → Option Text → RecordFault → Text
refusal_object text name fault =
    json_object ((codes "refused", json_string (name_of text.number name)) ∷ (codes "place", decimal (text.start + fault.place)) ∷ (codes "reason", json_string (record_reason fault.kind)) ∷ [])

-- -------- What `table` prints for an accepted record: one line of eight columns, with a tab between two, or an object of JSON. From: this project's profile.

-- a list with this verdict wins
abbrev pub is_win : Verdict → Bool
is_win Won = true
is_win verdict = false

-- the lines of a text side by side: without the last line feed, and with two blanks for each of the others
abbrev pub side_by_side : Text → Text
side_by_side text = flat_map (λ byte. if byte == line_feed then blank ∷ blank ∷ [] else byte ∷ []) (take (length text - 1) text)

-- the number of the first of the lists that wins from the board, or a dash; they are numbered from here on
abbrev pub first_win : Game → Board → ℕ → List MoveList → Text
first_win game board number [] = dash ∷ []
first_win game board number (list ∷ lists) = if is_win (list_verdict game board list) then decimal number else first_win game board (number + 1) lists

-- the name, the variant, the canonical text; the passage that leads there: renaming, columns and cells; how many lists there are, and which of them wins first
abbrev pub table_fields : ℕ → Heading → Contents → List Text
table_fields number heading contents =
    let passage = chosen_passage (renamings_of heading.variant) contents.board in
    name_of number heading.name ∷ variant_word heading.variant ∷ side_by_side (least_text (renamings_of heading.variant) contents.board)
    ∷ renaming_text passage.renaming ∷ map (slice_index column_digits) passage.columns ∷ map (slice_index cell_letters) passage.cells
    ∷ decimal (length contents.lists) ∷ first_win (game_of heading.variant) contents.board 1 contents.lists ∷ []

abbrev pub table_line : ℕ → Heading → Contents → Text
table_line number heading contents = join_with_byte tab (table_fields number heading contents) ++ line_feed ∷ []

-- ---- with the names of the columns

abbrev pub column_names : List Text
column_names = codes "name" ∷ codes "variant" ∷ codes "board" ∷ codes "renaming" ∷ codes "columns" ∷ codes "cells" ∷ codes "lists" ∷ codes "win" ∷ []

-- a line of them
abbrev pub table_header : Text
table_header = join_with_byte tab column_names ++ line_feed ∷ []

-- null in place of a dash
abbrev pub number_or_null : Text → Text
number_or_null field = if bytes_eq field (dash ∷ []) then codes "null" else field

-- the fields in JSON: six texts and two numbers
abbrev pub json_values : List Text → List Text
json_values fields = map json_string (take 6 fields) ++ map number_or_null (drop 6 fields)

-- an object of the fields, each with the name of its column
abbrev pub table_object : ℕ → Heading → Contents → Text
table_object number heading contents = json_object (zip column_names (json_values (table_fields number heading contents)))
