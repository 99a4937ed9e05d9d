-- What is printed for a record.
use Rattle.std.specs.{Fmt.{decimal}, List.{flat_map}, Prelude.{◌++◌, ◌+◌, ◌∷◌, [], Bool, codes}}
use Rattle.std.specs.Prelude.{false, if◌then◌else◌, length, List, map, nat_le, None, Option}
use Rattle.std.specs.Prelude.{slice_index, Some, true, ℕ}
use Rattle.fc_card.specs.{renaming_text, Types.{Renaming, Text}}
use Rattle.fc_board.specs.{Boards.{Board}, Games.{Game, game_of, renamings_of, variant_word}}
use Rattle.fc_board.specs.Moves.{list_image, move_count, MoveList, OneCard, Runs}
use Rattle.fc_board.specs.{Passages.{Passage}, Play.{expansions, list_verdict, OnlyLegal}}
use Rattle.fc_board.specs.{Play.{Refused as ListRefused, Verdict, Won}, Steps.{step_reason}}
use Rattle.fc_board.specs.declared.{moves.Move.{Move}, rule.Variant.{Variant}}
use Rattle.fc_text.specs.{Bytes.{blank, line_feed, number_sign}, Faults.{board_reason}}
use Rattle.fc_text.specs.Notation.{cell_letters, column_digits, most_moves, print}
use Rattle.fc_text.specs.Printed.{text_of}
use Rattle.fc_canon.specs.{chosen_passage, least_text, symmetries_of}
use Rattle.fc_record.specs.Grammar.{Accepted, Contents, Heading, list_mark, Reading, reading_of}
use Rattle.fc_record.specs.{Grammar.{Refused}, RecordTexts.{RecordText}}
use Rattle.fc_record.specs.declared.record.RecordFault.{RecordFault}
use Rattle.fc_record.specs.declared.record.RecordFaultKind.{RecordFaultKind}
use Rattle.fc_record.specs.declared.record.RecordFaultKind.TheVariants as kind

-- -------- The reasons that are printed for refusing a record, one for each kind of fault. From: this project's profile.

-- the words for what is at fault in a record
abbrev pub record_reason : RecordFaultKind → Text
record_reason kind.BadHeader = codes "bad header"
record_reason (kind.Board fault) = board_reason fault
record_reason kind.BadToken = codes "bad token"
record_reason kind.TooManyMoves = codes "too many moves"
record_reason kind.StrayLine = codes "stray line"

-- -------- What is printed for a record, line by line: by `show`, `canon`, `check` and `expand` where it is accepted, and by every command where it is refused. From: this project's profile; boards are in Freecell Solver's board text, and moves in standard notation.

-- ---- names, headers and refusals

-- the name of a record: its header's, or its number where it has none
abbrev pub name_of : ℕ → Option Text → Text
name_of number (Some name) = name
name_of number None = decimal number

abbrev pub header_text : Variant → Text → Text
header_text variant name = codes "@ " ++ variant_word variant ++ blank ∷ name ++ line_feed ∷ []

-- a record that had a header gets one
abbrev pub heading_line : ℕ → Heading → Text
heading_line number heading = if heading.has_header then header_text heading.variant (name_of number heading.name) else []

-- the line for a record that is refused: places count from the first byte of the collection
abbrev pub refusal_line : RecordText → Option Text → RecordFault → Text
refusal_line text name fault =
    codes "# refused " ++ name_of text.number name ++ codes " at " ++ decimal (text.start + fault.place)
    ++ codes ": " ++ record_reason fault.kind ++ line_feed ∷ []

-- ---- lists

-- one mark before moves of one card, two before those of several
abbrev pub marks_of : MoveList → Text
marks_of (OneCard moves) = list_mark ∷ []
marks_of (Runs moves) = list_mark ∷ list_mark ∷ []

-- a text after a blank, if there is any
abbrev pub after_blank : Text → Text
after_blank [] = []
after_blank (byte ∷ text) = blank ∷ byte ∷ text

abbrev pub list_line : MoveList → Text
list_line list = marks_of list ++ after_blank (print list) ++ line_feed ∷ []

-- ---- show

-- the board's printed text and its lists
abbrev pub show_lines : ℕ → Heading → Contents → Text
show_lines number heading contents = heading_line number heading ++ text_of contents.board ++ flat_map list_line contents.lists

-- ---- canon

-- the renaming's word, and for each new place the old column and the old cell, up to the line's end
abbrev pub passage_words : Passage → Text
passage_words passage =
    codes " renaming " ++ renaming_text passage.renaming
    ++ codes " columns " ++ map (slice_index column_digits) passage.columns
    ++ codes " cells " ++ map (slice_index cell_letters) passage.cells ++ line_feed ∷ []

-- a comment of them
abbrev pub passage_line : Passage → Text
passage_line passage = number_sign ∷ passage_words passage

-- a list after a passage
abbrev pub image_line : Passage → MoveList → Text
image_line passage list = list_line (list_image passage list)

-- the canonical text, the passage that leads there, and the image of each list
abbrev pub canon_lines : ℕ → Heading → Contents → Text
canon_lines number heading contents =
    let passage = chosen_passage (renamings_of heading.variant) contents.board in
    heading_line number heading ++ least_text (renamings_of heading.variant) contents.board
    ++ passage_line passage ++ flat_map (image_line passage) contents.lists

-- ---- check

-- the verdict on a list of so many moves
abbrev pub verdict_words : ℕ → Verdict → Text
verdict_words count Won = codes " wins " ++ decimal count
verdict_words count OnlyLegal = codes " legal " ++ decimal count
verdict_words count (ListRefused index fault) = codes " illegal " ++ decimal index ++ blank ∷ step_reason fault

-- the line for the list of this number, of the record of this name
-- said again: check_says_what_lists_do
abbrev pub verdict_line : Text → Game → Board → ℕ → MoveList → Text
verdict_line name game board number list =
    name ++ blank ∷ decimal number ++ verdict_words (move_count list) (list_verdict game board list) ++ line_feed ∷ []

-- a line for each list, which are numbered from here on
-- said again: lists_are_numbered_from_1
abbrev pub numbered_lines : (ℕ → MoveList → Text) → ℕ → List MoveList → Text
numbered_lines line number [] = []
numbered_lines line number (list ∷ lists) = line number list ++ numbered_lines line (number + 1) lists

-- a line for each list, or one that says that there is none
abbrev pub lines_for_lists : Text → Game → Board → List MoveList → Text
lines_for_lists name game board [] = name ++ codes " no list" ++ line_feed ∷ []
lines_for_lists name game board (list ∷ lists) = numbered_lines (verdict_line name game board) 1 (list ∷ lists)

abbrev pub check_lines : ℕ → Heading → Contents → Text
check_lines number heading contents =
    lines_for_lists (name_of number heading.name) (game_of heading.variant) contents.board contents.lists

-- ---- expand

-- the moves of one card that the list is short for on the board
abbrev pub one_card_moves : Game → Board → MoveList → List Move
one_card_moves game board (OneCard moves) = moves
one_card_moves game board (Runs moves) = expansions game board moves

-- what is said of the list of this number in place of its moves
abbrev pub comment_line : ℕ → Text → Text
comment_line number words = codes "# list " ++ decimal number ++ words ++ line_feed ∷ []

-- by the verdict on a list and its moves of one card: an illegal list has none, and a list has no more than the most of a list
abbrev pub expanded_by : ℕ → Verdict → List Move → Text
expanded_by number (ListRefused index fault) moves = comment_line number (verdict_words 0 (ListRefused index fault))
expanded_by number verdict moves = if nat_le (length moves) most_moves then list_line (OneCard moves) else comment_line number (codes " too long")

-- said again: expand_prints_legal_lists
abbrev pub expanded_line : Game → Board → ℕ → MoveList → Text
expanded_line game board number list = expanded_by number (list_verdict game board list) (one_card_moves game board list)

-- the board's printed text and a line for each list
abbrev pub expand_lines : ℕ → Heading → Contents → Text
expand_lines number heading contents =
    heading_line number heading ++ text_of contents.board ++ numbered_lines (expanded_line (game_of heading.variant) contents.board) 1 contents.lists

-- ---- one record

-- what is printed for a record, by what it says, with this where it is refused and these lines where it is accepted
abbrev pub printed_or : (RecordText → Option Text → RecordFault → Text) → (ℕ → Heading → Contents → Text) → RecordText → Reading → Text
printed_or refusal lines text (Accepted heading contents) = lines text.number heading contents
printed_or refusal lines text (Refused name fault) = refusal text name fault

-- with the line of a refusal
abbrev pub printed_by : (ℕ → Heading → Contents → Text) → RecordText → Reading → Text
printed_by = printed_or refusal_line

-- what is printed for a record, where records without a header have this variant
abbrev pub printed_with : (RecordText → Option Text → RecordFault → Text) → (ℕ → Heading → Contents → Text) → Variant → RecordText → Text
printed_with refusal lines variant text = printed_or refusal lines text (reading_of variant text.bytes)

abbrev pub printed : (ℕ → Heading → Contents → Text) → Variant → RecordText → Text
printed = printed_with refusal_line

abbrev pub refuses : Reading → Bool
refuses (Accepted heading contents) = false
refuses (Refused name fault) = true

-- the record is refused
abbrev pub is_refused : Variant → RecordText → Bool
is_refused variant text = refuses (reading_of variant text.bytes)

-- -------- What `symmetries` prints for an accepted record: a line for each symmetry of its board. From: this project's profile.

-- a record's name and the word of a renaming
abbrev pub symmetry_line : Text → Renaming → Text
symmetry_line name renaming = name ++ codes " renaming " ++ renaming_text renaming ++ line_feed ∷ []

-- one for each symmetry, in the order in which the game lists them
abbrev pub symmetry_lines : ℕ → Heading → Contents → Text
symmetry_lines number heading contents = flat_map (symmetry_line (name_of number heading.name)) (symmetries_of (renamings_of heading.variant) contents.board)
