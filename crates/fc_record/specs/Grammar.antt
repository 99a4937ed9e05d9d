-- What a record says, and when it is refused.
use Rattle.std.specs.List.{after_first, before_first, find, list_all}
use Rattle.std.specs.{Option.{option_map, unwrap_or}, Prelude.{◌&&◌, ◌+◌, ◌-◌, ◌==◌, ◌∷◌, ◌≡◌, []}}
use Rattle.std.specs.Prelude.{Bool, codes, drop, Err, false, if◌then◌else◌, length, List, nat_le}
use Rattle.std.specs.Prelude.{None, Ok, Option, Result, Some, take, true, ℕ}
use Rattle.std.specs.Str.{str_eq_ignore_ascii_case}
use Rattle.{fc_card.specs.Types.{Text}, fc_text.specs.declared.fault.BoardFault.{BoardFault}}
use Rattle.fc_board.specs.{Boards.{Board}, Games.{Game, game_of, variant_word, variants}}
use Rattle.fc_board.specs.Moves.{MoveList, OneCard, Runs}
use Rattle.fc_board.specs.declared.rule.{Rule.{Ghosts}, Variant.{Variant}}
use Rattle.fc_text.specs.{Bytes.{is_gap, line_feed}, Faults.{first_fault}}
use Rattle.fc_text.specs.Lines.{lines_from, Piece, trim_carriage_return, words_from}
use Rattle.fc_text.specs.Notation.{BadToken, IsRunToken, IsToken, Listed, ListFault, TooMany}
use Rattle.fc_text.specs.{Readings.{moves_read, runs_read}, Rows.{is_empty, line_of}}
use Rattle.fc_text.specs.Spelling.{board_of, Spells}
use Rattle.fc_record.specs.RecordTexts.{header_mark}
use Rattle.fc_record.specs.declared.record.Contents.{Contents as HeldContents}
use Rattle.fc_record.specs.declared.record.Heading.{Heading as HeldHeading}
use Rattle.fc_record.specs.declared.record.RecordFault.{RecordFault}
use Rattle.fc_record.specs.declared.record.RecordFaultKind.{RecordFaultKind}
use Rattle.fc_record.specs.declared.record.RecordFaultKind.TheVariants as kind

-- -------- What a record says: its header, its board and its lists of moves, or its first fault. From: this project's profile; the text of the board is Freecell Solver's, and the moves are in standard notation.

-- the byte `>`, which begins the line of a list
abbrev pub list_mark : ℕ
list_mark = 62

abbrev pub begins_with : ℕ → Text → Bool
begins_with mark [] = false
begins_with mark (byte ∷ rest) = byte == mark

abbrev pub is_line_feed : ℕ → Bool
is_line_feed byte = byte == line_feed

-- a fault at this place, counted in bytes from the first of the record
abbrev pub fault_at : ℕ → RecordFaultKind → RecordFault
fault_at place kind = record { place = place; kind = kind }

-- ---- the header

-- the game of a record, whether a header says it, and the name that the header gives
pub record Heading : Type 0 where
  pub variant : Variant
  pub has_header : Bool
  pub name : Option Text

-- the variant that a word names, in any case
abbrev pub variant_named : Text → Option Variant
variant_named word = find (λ variant. str_eq_ignore_ascii_case word (variant_word variant)) variants

-- a name has at most 64 bytes, each a printing one of ASCII
abbrev pub is_name : Text → Bool
is_name word = nat_le (length word) 64 && list_all (λ byte. nat_le 33 byte && nat_le byte 126) word

abbrev pub with_header : Variant → Option Text → Heading
with_header variant name = record { variant = variant; has_header = true; name = name }

-- by the variant that the word at this place names, and the words after it: nothing, or a name and nothing after it
abbrev pub heading_by : ℕ → Option Variant → List Piece → Result Heading RecordFault
heading_by place None words = Err (fault_at place kind.BadHeader)
heading_by place (Some variant) [] = Ok (with_header variant None)
heading_by place (Some variant) (name ∷ []) = if is_name name.bytes then Ok (with_header variant (Some name.bytes)) else Err (fault_at name.start kind.BadHeader)
heading_by place (Some variant) (name ∷ further ∷ _) = Err (fault_at (if is_name name.bytes then further.start else name.start) kind.BadHeader)

-- the words of a header line whose text ends at this place: the first of them names the variant
abbrev pub heading_of_words : ℕ → List Piece → Result Heading RecordFault
heading_of_words end [] = Err (fault_at end kind.BadHeader)
heading_of_words end (word ∷ words) = heading_by word.start (variant_named word.bytes) words

-- the line of the header, without the carriage return that may end it
abbrev pub header_line : Text → Text
header_line bytes = trim_carriage_return (before_first is_line_feed bytes)

-- a record without a header
abbrev pub without_header : Variant → Heading
without_header variant = record { variant = variant; has_header = false; name = None }

-- what a header says; without one the record has the variant that the run is given
-- said again: headers_say_their_game_and_name
abbrev pub heading_of : Variant → Text → Result Heading RecordFault
heading_of variant bytes =
    if begins_with header_mark bytes then heading_of_words (length (header_line bytes)) (words_from is_gap 1 (drop 1 (header_line bytes)))
    else Ok (without_header variant)

-- ---- the board and the lists

-- what comes after the header
abbrev pub after_header : Text → Text
after_header bytes = if begins_with header_mark bytes then after_first is_line_feed bytes else bytes

-- where the first line of a list begins, or the end of the text
abbrev pub lists_start : Text → ℕ
lists_start body = unwrap_or (option_map (λ line. line.start) (find (λ line. begins_with list_mark line.bytes) (lines_from 0 body))) (length body)

-- the board text: all before the first list
abbrev pub board_part : Text → Text
board_part body = take (lists_start body) body

-- the lines from the first list on, in a text whose first byte has this place
abbrev pub list_lines : ℕ → Text → List Piece
list_lines place body = lines_from (place + lists_start body) (drop (lists_start body) body)

-- a fault of a list's text, which begins at this place
abbrev pub list_fault : ℕ → ListFault → RecordFault
list_fault place (BadToken at) = fault_at (place + at) kind.BadToken
list_fault place (TooMany at) = fault_at (place + at) kind.TooManyMoves

-- the list in this form of the moves that are read from a text, which begins at this place
abbrev pub list_with : {Item : Type 0} → (List Item → MoveList) → ℕ → Result (List Item) ListFault → Result MoveList RecordFault
list_with form place (Ok moves) = Ok (form moves)
list_with form place (Err fault) = Err (list_fault place fault)

-- the line has a second mark after the first: its moves are of several cards
abbrev pub has_two_marks : Text → Bool
has_two_marks line = begins_with list_mark (drop 1 line)

-- what the line of a list says, which begins at this place
-- said again: lists_are_refused_at_their_words
abbrev pub list_read : Game → ℕ → Text → Result MoveList RecordFault
list_read game place line =
    if has_two_marks line then list_with Runs (place + 2) (runs_read game (drop 2 line))
    else list_with OneCard (place + 1) (moves_read game (drop 1 line))

-- a list and those after it, by what is read of each
abbrev pub with_list : Result MoveList RecordFault → Result (List MoveList) RecordFault → Result (List MoveList) RecordFault
with_list (Err fault) later = Err fault
with_list (Ok list) (Err fault) = Err fault
with_list (Ok list) (Ok lists) = Ok (list ∷ lists)

-- the lists of these lines, or the first fault: each line is a list, or is blank or a comment
abbrev pub lists_of : Game → List Piece → Result (List MoveList) RecordFault
lists_of game [] = Ok []
lists_of game (line ∷ lines) =
    if begins_with list_mark line.bytes then with_list (list_read game line.start line.bytes) (lists_of game lines)
    else if is_empty (line_of line) then lists_of game lines
    else Err (fault_at line.start kind.StrayLine)

-- a board and the lists after it
pub record Contents : Type 0 where
  pub board : Board
  pub lists : List MoveList

-- by the first fault of the board text, the lists, and the board that the text spells
abbrev pub contents_with : ℕ → Option BoardFault → Result (List MoveList) RecordFault → Board → Result Contents RecordFault
contents_with place (Some fault) lists board = Err (fault_at (place + fault.place) (kind.Board fault.kind))
contents_with place None (Err fault) board = Err fault
contents_with place None (Ok lists) board = Ok (record { board = board; lists = lists })

-- what the body of a record says, where its first byte has this place
abbrev pub contents_of : Game → ℕ → Text → Result Contents RecordFault
contents_of game place body =
    contents_with place (first_fault game (board_part body)) (lists_of game (list_lines place body)) (board_of game (board_part body))

-- ---- the record

-- a record is accepted, or refused: one with a bad header has no name
pub data Reading : Type 0 where
  Accepted : (heading : Heading) (contents : Contents) → Reading
  Refused : (name : Option Text) (fault : RecordFault) → Reading

abbrev pub reading_with : Heading → Result Contents RecordFault → Reading
reading_with heading (Ok contents) = Accepted heading contents
reading_with heading (Err fault) = Refused heading.name fault

-- what a record says after its header, or from its first byte on where it has none
abbrev pub reading_after : Heading → Text → Reading
reading_after heading bytes =
    reading_with heading (contents_of (game_of heading.variant) (length bytes - length (after_header bytes)) (after_header bytes))

-- by what the header says
abbrev pub reading_by : Result Heading RecordFault → Text → Reading
reading_by (Err fault) bytes = Refused None fault
reading_by (Ok heading) bytes = reading_after heading bytes

-- what a record's bytes say, where records without a header have this variant
-- said again: accepted_records_say_what_they_spell, records_are_refused_for_their_first_fault
abbrev pub reading_of : Variant → Text → Reading
reading_of variant bytes = reading_by (heading_of variant bytes) bytes

-- -------- What clauses see of what the code holds of a record. From: this project.

-- the heading of a record of this variant
abbrev pub heading_seen : Variant → HeldHeading → Heading
heading_seen variant heading = record { variant = variant; has_header = heading.has_header; name = option_map (λ name. name.now) heading.name }

abbrev pub contents_seen : {R : Type 0} {rule : Ghosts R} → HeldContents R rule → Contents
contents_seen contents = record { board = contents.board; lists = contents.lists.items }

-- -------- What it is for a record to be accepted, by what its parts spell and list, and to be refused, by the first part that is at fault. From: this project's profile; the text of the board is Freecell Solver's, and the moves are in standard notation.

-- the record begins with a header line, whose words after the mark are these
abbrev pub HasHeader : Text → List Piece → Type 0
HasHeader bytes words =
    (begins_with header_mark bytes ≡ true) × (words_from is_gap 1 (drop 1 (header_line bytes)) ≡ words)

-- the first of these words names the game of this variant, and the later ones are these
abbrev pub HasGame : Text → Variant → List Piece → Type 0
HasGame bytes own later = (word : Piece) × HasHeader bytes (word ∷ later) × (variant_named word.bytes ≡ Some own)

-- there is no header, and the record is of this variant; or its header has the word of a game alone, or this and a name
pub data HeaderSays (variant : Variant) (bytes : Text) : Heading → Type 0 where
  no_header : begins_with header_mark bytes ≡ false → HeaderSays variant bytes (without_header variant)
  game_alone : (own : Variant) → HasGame bytes own [] → HeaderSays variant bytes (with_header own None)
  game_and_name : (own : Variant) (name : Piece) → HasGame bytes own (name ∷ []) → is_name name.bytes ≡ true
      → HeaderSays variant bytes (with_header own (Some name.bytes))

-- the header is bad at the end of its line, where it has no word; at its first word, where that names no game;
-- at its second, where that is no name; or at its third
pub data BadHeaderAt (bytes : Text) : ℕ → Type 0 where
  no_word : HasHeader bytes [] → BadHeaderAt bytes (length (header_line bytes))
  no_game : (word : Piece) (later : List Piece) → HasHeader bytes (word ∷ later) → variant_named word.bytes ≡ None
      → BadHeaderAt bytes word.start
  no_name : (own : Variant) (name : Piece) (later : List Piece) → HasGame bytes own (name ∷ later)
      → is_name name.bytes ≡ false → BadHeaderAt bytes name.start
  third_word : (own : Variant) (name third : Piece) (later : List Piece) → HasGame bytes own (name ∷ third ∷ later)
      → is_name name.bytes ≡ true → BadHeaderAt bytes third.start

-- the line lists these moves, those of one card after one mark and those of several after two
abbrev pub IsList : Game → Text → MoveList → Type 0
IsList game line (OneCard moves) = (has_two_marks line ≡ false) × Listed (IsToken game) (drop 1 line) moves
IsList game line (Runs moves) = (has_two_marks line ≡ true) × Listed (IsRunToken game) (drop 2 line) moves

-- each of the lines is the next list, or is blank or a comment
pub data AreLists (game : Game) : List Piece → List MoveList → Type 0 where
  no_lines : AreLists game [] []
  next_list : {lines : List Piece} {lists : List MoveList} → AreLists game lines lists → (line : Piece) (list : MoveList)
      → begins_with list_mark line.bytes ≡ true → IsList game line.bytes list → AreLists game (line ∷ lines) (list ∷ lists)
  skipped_line : {lines : List Piece} {lists : List MoveList} → AreLists game lines lists → (line : Piece)
      → begins_with list_mark line.bytes ≡ false → is_empty (line_of line) ≡ true → AreLists game (line ∷ lines) lists

-- the header says this, the board text spells the board, and the lines from the first list on are the lists
pub record RecordSays (variant : Variant) (bytes : Text) (heading : Heading) (contents : Contents) : Type 0 where
  pub header : HeaderSays variant bytes heading
  pub board : Spells (game_of heading.variant) (board_part (after_header bytes)) contents.board
  pub lists : AreLists (game_of heading.variant) (list_lines (length bytes - length (after_header bytes)) (after_header bytes)) contents.lists

-- the first of the lines that is neither a list nor blank nor a comment has this fault
pub data AreFaulty (game : Game) : List Piece → RecordFault → Type 0 where
  bad_list : (line : Piece) (lines : List Piece) (fault : RecordFault)
      → begins_with list_mark line.bytes ≡ true → list_read game line.start line.bytes ≡ Err fault → AreFaulty game (line ∷ lines) fault
  stray_line : (line : Piece) (lines : List Piece)
      → begins_with list_mark line.bytes ≡ false → is_empty (line_of line) ≡ false → AreFaulty game (line ∷ lines) (fault_at line.start kind.StrayLine)
  later_line : {line : Piece} {lines : List Piece} {lists : List MoveList} {fault : RecordFault}
      → AreLists game (line ∷ []) lists → AreFaulty game lines fault → AreFaulty game (line ∷ lines) fault

-- the header is at fault, which leaves no name; or, where it is read, the board text; or else one of the lines from the first list on
pub data IsFaulty (variant : Variant) (bytes : Text) : Option Text → RecordFault → Type 0 where
  bad_header : (place : ℕ) → BadHeaderAt bytes place → IsFaulty variant bytes None (fault_at place kind.BadHeader)
  bad_board : (heading : Heading) → HeaderSays variant bytes heading → (fault : BoardFault)
      → first_fault (game_of heading.variant) (board_part (after_header bytes)) ≡ Some fault
      → IsFaulty variant bytes heading.name (fault_at (length bytes - length (after_header bytes) + fault.place) (kind.Board fault.kind))
  bad_line : (heading : Heading) (board : Board) (fault : RecordFault) → HeaderSays variant bytes heading
      → Spells (game_of heading.variant) (board_part (after_header bytes)) board
      → AreFaulty (game_of heading.variant) (list_lines (length bytes - length (after_header bytes)) (after_header bytes)) fault
      → IsFaulty variant bytes heading.name fault
