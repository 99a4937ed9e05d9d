-- What a text is imported as.
use Rattle.std.specs.{Fmt.{decimal}, Io.KnownBytes.{IsAtEnd}}
use Rattle.std.specs.{List.{before_first, flat_map, list_any}, Option.{is_some, option_to_list}}
use Rattle.std.specs.Prelude.{◌&&◌, ◌++◌, ◌+◌, ◌-◌, ◌<◌, ◌==◌, ◌||◌, ◌↔◌, ◌∷◌, ◌≡◌, ◌≢◌, ◌≤◌, ◌⊎◌}
use Rattle.std.specs.Prelude.{[], All, Bool, codes, Err, false, if◌then◌else◌, length, List, map}
use Rattle.std.specs.Prelude.{None, not, Ok, Option, Result, slice_get, slice_index, slice_index_or}
use Rattle.std.specs.{Prelude.{Some, take, true, ℕ}, Str.{bytes_eq}}
use Rattle.fc_card.specs.{places, Types.{Card, Pile, Text}}
use Rattle.fc_board.specs.{Boards.{Board, IsWellFormed}, Games.{Builds, Game, game_of}}
use Rattle.fc_board.specs.{Moves.{move_count, MoveList, OneCard, Runs}, Play.{Legal}}
use Rattle.fc_board.specs.declared.rule.Variant.{Variant}
use Rattle.fc_text.specs.{Bytes.{line_feed}, Lines.{lines_from, Piece, words}}
use Rattle.fc_text.specs.Notation.{IsRunToken, IsToken, Listed, most_moves, separates_tokens}
use Rattle.fc_text.specs.{Printed.{text_of}, Spelling.{Spells}}
use Rattle.fc_record.specs.Grammar.{begins_with, is_line_feed, is_name, list_mark}
use Rattle.fc_record.specs.Printing.{header_text, list_line}
use Rattle.fc_record.specs.RecordTexts.{ends_line as ends_lines, header_mark}
use Rattle.fc_collect.specs.{Limits.{most_bytes, standard}, Promises.{Begins, Transfer}}
use Rattle.fc_collect.specs.Runs.{TransfersWithin}
use Rattle.fc_collect.specs.declared.commands.RunKind.TheVariants.{Show}
use Rattle.fc_collect.specs.declared.streams.faults.RunFault.{RunFault}
use Rattle.fc_collect.specs.declared.streams.faults.RunFault.TheVariants.{TooLarge, Write}
use Rattle.fc_collect.specs.declared.streams.faults.Summary.{Summary}
use Rattle.fc_import.specs.{Labels.{says_column}, Notes.{after, after_heading, counted}}
use Rattle.fc_import.specs.Notes.{first_state, IsNote, line_feeds, SaysUnless, State}
use Rattle.fc_import.specs.Scan.{HasFewCards, is_in_words, is_list, is_number_alone, IsProse}
use Rattle.fc_import.specs.Scan.{IsQuiet, lists_moves, named_cards, said_in, words_of}
use Rattle.fc_import.specs.{Strips.{tells_columns}, Words.{ended, named_in, named_lines, text_read}}
use Rattle.fc_import.specs.declared.{
  layout.Layout.{Layout, TheVariants.{Columns, ColumnsInLine, Deal, Rows}},
  options.{ImportOptions.{ImportOptions}, LinesAre.{LinesAre}},
  options.{LinesAre.TheVariants.{Columns as AsColumns, Rows as AsRows}, Noted.{Noted}},
  options.Noted.TheVariants.{Doubts, Strict},
  tally.Fate.TheVariants.{ABoard, Again, AList, LeftOut, Passed, RefusedBoard, RefusedList},
  tally.Tally.{Tally},
}

-- -------- When lines are a board. From: the layouts that people and programs write, and the rules of the games.

abbrev pub in_cells : Board → List Card
in_cells board = flat_map option_to_list board.cells

-- the first card of each column, or the second, and so on
abbrev pub in_row : Board → ℕ → List Card
in_row board row = flat_map (λ column. option_to_list (slice_get column row)) board.columns

-- the cards of the columns as lines name them in this layout, with an end after those of each line
abbrev pub lines_in : Layout → Board → List ℕ
lines_in (Rows strips) board = flat_map (λ row. ended (in_row board row)) (places 52)
lines_in Deal board = ended (flat_map (in_row board) (places 52))
lines_in layout board = flat_map ended board.columns

-- no cell before a taken one is empty
abbrev pub ArePacked : List (Option ℕ) → Type 0
ArePacked cells = (place : ℕ) → 1 ≤ place → place < length cells → slice_index_or cells (place - 1) None ≡ None → slice_index_or cells place None ≡ None

-- no line without words comes between two that name cards: by what came before, whether one with cards did, and a line without words after it
abbrev pub stand_together : (begun parted : Bool) → List Piece → Bool
stand_together begun parted [] = true
stand_together begun parted (line ∷ lines) =
    if is_some (slice_get (named_cards line.bytes) 0) then not parted && stand_together true false lines
    else stand_together begun (parted || (begun && length (words_of line.bytes) == 0)) lines

-- each line that names cards names those of the cells or of the next column, none of these is empty, a line with the number of a column is that one, and no blank line comes between them
pub record HasLines (piece : Text) (board : Board) : Type 0 where
  pub named : named_lines piece ≡ ended (in_cells board) ++ lines_in Columns board
  pub columns : All (λ column. column ≢ []) board.columns
  pub cells : ArePacked board.cells
  pub told : tells_columns Columns piece board ≡ true
  pub together : stand_together false false (lines_from 0 piece) ≡ true

-- `show` reads the lines as the board, or they are its lines
abbrev pub SpellsOut : Game → (piece : Text) → Board → Type 0
SpellsOut game piece board = Spells game piece board ⊎ HasLines piece board

-- each card of a column that comes after seven, as many as a deal has there at most, goes on the card before it
abbrev pub IsBuilt : Game → (column : Pile) → Type 0
IsBuilt game column = (place : ℕ) → 7 ≤ place → place < length column → Builds game (slice_index column place) (slice_index column (place - 1))

-- play can make the columns of the board, or the lines are the board as it is printed
abbrev pub CanBe : Game → (piece : Text) → Board → Type 0
CanBe game piece board = All (IsBuilt game) board.columns ⊎ (piece ≡ text_of board)

-- what the lines are where nothing is noted of a board that they are read as: they spell it out, and play can make it, or, where each change is noted, they are it as it is printed
abbrev pub BoardNeedsNoNote : Noted → Game → (piece : Text) → Board → Type 0
BoardNeedsNoNote Doubts game piece board = SpellsOut game piece board × CanBe game piece board
BoardNeedsNoNote noted game piece board = piece ≡ text_of board

-- the words of the text are the tokens of the list's moves
abbrev pub Names : Game → (text : Text) → MoveList → Type 0
Names game text (OneCard moves) = Listed (IsToken game) text moves
Names game text (Runs moves) = Listed (IsRunToken game) text moves

-- the moves that its lists name, each after a blank; a number alone may be a move too
abbrev pub moves_of_line : Game → (in_words : Bool) → (line : Text) → Text
moves_of_line game in_words line = if lists_moves game in_words line || is_number_alone (words_of line) then (said_in game line).moves else []

abbrev pub moves_of : Game → (piece : Text) → Text
moves_of game piece = flat_map (λ line. moves_of_line game (is_in_words piece) line.bytes) (lines_from 0 piece)

-- the words are one by one these tokens, but that a move of two letters may say that it is of one card
abbrev pub agree : (words tokens : List Text) → Bool
agree [] [] = true
agree (word ∷ words) (token ∷ tokens) = (bytes_eq token word || (length word == 2 && bytes_eq token (word ++ codes "v1"))) && agree words tokens
agree words tokens = false

-- the words of the lines name the moves of the list, in order
pub record NamesList (game : Game) (piece : Text) (list : MoveList) : Type 0 where
  pub text : Text
  pub agrees : agree (words separates_tokens (moves_of game piece)) (words separates_tokens text) ≡ true
  pub names : Names game text list

-- each line is a list, or has no words
abbrev pub AreLists : Game → (piece : Text) → Type 0
AreLists game piece = All (λ line. (lists_moves game (is_in_words piece) line.bytes ≡ true) ⊎ (length (words_of line.bytes) ≡ 0)) (lines_from 0 piece)

-- and of a list of moves: it is their lines or, where each change is noted, they are its line
abbrev pub ListNeedsNoNote : Noted → Game → (piece : Text) → MoveList → Type 0
ListNeedsNoNote Doubts game piece list = (piece ≡ list_line list) ⊎ AreLists game piece
ListNeedsNoNote noted game piece list = piece ≡ list_line list

-- a semicolon, a bar, a slash and closing brackets
abbrev pub ends_column : ℕ → Bool
ends_column byte = byte == 0x3B || byte == 0x7C || byte == 0x2F || byte == 0x5D || byte == 0x29 || byte == 0x7D

-- the lines as a layout has them: where one line has all columns, these marks end columns as line feeds do
abbrev pub lines_of : Layout → (piece : Text) → Text
lines_of ColumnsInLine piece = map (λ byte. if ends_column byte then line_feed else byte) piece
lines_of layout piece = piece

-- the lines name the cards of the board in this layout, and those of the cells in a line before or after them
abbrev pub AreIn : Layout → (piece : Text) → Board → Type 0
AreIn layout piece board =
    let named = named_lines (lines_of layout piece) in
    (named ≡ ended (in_cells board) ++ lines_in layout board) ⊎ (named ≡ lines_in layout board ++ ended (in_cells board))

-- lines that are said to be columns are no rows; and of lines that are said to be rows one must say that it is a column's, if they are columns
abbrev pub may_be : LinesAre → Layout → (piece : Text) → Bool
may_be AsColumns (Rows strips) piece = false
may_be AsRows Columns piece = list_any (λ line. says_column line.bytes) (lines_from 0 piece)
may_be lines_are layout piece = true

-- the lines are the board as it is printed; or they spell it out, and may be columns; or they name its cards in a layout that they may have, where rows tell under which columns these stand
pub data IsReadAs (lines_are : LinesAre) (game : Game) (piece : Text) (board : Board) : Type 0 where
  printed : piece ≡ text_of board → IsReadAs lines_are game piece board
  spelled : may_be lines_are Columns piece ≡ true → SpellsOut game piece board → IsReadAs lines_are game piece board
  laid : (layout : Layout) → may_be lines_are layout piece ≡ true → tells_columns layout piece board ≡ true → AreIn layout piece board → IsReadAs lines_are game piece board

-- a name and the number of the board that has it, in at most 64 bytes
abbrev pub numbered : Text → ℕ → Text
numbered name number = take (63 - length (decimal number)) name ++ codes "_" ++ decimal number

-- the first board after a header with a name has that name, and each later one has it with its number; without such a header a board has some name that a header can give
pub record IsNamed (state : State) (name : Text) : Type 0 where
  pub by_header : state.place.name ≢ [] → name ≡ (if state.named == 0 then state.place.name else numbered state.place.name (counted (state.named + 1)))
  pub alone : state.place.name ≡ [] → (is_name name ≡ true) × (name ≢ [])

-- the piece may be read after what came before: no solution goes on there, or its first line ends one, since it has no words or begins as fcanon's lists do
abbrev pub IsApart : State → (piece : Text) → Type 0
IsApart state piece = (state.goes_on ≡ false) ⊎ (begins_with list_mark piece ≡ true) ⊎ (length (words_of (before_first is_line_feed piece)) ≡ 0)

-- -------- What each piece of a text becomes: some whole lines, and what is written and said for them. From: this project's profile.

-- the line of a header
pub record IsHeading (line : Text) : Type 0 where
  pub mark : begins_with header_mark line ≡ true
  pub one : length (lines_from 0 line) ≤ 1

-- no line of the piece is a header
abbrev pub HasNoHeader : (piece : Text) → Type 0
HasNoHeader piece = All (λ line. begins_with header_mark line.bytes ≡ false) (lines_from 0 piece)

-- a line that is no board's: a list, or one that has few cards
pub data IsNoBoard (game : Game) (line : Text) : Type 0 where
  of_moves : is_list game line ≡ true → IsNoBoard game line
  of_words : HasFewCards line → IsNoBoard game line

-- after a list that is not taken the last board stays, if no line of it may be another board's
abbrev pub StaysLast : Game → (piece : Text) → (before after : Option Board) → Type 0
StaysLast game piece before after = (after ≡ None) ⊎ ((after ≡ before) × All (λ line. IsNoBoard game line.bytes) (lines_from 0 piece))

-- the state before and after the piece, what is written, and what is said
pub data Reading (variant : Variant) (game : Game) (state : State) (piece : Text) : (next : State) → (written said : Text) → Type 0 where
  -- lines that name nothing
  passed : IsApart state piece → All (λ line. IsQuiet game line.bytes) (lines_from 0 piece) → Reading variant game state piece (after state piece state.last Passed) [] []
  -- a line of prose that names cards
  left_out : (said : Text) → IsApart state piece → named_in piece ≢ [] → All (λ line. IsProse game line.bytes) (lines_from 0 piece) → IsNote state.place piece said → Reading variant game state piece (after state piece state.last LeftOut) [] said
  -- a board, as which the lines are read, and which play can make, unless they are said to be columns: nothing is said of one that needs no note
  a_board : (name : Text) (board : Board) (said : Text) → state.other_game ≡ false → IsNamed state name → IsWellFormed game board → (state.options.lines_are ≡ AsColumns) ⊎ CanBe game piece board
      → IsReadAs state.options.lines_are game piece board → SaysUnless (BoardNeedsNoNote state.options.noted game piece board) state.place piece said
      → Reading variant game state piece (after state piece (Some board) ABoard) (header_text variant name ++ text_of board) said
  -- the last board once more, after the rule that begins a solution: nothing is said of one that needs no note
  once_more : (board : Board) (said : Text) → state.last ≡ Some board → state.begun ≡ true
      → IsReadAs state.options.lines_are game piece board → SaysUnless (BoardNeedsNoNote state.options.noted game piece board) state.place piece said
      → Reading variant game state piece (after state piece state.last Again) [] said
  -- a list that the lines name, and that is legal on the last board: nothing is said of one that needs no note
  a_list : (board : Board) (list : MoveList) (said : Text) → IsApart state piece → state.last ≡ Some board → Legal game board list → move_count list ≤ most_moves
      → (piece ≡ list_line list) ⊎ NamesList game piece list → SaysUnless (ListNeedsNoNote state.options.noted game piece list) state.place piece said
      → Reading variant game state piece (after state piece state.last AList) (list_line list) said
  -- a board that is not taken: no list may follow it
  refused_board : (said : Text) → IsNote state.place piece said → Reading variant game state piece (after state piece None RefusedBoard) [] said
  -- a list that is not taken
  refused_list : (last : Option Board) (said : Text) → IsApart state piece → StaysLast game piece state.last last → IsNote state.place piece said
      → Reading variant game state piece (after state piece last RefusedList) [] said

-- a text by its headers and the pieces between them, each of which begins a line and has one fate
pub data Imported (variant : Variant) (options : ImportOptions) (game : Game) : (text : Text) → State → (written said : Text) → Type 0 where
  none_yet : Imported variant options game [] (first_state options) [] []
  -- a header: no list may follow it
  headed : (text : Text) (state : State) (written said : Text) → Imported variant options game text state written said → ends_lines text ≡ true
      → (line : Text) → IsHeading line → Imported variant options game (text ++ line) (after_heading variant state line) written said
  one_more : (text : Text) (state : State) (written said : Text) → Imported variant options game text state written said → ends_lines text ≡ true
      → (piece : Text) → HasNoHeader piece → (next : State) (more says : Text) → Reading variant game state piece next more says
      → Imported variant options game (text ++ piece) next (written ++ more) (said ++ says)

-- -------- What fcanon prints. From: this project's profile.

-- the text is what fcanon prints of boards and of lists that are legal on them: after this board, if there is one, come its lists and then records with names
pub data IsPrinted (variant : Variant) (game : Game) : (last : Option Board) → (text : Text) → Type 0 where
  nothing : (last : Option Board) → IsPrinted variant game last []
  record_next : (last : Option Board) (name : Text) (board : Board) (rest : Text) → is_name name ≡ true → name ≢ [] → IsWellFormed game board
      → IsPrinted variant game (Some board) rest → IsPrinted variant game last (header_text variant name ++ (text_of board ++ rest))
  list_next : (board : Board) (list : MoveList) (rest : Text) → Legal game board list → move_count list ≤ most_moves
      → IsPrinted variant game (Some board) rest → IsPrinted variant game (Some board) (list_line list ++ rest)

-- what is made of a text, and what is said of it: what fcanon prints is imported as it is, in silence
pub record IsImportedAs (variant : Variant) (options : ImportOptions) (text : Text) (state : State) (made notes : Text) : Type 0 where
  pub imported : Imported variant options (game_of variant) text state made notes
  pub kept : IsPrinted variant (game_of variant) None text → (made ≡ text) × (notes ≡ [])

-- -------- What a run promises that imports its input. From: this project's profile.

-- so many of these, in words
abbrev pub count_text : ℕ → (noun : Text) → Text
count_text number noun = decimal number ++ codes " " ++ noun ++ (if number == 1 then [] else codes "s")

-- the last line of the notes
abbrev pub tally_line : Tally → Text
tally_line tally =
    codes "fcanon: " ++ count_text tally.boards (codes "board") ++ codes ", " ++ count_text tally.lists (codes "list")
    ++ codes "; not taken: " ++ count_text tally.refused_boards (codes "board") ++ codes ", " ++ count_text tally.refused_lists (codes "list")
    ++ codes "; " ++ count_text tally.left_out (codes "line") ++ codes " left out" ++ line_feed ∷ []

abbrev pub with_tally : Tally → (notes : Text) → Text
with_tally tally [] = []
with_tally tally (byte ∷ notes) = byte ∷ notes ++ tally_line tally

-- the boards and lists that are not taken
abbrev pub refusals : Tally → ℕ
refusals tally = counted (tally.refused_boards + tally.refused_lists)

-- or, in a strict import, each note
abbrev pub refused_by : Noted → Tally → (notes : Text) → ℕ
refused_by Strict tally notes = counted (line_feeds notes)
refused_by noted tally notes = refusals tally

abbrev pub no_board_line : Text
no_board_line = codes "fcanon: there is no board in the input" ++ line_feed ∷ []

abbrev pub too_much_line : Text
too_much_line = codes "fcanon: not imported: this makes more than one collection holds: import it in parts" ++ line_feed ∷ []

-- `show` takes the whole text as so many records, prints it as it is, and refuses none of them
abbrev pub IsShown : Variant → (text : Text) → (records : ℕ) → Type 0
IsShown variant text records =
    TransfersWithin standard Show variant (record { input = Some text; left = Some []; before = Some []; after = Some text }) (Ok (record { records = records; refused = 0 }))

-- what is made of the text that these bytes are read as, what is said of it, and the summary
pub data Makes (variant : Variant) (options : ImportOptions) (bytes : Text) : (made said : Text) → Summary → Type 0 where
  -- a collection that `show` takes
  collection : (state : State) (made notes : Text) (records : ℕ) → IsImportedAs variant options (text_read bytes) state made notes → IsShown variant made records
      → (made ≢ []) ⊎ (0 < refusals state.tally) → (refused : ℕ) → refused ≡ refused_by options.noted state.tally notes
      → Makes variant options bytes made (with_tally state.tally notes) (record { records = counted (records + refused); refused = refused })
  -- nothing, since the text has no board
  no_board : (state : State) (notes : Text) → IsImportedAs variant options (text_read bytes) state [] notes → refusals state.tally ≡ 0
      → Makes variant options bytes [] (with_tally state.tally notes ++ no_board_line) (record { records = 1; refused = 1 })
  -- nothing, since `show` does not take what is made of it
  too_much : (state : State) (made notes : Text) → IsImportedAs variant options (text_read bytes) state made notes → ((records : ℕ) → ¬ IsShown variant made records)
      → Makes variant options bytes [] (notes ++ too_much_line) (record { records = 1; refused = 1 })

-- how each result goes with what an import transferred, which said this: all was read, at most 16 MiB, and what is made of it was written or, where a write failed, a beginning of that; else nothing was written or said, and more than 16 MiB are `TooLarge`
abbrev pub ImportFits : Variant → ImportOptions → (said : Text) → Transfer → Result Summary RunFault → Type 0
ImportFits variant options said bytes (Ok summary) = IsAtEnd bytes.left × (length bytes.read ≤ most_bytes) × Makes variant options bytes.read bytes.written said summary
ImportFits variant options said bytes (Err Write) = IsAtEnd bytes.left × (length bytes.read ≤ most_bytes) × ((made : Text) × (summary : Summary) × Makes variant options bytes.read made said summary × Begins bytes.written made)
ImportFits variant options said bytes (Err fault) = (bytes.written ≡ []) × (said ≡ []) × ((fault ≡ TooLarge) ↔ (most_bytes < length bytes.read))
