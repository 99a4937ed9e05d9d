-- What clauses see of the lists and of the printed text that the code holds.
use Rattle.fc_card.specs.Types.{Text}
use Rattle.fc_record.specs.declared.record.move_list.Form.TheVariants as form
use Rattle.std.proofs.Math.Bool.{Bool-set}
use Rattle.std.specs.Coded.{×_prop, Coded-set, coded_list, coded_ℕ, le_prop, Unit-prop}
use Rattle.std.specs.Prelude.{◌≡◌, All, false, get_or, IfSome, List, None, Option, Some, ℕ}
use Rattle.fc_board.specs.{Boards.{Board}, Games.{Game}, Moves.{Fits, is_column_to_column, IsCount}}
use Rattle.fc_board.specs.Moves.{ListFits, MoveList, OneCard, PlaceFits, RunFits, Runs, SourceFits}
use Rattle.fc_board.specs.declared.moves.{Move.{Move}, Place.{Place, TheVariants.{Cell as ToCell}}}
use Rattle.fc_board.specs.declared.moves.Place.TheVariants.{Column as ToColumn, Home}
use Rattle.fc_board.specs.declared.moves.Source.{Source}
use Rattle.fc_board.specs.declared.moves.Source.TheVariants.{Cell as FromCell, Column as FromColumn}
use Rattle.fc_board.specs.declared.run_move.RunMove.{RunMove, TheVariants.{One, Run}}
use Rattle.{fc_record.specs.declared.record.move_list.Form.{Form}, fc_text.specs.Printed.{text_of}}

-- -------- Lists of moves that all fit a game; two proofs of that are equal.

abbrev pub AllFit : Game → List MoveList → Type 0
AllFit game lists = All (ListFits game) lists

SourceFits-prop : (game : Game) (source : Source) → IsProp (SourceFits game source)
SourceFits-prop game (FromColumn column) = le_prop
SourceFits-prop game (FromCell cell) = le_prop

PlaceFits-prop : (game : Game) (place : Place) → IsProp (PlaceFits game place)
PlaceFits-prop game (ToColumn column) = le_prop
PlaceFits-prop game (ToCell cell) = le_prop
PlaceFits-prop game Home = Unit-prop

Fits-prop : (game : Game) (move : Move) → IsProp (Fits game move)
Fits-prop game move = ×_prop (SourceFits-prop game move.from) (PlaceFits-prop game move.to)

IsCount-prop : (count : Option ℕ) → IsProp (IsCount count)
IsCount-prop None = Unit-prop
IsCount-prop (Some n) = ×_prop le_prop le_prop

RunFits-prop : (game : Game) (move : RunMove) → IsProp (RunFits game move)
RunFits-prop game (One move) = ×_prop (Fits-prop game move) (Bool-set (is_column_to_column move) false)
RunFits-prop game (Run from to count) = λ x y i. (le_prop x.0 y.0 i, le_prop x.1 y.1 i, IsCount-prop count x.2 y.2 i)

pub ListFits-prop : (game : Game) (list : MoveList) → IsProp (ListFits game list)
ListFits-prop game (OneCard moves) = λ x y i place d within. Fits-prop game (get_or moves place d) (x place d within) (y place d within) i
ListFits-prop game (Runs moves) = λ x y i place d within. RunFits-prop game (get_or moves place d) (x place d within) (y place d within) i

pub AllFit-prop : (game : Game) (lists : List MoveList) → IsProp (AllFit game lists)
AllFit-prop game lists x y i place d within = ListFits-prop game (get_or lists place d) (x place d within) (y place d within) i

-- -------- The text of a board, where a record has it as it is printed; two proofs that it is are equal.

-- the printed text of the board, if it is a text
abbrev pub IsPrinted : Option Text → Board → Type 0
IsPrinted printed board = IfSome printed (λ text. text ≡ text_of board)

pub IsPrinted-prop : (printed : Option Text) (board : Board) → IsProp (IsPrinted printed board)
IsPrinted-prop None board = Unit-prop
IsPrinted-prop (Some text) board = Coded-set (coded_list coded_ℕ) text (text_of board)

-- -------- What clauses see of a list of moves that the code holds.

abbrev pub list_seen : Form → MoveList
list_seen (form.OneCard moves) = OneCard moves.items
list_seen (form.Runs moves) = Runs moves.items
