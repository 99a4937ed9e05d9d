-- What the code holds and promises on its way from a record to its lines. What is printed is said without it.
pub mod Fitting
use Rattle.fc_card.specs.Types.{Text}
use Rattle.fc_record.specs.declared.record.RecordFaultKind.TheVariants as kind
use Rattle.fc_text.specs.declared.fault.MovesFault.TheVariants as list
use Rattle.std.specs.Prelude.{◌+◌, ◌==◌, ◌∷◌, ◌≡◌, ◌≤◌, [], Bool, Err, if◌then◌else◌, Ok, Result}
use Rattle.std.specs.Prelude.{true, ℕ}
use Rattle.fc_board.specs.{Boards.{Board}, Games.{Game}, Moves.{MoveList, OneCard}}
use Rattle.fc_board.specs.Play.{list_verdict, OnlyLegal, Refused, Verdict, Won}
use Rattle.fc_board.specs.declared.fault.PlayFault.{PlayFault}
use Rattle.fc_text.specs.Notation.{BadToken, BadTokenAt, ListFault, TooMany, TooManyAt}
use Rattle.fc_text.specs.declared.fault.MovesFault.{MovesFault}
use Rattle.fc_record.specs.{Grammar.{fault_at, list_mark}, Printing.{one_card_moves}}
use Rattle.fc_record.specs.declared.record.body.Unread.{TheVariants.{Fault, Memory}, Unread}
use Rattle.fc_record.specs.declared.record.RecordFault.{RecordFault}

-- -------- Where a board's text ends in the body of a record.

-- before a list, or where nothing is left
abbrev pub ends_board : Text → Bool
ends_board [] = true
ends_board (byte ∷ rest) = byte == list_mark

-- -------- What the play of a list gives: the verdict on it, and the moves of one card that it is short for.

abbrev pub verdict_of : Result Bool PlayFault → Verdict
verdict_of (Ok won) = if won then Won else OnlyLegal
verdict_of (Err fault) = Refused fault.index fault.fault

-- the board allows the list, and these are the moves of one card that it is short for
pub record IsExpansion (game : Game) (board : Board) (list expansion : MoveList) : Type 0 where
  pub won : Bool
  pub verdict : list_verdict game board list ≡ verdict_of (Ok won)
  pub moves : expansion ≡ OneCard (one_card_moves game board list)

-- the list is given one card at a time, or this is why the board refuses it
abbrev pub Expanded : Game → Board → MoveList → Result MoveList PlayFault → Type 0
Expanded game board list (Ok expansion) = IsExpansion game board list expansion
Expanded game board list (Err fault) = list_verdict game board list ≡ verdict_of (Err fault)

-- -------- What is so of a fault of a record's contents, where memory did not run out. What a record says is said without it.

abbrev pub IfFaultOf : (RecordFault → Type 0) → Unread → Type 0
IfFaultOf Is (Fault fault) = Is fault
IfFaultOf Is Memory = Unit {0}

abbrev pub IfFault : {A : Type 0} → Result A Unread → (RecordFault → Type 0) → Type 0
IfFault (Ok _) Is = Unit {0}
IfFault (Err unread) Is = IfFaultOf Is unread

-- what is at fault in a list is no further than this in its text
abbrev pub IsNoFurther : ℕ → MovesFault → Type 0
IsNoFurther most (list.BadToken at) = at ≤ most
IsNoFurther most (list.TooMany at) = at ≤ most
IsNoFurther most list.Memory = Unit {0}

-- this is the first fault of a list's text
abbrev pub IsFirstFault : {Item : Type 0} → (Text → Item → Type 0) → Text → ListFault → Type 0
IsFirstFault IsToken text (BadToken at) = BadTokenAt IsToken text at
IsFirstFault IsToken text (TooMany at) = TooManyAt IsToken text at

-- why a list is not read, whose text begins at this place
abbrev pub unread_for : ℕ → MovesFault → Unread
unread_for place (list.BadToken at) = Fault (fault_at (place + at) kind.BadToken)
unread_for place (list.TooMany at) = Fault (fault_at (place + at) kind.TooManyMoves)
unread_for place list.Memory = Memory
