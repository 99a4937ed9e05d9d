-- Lists of moves that are played.
use Rattle.std.specs.{List.{list_all}, Prelude.{◌++◌, ◌+◌, ◌==◌, ◌↔◌, ◌∷◌, ◌≡◌, [], Bool}}
use Rattle.std.specs.Prelude.{if◌then◌else◌, List, None, Option, slice_get, Some, take, ℕ}
use Rattle.fc_board.specs.{Boards.{Board}, Games.{Game}}
use Rattle.fc_board.specs.Moves.{expansion, Fits, list_image, MoveList, OneCard, RunFits, Runs}
use Rattle.fc_board.specs.{Passages.{Passage}, Steps.{after_move, after_run_move, free_cells}}
use Rattle.fc_board.specs.Steps.{moved_count, refusal, run_refusal, RunStep, spare_columns, Step}
use Rattle.fc_board.specs.declared.{fault.StepFault.{StepFault}, moves.Move.{Move}}
use Rattle.fc_board.specs.declared.run_move.RunMove.{RunMove, TheVariants.{One, Run}}

-- -------- Lists of moves, of one card each or of several, played one after another. From: standard FreeCell move notation, whose lists name every move; nothing goes home by itself.

-- by what it is for one move to lead from board to board: each move leads on in its turn,
-- and the board is this one after the last
abbrev pub Played : {Item : Type 0} → (Board → Item → Board → Type 0) → Board → List Item → Board → Type 0
Played Leads board [] after = after ≡ board
Played Leads board (move ∷ moves) after = (between : Board) × Leads board move between × Played Leads between moves after

-- the game allows each move in its turn, and the board is this one after the last
abbrev pub Plays : Game → Board → MoveList → Board → Type 0
Plays game board (OneCard moves) after = Played (Step game) board moves after
Plays game board (Runs moves) after = Played (RunStep game) board moves after

-- the game allows each move in its turn
abbrev pub Legal : Game → Board → MoveList → Type 0
Legal game board moves = (after : Board) × Plays game board moves after

-- each foundation holds its whole suit
abbrev pub IsWon : Board → Type 0
IsWon board = board.heights ≡ 13 ∷ 13 ∷ 13 ∷ 13 ∷ []

-- the game allows each move in its turn, and the board is won after the last
abbrev pub Wins : Game → Board → MoveList → Type 0
Wins game board moves = (after : Board) × Plays game board moves after × IsWon after

-- by what it is for one move to lead from board to board and to fit, and by why one is refused: the moves before this index, counted from 0, lead on, and the move there fits and is refused for this reason
pub record Stops {Item : Type 0} (Leads : Board → Item → Board → Type 0) (FitsGame : Item → Type 0) (reason : Board → Item → Option StepFault)
    (board : Board) (moves : List Item) (index : ℕ) (fault : StepFault) : Type 0 where
  pub before : Board
  pub played : Played Leads board (take index moves) before
  pub move : Item
  pub there : slice_get moves index ≡ Some move
  pub fits : FitsGame move
  pub refused : reason before move ≡ Some fault

-- the game allows the moves before this index, counted from 0, has the piles of the move there,
-- and refuses it for this reason
abbrev pub RefusedAt : Game → Board → MoveList → ℕ → StepFault → Type 0
RefusedAt game board (OneCard moves) = Stops (Step game) (Fits game) (refusal game) board moves
RefusedAt game board (Runs moves) = Stops (RunStep game) (RunFits game) (run_refusal game) board moves

-- -------- What becomes of a list of moves on a board, move by move. From: the games' published building rules.

-- a list is allowed to its end and the board is won then, or it is allowed and the board is not won,
-- or the move at this index, from 0, is refused
pub data Verdict : Type 0 where
  Won : Verdict
  OnlyLegal : Verdict
  Refused : (index : ℕ) → (fault : StepFault) → Verdict

-- each foundation holds its whole suit
abbrev pub has_all_home : Board → Bool
has_all_home board = list_all (λ height. height == 13) board.heights

-- the verdict on a list, by that on the list after its first move
abbrev pub one_later : Verdict → Verdict
one_later (Refused index fault) = Refused (index + 1) fault
one_later verdict = verdict

-- the verdict on a list, by why its first move is refused and by the verdict on what follows
abbrev pub by_first : Option StepFault → Verdict → Verdict
by_first (Some fault) later = Refused 0 fault
by_first None later = one_later later

-- the verdict on a list, by why a move is refused and by the board after one that is not
abbrev pub verdict_by : {Item : Type 0} → (Board → Item → Option StepFault) → (Board → Item → Board) → Board → List Item → Verdict
verdict_by reason moved board [] = if has_all_home board then Won else OnlyLegal
verdict_by reason moved board (move ∷ moves) = by_first (reason board move) (verdict_by reason moved (moved board move) moves)

-- the verdict on a list of moves of one card
abbrev pub verdict : Game → Board → List Move → Verdict
verdict game = verdict_by (refusal game) after_move

-- the verdict on a list of moves of several cards
abbrev pub run_verdict : Game → Board → List RunMove → Verdict
run_verdict game = verdict_by (run_refusal game) (after_run_move game)

-- the verdict on a list in either form
-- said again: verdicts_are_true
abbrev pub list_verdict : Game → Board → MoveList → Verdict
list_verdict game board (OneCard moves) = verdict game board moves
list_verdict game board (Runs moves) = run_verdict game board moves

-- -------- A passage names the places of moves anew, so that on the board that it leads to they are moves of the same cards. From: standard FreeCell move notation, which names columns and cells by their places.

-- a list of moves plays from the one board as its image under the passage from the other:
-- they are legal together, win together, and are refused at one index for one reason
pub record PlaysAlike (game : Game) (passage : Passage) (board other : Board) : Type 0 where
  pub legal : (moves : MoveList) → Legal game board moves ↔ Legal game other (list_image passage moves)
  pub wins : (moves : MoveList) → Wins game board moves ↔ Wins game other (list_image passage moves)
  pub refused : (moves : MoveList) (index : ℕ) (fault : StepFault)
      → RefusedAt game board moves index fault ↔ RefusedAt game other (list_image passage moves) index fault

-- -------- The moves of one card that make a move of several cards. From: this project.

-- the one-card moves that make a move
abbrev pub expansion_of : Game → Board → RunMove → List Move
expansion_of game board (One move) = move ∷ []
expansion_of game board (Run from to said) = expansion (free_cells game board) (moved_count game board from to said) from to (spare_columns board to)

-- those that make a list: of each move on the board that the moves before it leave
abbrev pub expansions : Game → Board → List RunMove → List Move
expansions game board [] = []
expansions game board (move ∷ moves) = expansion_of game board move ++ expansions game (after_run_move game board move) moves

-- the one-card moves lead where the move leads
abbrev pub Expands : Game → Board → RunMove → List Move → Type 0
Expands game board move moves = (after : Board) × RunStep game board move after × Plays game board (OneCard moves) after
