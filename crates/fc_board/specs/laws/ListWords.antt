-- Words of lemmas for lists of moves in one form, for runs, and for what a pile can hold.
use Rattle.std.specs.Prelude.{◌∷◌, [], IfSome, List, map, Option, ℕ}
use Rattle.fc_card.specs.{IsCard, Types.{Card, Order}}
use Rattle.fc_board.specs.{Boards.{Board}, Games.{Builds, Game}, Moves.{OneCard}}
use Rattle.fc_board.specs.Passages.{carried_move, image, Passage, run_image}
use Rattle.fc_board.specs.Play.{IsWon, Played, Plays}
use Rattle.fc_board.specs.Steps.{column_at, Confined, last_cards, run_moved, RunStep, Step}
use Rattle.fc_board.specs.declared.{moves.Move.{Move}, run_move.RunMove.{RunMove}}

-- -------- Words of lemmas for what a pile can hold.

-- what a cell can hold
abbrev pub IsCell : Option Card → Type 0
IsCell cell = IfSome cell IsCard

-- -------- Words of lemmas for runs.

-- each card goes on the one before it
abbrev pub IsRun : Game → List Card → Type 0
IsRun game [] = Unit {0}
IsRun game (card ∷ []) = Unit {0}
IsRun game (card ∷ next ∷ cards) = Builds game next card × IsRun game (next ∷ cards)

-- moves that stay within these piles and take no other cards take so many last cards of the one column to
-- the end of the other
abbrev pub CanGoOver : Game → Board → ℕ → ℕ → ℕ → Type 0
CanGoOver game board from to count = (moves : List Move) × Confined board from to (last_cards count (column_at board from)) board moves × Plays game board (OneCard moves) (run_moved board from to count)

-- -------- Words of lemmas for lists of moves in one form: what is said of a list in that form, and the image of its moves.

-- ---- of one card
abbrev pub MovesPlay : Game → Board → List Move → Board → Type 0
MovesPlay game board moves after = Played (Step game) board moves after

abbrev pub MovesWin : Game → Board → List Move → Type 0
MovesWin game board moves = (after : Board) × MovesPlay game board moves after × IsWon after

abbrev pub images : Order → Order → List Move → List Move
images columns cells moves = map (image columns cells) moves

abbrev pub carried_moves : Passage → List Move → List Move
carried_moves passage moves = map (carried_move passage) moves

-- ---- of several cards
abbrev pub RunPlays : Game → Board → List RunMove → Board → Type 0
RunPlays game board moves after = Played (RunStep game) board moves after

abbrev pub RunLegal : Game → Board → List RunMove → Type 0
RunLegal game board moves = (after : Board) × RunPlays game board moves after

abbrev pub RunWins : Game → Board → List RunMove → Type 0
RunWins game board moves = (after : Board) × RunPlays game board moves after × IsWon after

abbrev pub run_images : Order → Order → List RunMove → List RunMove
run_images columns cells moves = map (run_image columns cells) moves
