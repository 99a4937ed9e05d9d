-- Moves and lists of moves.
use Rattle.std.specs.Prelude.{◌*◌, ◌++◌, ◌+◌, ◌-◌, ◌<◌, ◌∷◌, ◌≤◌, [], All, Bool, false, IfSome}
use Rattle.std.specs.Prelude.{if◌then◌else◌, IsFalse, length, List, map, nat_le, Option, take, true}
use Rattle.std.specs.Prelude.{ℕ}
use Rattle.fc_board.specs.{Games.{Game}, Passages.{carried_move, carried_run, Passage}}
use Rattle.fc_board.specs.declared.moves.{Move.{Move}, Place.{Place, TheVariants.{Cell as ToCell}}}
use Rattle.fc_board.specs.declared.moves.Place.TheVariants.{Column as ToColumn, Home}
use Rattle.fc_board.specs.declared.moves.Source.{Source}
use Rattle.fc_board.specs.declared.moves.Source.TheVariants.{Cell as FromCell, Column as FromColumn}
use Rattle.fc_board.specs.declared.run_move.RunMove.{RunMove, TheVariants.{One, Run}}

-- -------- Moves of one card: from a column or a cell, to a column, a cell or home. From: standard FreeCell notation.

-- the move with this source and this target
abbrev pub move_between : Source → Place → Move
move_between from to = record { from = from; to = to }

-- the game has what the card is taken from
abbrev pub SourceFits : Game → Source → Type 0
SourceFits game (FromColumn column) = column < 8
SourceFits game (FromCell cell) = cell < game.cells

-- the game has what the card is put on
abbrev pub PlaceFits : Game → Place → Type 0
PlaceFits game (ToColumn column) = column < 8
PlaceFits game (ToCell cell) = cell < game.cells
PlaceFits game Home = Unit {0}

-- the game has the columns and cells of the move
abbrev pub Fits : Game → Move → Type 0
Fits game move = SourceFits game move.from × PlaceFits game move.to

-- -------- Moves of several cards: the last cards of a column go to another column, as many as the move says or, where it says none, as the board allows. From: standard FreeCell notation, and this project's profile of it.

abbrev pub both_columns : Source → Place → Bool
both_columns (FromColumn column) (ToColumn other) = true
both_columns source place = false

-- the move is from column to column
abbrev pub is_column_to_column : Move → Bool
is_column_to_column move = both_columns move.from move.to

-- the number, where there is one, is that of a run
abbrev pub IsCount : Option ℕ → Type 0
IsCount count = IfSome count (λ n. (1 ≤ n) × (n ≤ 13))

-- the game has the piles of the move, and the number is one of a run
abbrev pub RunFits : Game → RunMove → Type 0
RunFits game (One move) = Fits game move × IsFalse (is_column_to_column move)
RunFits game (Run from to count) = (from < 8) × (to < 8) × IsCount count

-- -------- Lists of moves in either form, of one card in each move or of several, and what every list has. From: standard FreeCell move notation, and this project's profile of moves of several cards.

pub data MoveList : Type 0 where
  OneCard : (moves : List Move) → MoveList
  Runs : (moves : List RunMove) → MoveList

-- its moves fit the game
abbrev pub ListFits : Game → MoveList → Type 0
ListFits game (OneCard moves) = All (Fits game) moves
ListFits game (Runs moves) = All (RunFits game) moves

-- how many moves it has
abbrev pub move_count : MoveList → ℕ
move_count (OneCard moves) = length moves
move_count (Runs moves) = length moves

-- each move after the passage
abbrev pub list_image : Passage → MoveList → MoveList
list_image passage (OneCard moves) = OneCard (map (carried_move passage) moves)
list_image passage (Runs moves) = Runs (map (carried_run passage) moves)

-- -------- The moves of one card by which a run is moved: the last cards wait in cells or, where there are too many, in a column beside. From: this project; the usual way of players.

-- one card goes to the target while those after it wait in the cells, the last one in the first cell
abbrev pub over_cells : ℕ → ℕ → List ℕ → List Move
over_cells from to [] = move_between (FromColumn from) (ToColumn to) ∷ []
over_cells from to (cell ∷ cells) = move_between (FromColumn from) (ToCell cell) ∷ (over_cells from to cells ++ move_between (FromCell cell) (ToColumn to) ∷ [])

-- the least of reach, twice reach, four times reach and so on that is half of the count or more;
-- no more doublings are needed than there are helpers
-- said again: half_is_the_least_of_its_kind
abbrev pub half : ℕ → ℕ → List ℕ → ℕ
half reach count [] = reach
half reach count (helper ∷ spare_columns) = if nat_le count (2 * reach) then reach else half (2 * reach) count spare_columns

-- so many cards go from column to column over these cells and helper columns:
-- over the cells alone if they are enough; else the last ones wait in the first helper column while the others go
abbrev pub expansion : List ℕ → ℕ → ℕ → ℕ → List ℕ → List Move
expansion cells count from to [] = over_cells from to (take (count - 1) cells)
expansion cells count from to (helper ∷ spare_columns) =
    let high = half (length cells + 1) count spare_columns in
    if nat_le count (length cells + 1) then over_cells from to (take (count - 1) cells)
    else (expansion cells (count - high) from helper spare_columns ++ (expansion cells high from to spare_columns ++ expansion cells (count - high) helper to spare_columns))
