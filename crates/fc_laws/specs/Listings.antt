-- The order in which the moves of a board are listed.
use Rattle.std.specs.Prelude.{◌*◌, ◌+◌, Some, ℕ}
use Rattle.fc_board.specs.Games.{Game}
use Rattle.fc_board.specs.declared.moves.{Move.{Move}, Place.{Place, TheVariants.{Cell as ToCell}}}
use Rattle.fc_board.specs.declared.moves.Place.TheVariants.{Column as ToColumn, Home}
use Rattle.fc_board.specs.declared.moves.Source.{Source}
use Rattle.fc_board.specs.declared.moves.Source.TheVariants.{Cell as FromCell, Column as FromColumn}
use Rattle.fc_board.specs.declared.run_move.RunMove.{RunMove, TheVariants.{Run}}

-- -------- The order of piles: columns, then cells, then home. From: standard FreeCell move notation.

abbrev pub source_place : Source → ℕ
source_place (FromColumn column) = column
source_place (FromCell cell) = 8 + cell

abbrev pub target_place : Game → Place → ℕ
target_place game (ToColumn column) = column
target_place game (ToCell cell) = 8 + cell
target_place game Home = 8 + game.cells

-- a move of one card by where it is from, and then by where it goes: two digits each
abbrev pub move_order : Game → Move → ℕ
move_order game move = 100 * source_place move.from + target_place game move.to

-- a move of several cards by its columns, and then by how many they are
abbrev pub run_order : RunMove → ℕ
run_order (Run from to (Some count)) = 10000 * from + 100 * to + count
run_order run = 0
