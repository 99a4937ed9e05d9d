-- Moves of every game are moves of Eight Off.
use Rattle.std.proofs.Common.{◌≤◌, arith}
use Rattle.fc_board.specs.Games.{eight_off, Game}
use Rattle.fc_board.specs.Moves.{Fits, PlaceFits, RunFits, SourceFits}
use Rattle.fc_board.specs.declared.moves.{Move.{Move}, Place.{Place}}
use Rattle.fc_board.specs.declared.moves.{Place.TheVariants.{Cell as ToCell, Column as ToColumn, Home}, Source.{Source}}
use Rattle.fc_board.specs.declared.moves.Source.TheVariants.{Cell as FromCell, Column as FromColumn}
use Rattle.fc_board.specs.declared.run_move.RunMove.{RunMove, TheVariants.{One, Run}}

source_fits : (game : Game) → game.cells ≤ 8 → (source : Source) → SourceFits game source → SourceFits eight_off source
source_fits game few (FromColumn column) fits = fits
source_fits game few (FromCell cell) fits = omega (arith, few, fits)

target_fits : (game : Game) → game.cells ≤ 8 → (target : Place) → PlaceFits game target → PlaceFits eight_off target
target_fits game few (ToColumn column) fits = fits
target_fits game few (ToCell cell) fits = omega (arith, few, fits)
target_fits game few Home fits = fits

pub move_fits : (game : Game) → game.cells ≤ 8 → (move : Move) → Fits game move → Fits eight_off move
move_fits game few move (from, to) = (source_fits game few move.from from, target_fits game few move.to to)

pub run_fits : (game : Game) → game.cells ≤ 8 → (move : RunMove) → RunFits game move → RunFits eight_off move
run_fits game few (One move) (fits, touches) = (move_fits game few move fits, touches)
run_fits game few (Run from to count) fits = fits
