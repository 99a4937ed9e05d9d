use Rattle.std.proofs.Common.{length}
use Rattle.fc_board.proofs.expansion.+put_over_cells.Given as goal

abbrev pub decreases-put_over_cells : goal.decreases-put_over_cells
decreases-put_over_cells l = length l.cells.now
