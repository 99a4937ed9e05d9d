use Rattle.std.proofs.Common.{length}
use Rattle.fc_board.proofs.expansion.+half.Given as goal

abbrev pub decreases-half : goal.decreases-half
decreases-half l = length l.spare_columns.now
