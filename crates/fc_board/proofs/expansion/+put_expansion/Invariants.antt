use Rattle.std.proofs.Common.{length}
use Rattle.fc_board.proofs.expansion.+put_expansion.Given as goal

abbrev pub decreases-put_expansion : goal.decreases-put_expansion
decreases-put_expansion l = length l.spare_columns.now
