use Rattle.fc_board.proofs.ColumnsLemmas.{FirstLaid}
use Rattle.fc_board.proofs.columns.Columns.of.Given as goal

abbrev pub invariant-loop-i : goal.invariant-loop-i
invariant-loop-i l = FirstLaid (λ column. column.items) l.columns l.cards l.ends l.i l.count
