use Rattle.std.proofs.Common.{◌++◌, ◌≡◌, length}
use Rattle.fc_record.{proofs.TextLineLemmas.{apart}, specs.Tables.{side_by_side}}
use Rattle.fc_record.proofs.printing.table.push_side_by_side.Given as goal

abbrev pub invariant-loop-end : goal.invariant-loop-end
invariant-loop-end l = l.out.items ++ apart l.left ≡ l.fn.out.items ++ side_by_side l.fn.text

abbrev pub decreases-loop-end : goal.decreases-loop-end
decreases-loop-end l = length l.left
