use Rattle.std.{proofs.Common.{◌≡◌, length, take}, specs.{List.{count_by}, Prelude.{◌==◌}}}
use Rattle.fc_board.proofs.columns.Columns.count_empty.Given as goal

abbrev pub invariant-loop-i : goal.invariant-loop-i
invariant-loop-i l = l.count ≡ count_by (λ column. length column == 0) (take l.i l.self)
