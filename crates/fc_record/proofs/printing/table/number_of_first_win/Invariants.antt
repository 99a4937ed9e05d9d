use Rattle.std.proofs.Common.{◌+◌, ◌≡◌, drop}
use Rattle.fc_record.specs.Tables.{first_win}
use Rattle.fc_record.proofs.printing.table.number_of_first_win.Given as goal

abbrev pub invariant-loop-index : goal.invariant-loop-index
invariant-loop-index g l = first_win g.R.Rule.game l.board (l.index + 1) (drop l.index l.lists) ≡ first_win g.R.Rule.game l.board 1 l.lists
