use Rattle.std.proofs.Common.{◌-◌, ◌≡◌, drop, true}
use Rattle.fc_board.specs.Steps.{is_run}
use Rattle.fc_board.proofs.board.run_step.longest_run.Given as goal

abbrev pub invariant-loop-index : goal.invariant-loop-index
invariant-loop-index g l = is_run g.R.Rule.game (drop (l.index - 1) l.column) ≡ true
