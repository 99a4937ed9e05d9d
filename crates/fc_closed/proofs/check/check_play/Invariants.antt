use Rattle.fc_closed.specs.{AreShutTo}
use Rattle.fc_closed.proofs.check.check_play.Given as goal

abbrev pub invariant-loop-place : goal.invariant-loop-place
invariant-loop-place g l = AreShutTo g.R.Rule.game g.R.Rule.renamings l.keys l.place
