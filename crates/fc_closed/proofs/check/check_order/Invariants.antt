use Rattle.fc_closed.specs.{AreKeysTo}
use Rattle.fc_closed.proofs.check.check_order.Given as goal

abbrev pub invariant-loop-place : goal.invariant-loop-place
invariant-loop-place g l = AreKeysTo g.R.Rule.game g.R.Rule.renamings l.keys l.place
