use Rattle.fc_closed.proofs.ClosedLemmas.{lists_together}
use Rattle.fc_laws.proofs.closed.equivalent_lists_are_closed_together.Goals as goal

pub returns : goal.returns
returns g c = lists_together g.met.R.Rule.rule_laws
