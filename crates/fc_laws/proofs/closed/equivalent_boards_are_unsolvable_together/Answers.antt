use Rattle.fc_closed.proofs.ClosedLemmas.{together_both}
use Rattle.fc_laws.proofs.closed.equivalent_boards_are_unsolvable_together.Goals as goal

pub returns : goal.returns
returns g c = together_both g.met.R.Rule.rule_laws
