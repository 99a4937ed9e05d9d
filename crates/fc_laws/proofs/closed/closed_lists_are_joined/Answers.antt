use Rattle.fc_closed.proofs.ClosedLemmas.{joined_closed}
use Rattle.fc_laws.proofs.closed.closed_lists_are_joined.Goals as goal

pub returns-clause-both : goal.returns-clause-both
returns-clause-both g c = joined_closed g.R.Rule.game
