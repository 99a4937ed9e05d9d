use Rattle.fc_laws.proofs.LeaderLemmas.{leaders-first}
use Rattle.fc_laws.proofs.collections.groups.leaders_come_first.Goals as goal

pub returns : goal.returns
returns c = leaders-first
