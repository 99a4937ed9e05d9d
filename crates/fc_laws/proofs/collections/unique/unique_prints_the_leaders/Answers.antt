use Rattle.fc_laws.proofs.LeaderLemmas.{taken-unique}
use Rattle.fc_laws.proofs.collections.unique.unique_prints_the_leaders.Goals as goal

pub returns : goal.returns
returns c = taken-unique
