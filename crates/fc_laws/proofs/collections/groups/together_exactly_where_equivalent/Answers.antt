use Rattle.fc_collect.proofs.GroupNameLemmas.{together-Equivalent}
use Rattle.fc_laws.proofs.collections.groups.together_exactly_where_equivalent.Goals as goal

pub returns : goal.returns
returns c = together-Equivalent
