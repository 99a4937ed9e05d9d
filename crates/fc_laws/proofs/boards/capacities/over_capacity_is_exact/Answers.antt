use Rattle.fc_laws.proofs.OverLemmas.{over_capacity}
use Rattle.fc_laws.proofs.boards.capacities.over_capacity_is_exact.Goals as goal

pub returns : goal.returns
returns g c = λ board from to last said.
    let laws = g.met.R.Rule.rule_laws in
    over_capacity g.R.Rule.game g.R.Rule.KINGS_ONLY laws.builds_one_rank laws.fills_by_rank board from to said last
