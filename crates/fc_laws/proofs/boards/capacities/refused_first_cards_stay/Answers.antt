use Rattle.fc_laws.proofs.OverLemmas.{over_stays}
use Rattle.fc_laws.proofs.boards.capacities.refused_first_cards_stay.Goals as goal

pub returns : goal.returns
returns g c = λ board after from to last said moves.
    let laws = g.met.R.Rule.rule_laws in
    over_stays g.R.Rule.game g.R.Rule.KINGS_ONLY laws.builds_one_rank laws.fills_by_rank board from to said after last moves
