use Rattle.std.proofs.Common.{◌∷◌}
use Rattle.fc_board.proofs.{CapacityLemmas.{first_stays_put}, RunStepLemmas.{tested_run}}
use Rattle.fc_laws.proofs.boards.capacities.first_cards_stay.Goals as goal

pub returns : goal.returns
returns g c = λ board after from to first last under later moves well here run.
    let laws = g.met.R.Rule.rule_laws in
    first_stays_put g.R.Rule.game g.R.Rule.KINGS_ONLY laws.builds_one_rank laws.fills_by_rank board after from to first last under later moves
    well here (tested_run g.R.Rule.game (first ∷ later) run)
