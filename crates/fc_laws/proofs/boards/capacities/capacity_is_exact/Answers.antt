use Rattle.std.proofs.Common.{◌∷◌}
use Rattle.fc_board.proofs.{ExactLemmas.{exact}, RunStepLemmas.{tested_run}}
use Rattle.fc_laws.proofs.boards.capacities.capacity_is_exact.Goals as goal

pub returns : goal.returns
returns g c = λ board from to first last under later well apart inside inside' here run.
    let laws = g.met.R.Rule.rule_laws in
    exact g.R.Rule.game g.R.Rule.KINGS_ONLY laws.builds_one_rank laws.fills_by_rank board from to first last under later well apart inside inside'
    here (tested_run g.R.Rule.game (first ∷ later) run)
