use Rattle.std.proofs.Common.{◌∷◌}
use Rattle.fc_board.proofs.{ExactLemmas.{goes_over}, RunStepLemmas.{tested_run}}
use Rattle.fc_laws.proofs.boards.expansions.expansions_go_over.Goals as goal

pub returns-clause-plays : goal.returns-clause-plays
returns-clause-plays g c = λ board from to first under later well apart inside inside' here run goes few.
    let laws = g.met.R.Rule.rule_laws in
    (goes_over g.R.Rule.game g.R.Rule.KINGS_ONLY laws.builds_one_rank laws.fills_by_rank board from to first under later well apart inside inside'
    here (tested_run g.R.Rule.game (first ∷ later) run) goes few).0

pub returns-clause-confined : goal.returns-clause-confined
returns-clause-confined g c = λ board from to first under later well apart inside inside' here run goes few.
    let laws = g.met.R.Rule.rule_laws in
    (goes_over g.R.Rule.game g.R.Rule.KINGS_ONLY laws.builds_one_rank laws.fills_by_rank board from to first under later well apart inside inside'
    here (tested_run g.R.Rule.game (first ∷ later) run) goes few).1
