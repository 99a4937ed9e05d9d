use Rattle.fc_board.proofs.RunStepLemmas.{expansion_played, expansion_short}
use Rattle.fc_laws.proofs.boards.expansions.tokens_expand.Goals as goal

pub returns-clause-expands : goal.returns-clause-expands
returns-clause-expands g c = λ board after token well step.
    let laws = g.met.R.Rule.rule_laws in
    (after, step, expansion_played g.R.Rule.game g.R.Rule.KINGS_ONLY laws.builds_one_rank laws.fills_by_rank board after token well step)

pub returns-clause-short : goal.returns-clause-short
returns-clause-short g c =
    λ board after token well step. expansion_short g.R.Rule.game g.met.R.Rule.rule_laws.builds_one_rank board after token well step
