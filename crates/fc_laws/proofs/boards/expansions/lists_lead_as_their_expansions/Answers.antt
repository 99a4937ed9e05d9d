use Rattle.fc_board.proofs.RunPlayLemmas.{list_expanded}
use Rattle.fc_laws.proofs.boards.expansions.lists_lead_as_their_expansions.Goals as goal

pub returns : goal.returns
returns g c = let laws = g.met.R.Rule.rule_laws in list_expanded g.R.Rule.game g.R.Rule.KINGS_ONLY laws.builds_one_rank laws.fills_by_rank
