use Rattle.fc_board.proofs.RunPlayLemmas.{wins_expanded}
use Rattle.fc_laws.proofs.boards.expansions.lists_win_as_their_expansions.Goals as goal

pub returns : goal.returns
returns g c = let laws = g.met.R.Rule.rule_laws in wins_expanded g.R.Rule.game g.R.Rule.KINGS_ONLY laws.builds_one_rank laws.fills_by_rank
