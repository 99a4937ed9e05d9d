use Rattle.fc_board.proofs.AlikeLemmas.{carries-PlaysAlike}
use Rattle.fc_laws.proofs.boards.carried.boards_play_alike.Goals as goal

pub returns : goal.returns
returns g c = λ board other passage. carries-PlaysAlike g.met.R.Rule.rule_laws passage board other
