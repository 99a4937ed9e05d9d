use Rattle.fc_board.proofs.{ListLemmas.{played-exactly}, RunPlayLemmas.{several}}
use Rattle.fc_board.proofs.board.Board.play_runs.Goals as goal

pub returns-clause-legal : goal.returns-clause-legal
returns-clause-legal g c =
    played-exactly (several g.R.Rule.game) c.args.self.now _ c.args.runs.now c.play_list.result c.play_list.ensures.played c.play_list.ensures.refused
