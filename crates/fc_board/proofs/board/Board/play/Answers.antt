use Rattle.fc_board.proofs.{ListLemmas.{played-exactly}, RunPlayLemmas.{one_card}}
use Rattle.fc_board.proofs.board.Board.play.Goals as goal

pub returns-clause-legal : goal.returns-clause-legal
returns-clause-legal g c =
    played-exactly (one_card g.R.Rule.game) c.args.self.now _ c.args.moves.now c.play_list.result c.play_list.ensures.played c.play_list.ensures.refused
