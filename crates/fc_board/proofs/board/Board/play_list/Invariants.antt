use Rattle.{fc_board.proofs.ListLemmas.{HasPlayed}, std.proofs.Common.{take}}
use Rattle.fc_board.proofs.board.Board.play_list.Given as goal

abbrev pub invariant-loop-index : goal.invariant-loop-index
invariant-loop-index g l = HasPlayed (g.M.Playable.leads g.R.Rule.game) g.R.Rule.game l.fn.self (take l.index l.moves) l.self
