use Rattle.{fc_bytes.specs.{legal_moves}, fc_closed.proofs.OutLemmas.{StayTo}}
use Rattle.fc_closed.proofs.check.first_out.Given as goal

abbrev pub invariant-loop-at : goal.invariant-loop-at
invariant-loop-at g l = StayTo g.R.Rule.game g.R.Rule.renamings l.keys l.board (legal_moves g.R.Rule.game l.board) l.at
