use Rattle.std.proofs.Common.{◌-◌, length}
use Rattle.fc_text.proofs.LeavingLemmas.{words_at}
use Rattle.fc_text.proofs.board.read_words.Given as goal
use Rattle.fc_text.specs.reader.{Leaves}

abbrev pub invariant-loop-at : goal.invariant-loop-at
invariant-loop-at g l = Leaves g.R.Rule.game l.initial.reader (words_at l.section l.start l.bytes 0) l.reader (words_at l.section l.start l.bytes l.at)

abbrev pub decreases-loop-at : goal.decreases-loop-at
decreases-loop-at g l = length l.bytes - l.at
