use Rattle.fc_text.proofs.WriterLemmas.{AreAwaiting}
use Rattle.fc_text.proofs.writer.put_board.Given as goal

abbrev pub invariant-loop-index : goal.invariant-loop-index
invariant-loop-index g l = AreAwaiting l.view l.text l.end l.index
