use Rattle.fc_text.proofs.BoardViewLemmas.{AreNumbered}
use Rattle.fc_text.proofs.card_images.numbers.Given as goal

abbrev pub invariant-loop-number : goal.invariant-loop-number
invariant-loop-number l = AreNumbered l.numbers l.number
