use Rattle.fc_text.proofs.BoardViewLemmas.{AreTaken}
use Rattle.fc_text.proofs.card_images.cards_numbered.Given as goal

abbrev pub invariant-loop-place : goal.invariant-loop-place
invariant-loop-place l = AreTaken l.numbers l.cards l.place
