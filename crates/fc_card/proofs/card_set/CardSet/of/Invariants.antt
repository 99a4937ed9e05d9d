use Rattle.{fc_card.specs.{AreBitsOf}, std.proofs.Common.{take}}
use Rattle.fc_card.proofs.card_set.CardSet.of.Given as goal

abbrev pub invariant-loop-card : goal.invariant-loop-card
invariant-loop-card l = AreBitsOf (take l.card-index l.cards) l.bits
