use Rattle.fc_card.proofs.BitsLemmas.{AreCountsOf-bits}
use Rattle.fc_card.proofs.card_set.CardSet.of_bits.Goals as goal

pub returns-then-bits-cards : goal.returns-then-bits-cards
returns-then-bits-cards c = AreCountsOf-bits c.args.cards.now c.args.bits c.requires c.if-bits-cards.true
