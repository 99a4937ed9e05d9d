use Rattle.fc_card.proofs.CardSetLemmas.{AreCountsOf-none}
use Rattle.fc_card.proofs.card_set.CardSet.new.Goals as goal

pub returns : goal.returns
returns c = AreCountsOf-none
