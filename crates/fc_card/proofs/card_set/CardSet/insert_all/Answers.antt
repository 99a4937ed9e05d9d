use Rattle.fc_card.proofs.CardSetLemmas.{AreCounted-more}
use Rattle.fc_card.proofs.card_set.CardSet.insert_all.Goals as goal

pub loop-card-preserved : goal.loop-card-preserved
loop-card-preserved c = AreCounted-more _ _ _ _ _ _ c.loop-card-test.true c.card-item.is c.loop-card.invariant c.insert.ensures.counted c.insert.ensures.in_deck
