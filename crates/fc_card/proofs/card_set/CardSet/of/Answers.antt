use Rattle.{fc_card.{proofs.BitsLemmas.{AreBitsOf-more}, specs.{IsCard}}, std.proofs.Common.{subst}}
use Rattle.fc_card.proofs.card_set.CardSet.of.Goals as goal

pub loop-card-preserved : goal.loop-card-preserved
loop-card-preserved c =
    let in_deck = subst IsCard c.number.ensures.value c.number.ensures.in_deck in
    rw c.number.ensures.value (AreBitsOf-more _ _ c.card-item.result _ c.loop-card-test.true c.card-item.is in_deck c.loop-card.invariant)
