use Rattle.{fc_card.proofs.CardSetLemmas.{AreCountsOf-append}, std.proofs.Common.{[]}}
use Rattle.fc_card.proofs.card_set.CardSet.of_each.Goals as goal

pub returns : goal.returns
returns c =
    AreCountsOf-append c.new-set.result c.insert_all.new.self [] c.args.cards.now c.new-set.ensures
    c.insert_all.ensures.counted c.insert_all.ensures.in_deck
