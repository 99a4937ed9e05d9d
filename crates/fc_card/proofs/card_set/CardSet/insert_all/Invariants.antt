use Rattle.{fc_card.proofs.CardSetLemmas.{AreCounted}, std.proofs.Common.{take}}
use Rattle.fc_card.proofs.card_set.CardSet.insert_all.Given as goal

abbrev pub invariant-loop-card : goal.invariant-loop-card
invariant-loop-card l = AreCounted l.fn.self l.self (take l.card-index l.cards)
