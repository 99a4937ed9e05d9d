use Rattle.std.proofs.Common.{◌≡◌, subst, sym}
use Rattle.{fc_card.specs.{count_of}, fc_deal.proofs.DealtLemmas.{count_by-deal}}
use Rattle.fc_deal.proofs.deals.deal.Goals as goal

pub returns-clause-each_once : goal.returns-clause-each_once
returns-clause-each_once c = λ card in_deck. subst (λ cards. count_of card cards ≡ 1) (sym c.shuffle_deck.ensures) (count_by-deal c.args.number card in_deck)
