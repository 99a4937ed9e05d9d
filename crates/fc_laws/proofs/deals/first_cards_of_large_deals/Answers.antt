use Rattle.{fc_deal.specs.{deal}, std.proofs.Common.{refl}}
use Rattle.fc_laws.proofs.deals.first_cards_of_large_deals.Goals as goal

pub returns-clause-million : goal.returns-clause-million
unfolding deal
returns-clause-million c = refl

pub returns-clause-next : goal.returns-clause-next
unfolding deal
returns-clause-next c = refl

pub returns-clause-last : goal.returns-clause-last
unfolding deal
returns-clause-last c = refl
