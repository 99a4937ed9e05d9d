use Rattle.{fc_deal.specs.{deal}, std.proofs.Common.{refl}}
use Rattle.fc_laws.proofs.deals.published_deals.Goals as goal

pub returns-clause-first : goal.returns-clause-first
unfolding deal
returns-clause-first c = refl

pub returns-clause-of_617 : goal.returns-clause-of_617
unfolding deal
returns-clause-of_617 c = refl
