use Rattle.fc_deal.proofs.DealtLemmas.{count_by-deal, IsPermutation-deal, length-deal}
use Rattle.fc_laws.proofs.deals.each_deal_is_a_whole_deck.Goals as goal

pub returns-clause-shuffled : goal.returns-clause-shuffled
returns-clause-shuffled c = IsPermutation-deal

pub returns-clause-length : goal.returns-clause-length
returns-clause-length c = length-deal

pub returns-clause-each_once : goal.returns-clause-each_once
returns-clause-each_once c = count_by-deal
