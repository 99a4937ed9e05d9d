use Rattle.fc_deal.{proofs.DealtLemmas.{count_by-deal, HasEachCardOnce-dealt}, specs.{deal}}
use Rattle.fc_laws.proofs.deals.each_dealt_board_has_each_card_once.Goals as goal

pub returns : goal.returns
returns c = λ cells number. HasEachCardOnce-dealt cells (deal number) (count_by-deal number)
