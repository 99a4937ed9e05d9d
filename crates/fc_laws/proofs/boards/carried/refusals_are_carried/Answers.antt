use Rattle.fc_board.proofs.{RefusalCarried.{refusal-carried}, RenamingLemmas.{fills-renamed_card}}
use Rattle.fc_laws.proofs.boards.carried.refusals_are_carried.Goals as goal

pub returns : goal.returns
returns g c = λ passage board move is. refusal-carried is (fills-renamed_card g.met.R.Rule.rule_laws) board move
