use Rattle.fc_board.proofs.{CarriedRunLemmas.{run_refusal-carried}, RenamingLemmas.{fills-renamed_card}}
use Rattle.fc_laws.proofs.boards.carried.run_refusals_are_carried.Goals as goal

pub returns : goal.returns
returns g c = λ passage board token is well fits. run_refusal-carried is (fills-renamed_card g.met.R.Rule.rule_laws) board token well fits
