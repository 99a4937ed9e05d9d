use Rattle.fc_board.proofs.{RenamingLemmas.{fills-renamed_card}, StepCarried.{steps-exactly}}
use Rattle.fc_laws.proofs.boards.carried.steps_are_carried.Goals as goal

pub returns : goal.returns
returns g c = λ passage board other move is. steps-exactly is (fills-renamed_card g.met.R.Rule.rule_laws) board other move
