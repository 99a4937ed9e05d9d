use Rattle.std.proofs.{Common.{arith}, lemmas.Grind.{common_steps}}
use Rattle.fc_board.proofs.columns.move_down.Goals as goal

pub returns-clause-moved : goal.returns-clause-moved
returns-clause-moved g c = grind (arith, common_steps)

pub returns-clause-rest : goal.returns-clause-rest
returns-clause-rest g c = grind (arith, common_steps)
