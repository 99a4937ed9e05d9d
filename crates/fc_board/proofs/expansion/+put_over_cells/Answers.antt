use Rattle.std.proofs.{Common.{arith}, lemmas.Grind.{common_steps}}
use Rattle.fc_board.proofs.expansion.+put_over_cells.Goals as goal

pub push-requires : goal.push-requires
push-requires t c = grind (arith, common_steps)

pub put_over_cells-requires : goal.put_over_cells-requires
put_over_cells-requires t c = grind (arith, common_steps)

pub push-requires-in-len1-up-2 : goal.push-requires-in-len1-up-2
push-requires-in-len1-up-2 t c = grind (arith, common_steps)

pub returns-in-empty-clause-moves : goal.returns-in-empty-clause-moves
returns-in-empty-clause-moves t c = grind (arith, common_steps)

pub returns-in-empty-clause-len : goal.returns-in-empty-clause-len
returns-in-empty-clause-len t c = grind (arith, common_steps)

pub returns-in-len1-up-clause-moves : goal.returns-in-len1-up-clause-moves
returns-in-len1-up-clause-moves t c = grind (arith, common_steps)

pub returns-in-len1-up-clause-len : goal.returns-in-len1-up-clause-len
returns-in-len1-up-clause-len t c = grind (arith, common_steps)
