use Rattle.std.proofs.{Common.{arith}, lemmas.Grind.{common_steps}}
use Rattle.fc_board.proofs.board.no_cards.Goals as goal

pub returns : goal.returns
returns c = grind (arith, common_steps)
