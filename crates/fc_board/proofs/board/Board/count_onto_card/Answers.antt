use Rattle.{fc_board.proofs.RunStepLemmas.{longest_few}, std.proofs.Common.{arith}}
use Rattle.fc_board.proofs.board.Board.count_onto_card.Goals as goal

pub first_of_last-requires : goal.first_of_last-requires
first_of_last-requires g c =
    let few = longest_few g.R.Rule.game c.column-column.result.now in let same = c.longest_run.ensures in (omega arith, omega arith)
