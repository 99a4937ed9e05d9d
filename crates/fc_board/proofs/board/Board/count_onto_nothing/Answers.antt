use Rattle.std.proofs.Common.{ap, arith, length}
use Rattle.fc_board.proofs.board.Board.count_onto_nothing.Goals.{in-None, in-Some+else-count-longest+else-count-most}
use Rattle.fc_board.proofs.RunStepLemmas.{longest_few, longest_some, some_capacity, some_said}
use Rattle.fc_board.specs.Steps.{column_at}
use Rattle.fc_board.proofs.board.Board.count_onto_nothing.Goals as goal

pub first_of_last-requires : goal.first_of_last-requires
first_of_last-requires g c =
    let few = longest_few g.R.Rule.game c.column-column.result.now in
    let longest = c.longest_run-longest.ensures in
    elim c.match-said.branch [
      | in-Some+else-count-longest+else-count-most w ↦
          let some = some_said c.args.said w.in-Some.count w.in-Some.is c.requires.said in
          (omega arith, omega arith)
      | in-None w ↦
          let value = ap length c.column-column.ensures.value in
          let column = ap (λ k. length (column_at c.args.self.now k)) c.from.ensures in
          let some = longest_some g.R.Rule.game c.column-column.result.now (let s = c.requires.some in omega arith) in
          let most = some_capacity g.R.Rule.game c.args.self.now c.args.to in
          (omega arith, omega arith)
    ]
