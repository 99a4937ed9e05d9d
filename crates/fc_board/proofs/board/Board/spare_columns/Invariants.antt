use Rattle.std.{proofs.Common.{◌≡◌}, specs.List.{filter}}
use Rattle.{fc_board.specs.Steps.{is_helper}, fc_card.specs.{places}}
use Rattle.fc_board.proofs.board.Board.spare_columns.Given as goal

abbrev pub invariant-loop-column : goal.invariant-loop-column
invariant-loop-column g l = l.columns.items ≡ filter (is_helper l.fn.self l.fn.target) (places l.column)
