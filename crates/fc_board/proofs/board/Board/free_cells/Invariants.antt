use Rattle.std.{proofs.Common.{◌≡◌}, specs.{List.{filter}, Option.{is_none}}}
use Rattle.{fc_board.specs.Steps.{cell_at}, fc_card.specs.{places}}
use Rattle.fc_board.proofs.board.Board.free_cells.Given as goal

abbrev pub invariant-loop-cell : goal.invariant-loop-cell
invariant-loop-cell g l = l.cells.items ≡ filter (λ cell. is_none (cell_at l.fn.self cell)) (places l.cell)
