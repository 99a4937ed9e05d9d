use Rattle.std.{proofs.Common.{◌≡◌, take}, specs.{List.{count_by}, Prelude.{is_none}}}
use Rattle.fc_board.proofs.board.count_empty_cells.Given as goal

abbrev pub invariant-loop-cell : goal.invariant-loop-cell
invariant-loop-cell l = l.count ≡ count_by is_none (take l.cell-index l.cells)
