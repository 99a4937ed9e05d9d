use Rattle.std.{proofs.Common.{◌++◌, ◌≡◌, drop}, specs.{List.{flat_map}, Option.{option_to_list}}}
use Rattle.fc_import.proofs.cards.push_cells.Given as goal

abbrev pub invariant-loop-cell : goal.invariant-loop-cell
invariant-loop-cell l =
    l.cards.items ++ flat_map option_to_list (drop l.cell-index l.cells)
    ≡ l.fn.cards.items ++ flat_map option_to_list l.cells
