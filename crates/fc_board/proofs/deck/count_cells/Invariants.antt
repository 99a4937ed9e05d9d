use Rattle.std.{proofs.Common.{take}, specs.{List.{flat_map}, Option.{option_to_list}}}
use Rattle.fc_card.proofs.CardSetLemmas.{AreCounted}
use Rattle.fc_board.proofs.deck.count_cells.Given as goal

abbrev pub invariant-loop-cell : goal.invariant-loop-cell
invariant-loop-cell l = AreCounted l.fn.cards l.cards (flat_map option_to_list (take l.cell-index l.cells))
