use Rattle.fc_bytes.proofs.DecodedLemmas.{eight_cells}
use Rattle.fc_bytes.proofs.board.cells_of.Goals as goal

pub returns-clause-cells : goal.returns-clause-cells
returns-clause-cells c = eight_cells c.args.bytes.now _ _ _ _ _ _ _ _ c.told-bytes c.cell_of.ensures c.cell_of-2.ensures c.cell_of-3.ensures c.cell_of-4.ensures
    c.cell_of-5.ensures c.cell_of-6.ensures c.cell_of-7.ensures c.cell_of-8.ensures
