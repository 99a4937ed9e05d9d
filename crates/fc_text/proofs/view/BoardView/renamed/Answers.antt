use Rattle.{fc_board.specs.{inside.{board_of_laid}, Passages.{renamed_column}}, std.proofs.Common.{map, subst, sym}}
use Rattle.fc_text.specs.writer.{IsPrintable}
use Rattle.fc_text.proofs.view.BoardView.renamed.Goals as goal

pub invariant_of-result : goal.invariant_of-result
invariant_of-result g c =
    subst (λ renaming. IsPrintable (board_of_laid g.R.Rule.CELLS c.args.heights c.args.cells (map (λ column. renamed_column renaming column.now) c.args.columns))) (sym c.of.ensures)
    c.requires.printable
