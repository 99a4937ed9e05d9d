use Rattle.std.proofs.Common.{◌∙◌, subst, sym}
use Rattle.fc_board.proofs.BoardLemmas.{parts_same}
use Rattle.fc_text.{proofs.WriterLemmas.{few_cells, printable}, specs.writer.{IsPrintable}}
use Rattle.fc_text.proofs.view.BoardView.of.Goals as goal

pub of_parts-requires : goal.of_parts-requires
of_parts-requires g c =
    let same = parts_same _ c.args.board.now c.heights-heights.ensures.value c.cells_of.ensures c.columns_of.ensures.columns in
    record { printable = subst IsPrintable (sym same) (printable g.R.Rule.game c.args.board.now (few_cells g.met.R.Rule.rule_laws) c.heights-heights.ensures.well_formed) }

pub returns-clause-board : goal.returns-clause-board
returns-clause-board g c = c.of_parts.ensures.board ∙ parts_same _ c.args.board.now c.heights-heights.ensures.value c.cells_of.ensures c.columns_of.ensures.columns
