use Rattle.{fc_text.proofs.BoardViewLemmas.{eight_items}, std.proofs.Common.{[]}}
use Rattle.fc_text.proofs.view.columns_of.Goals as goal

pub returns-clause-columns : goal.returns-clause-columns
returns-clause-columns g c =
    eight_items c.args.board.now.columns [] _ _ _ _ _ _ _ _ c.column.ensures.well_formed.piles.eight_columns c.column.ensures.value c.column-2.ensures.value c.column-3.ensures.value
    c.column-4.ensures.value c.column-5.ensures.value c.column-6.ensures.value c.column-7.ensures.value c.column-8.ensures.value
