use Rattle.std.proofs.Common.{◌+◌, ◌∙◌, ◌≡◌, ap, arith, get_or, rules, slice_range, suc, sym}
use Rattle.fc_board.proofs.ColumnsLemmas.{column_there, InMemory}
use Rattle.fc_board.proofs.columns.Columns.column.Goals as goal

pub returns-clause-value : goal.returns-clause-value
returns-clause-value c =
    let is : InMemory c.self.inside.cards c.self.inside.bounds c.args.self.now c.args.i =
    record { same = c.self.view_is; nine = search rules; inside = omega (arith, c.column_at.ensures.nine, c.requires); deck = search rules; ascend = c.self.invariant } in
    let next : c.args.i + 1 ≡ suc c.args.i = omega arith in
    c.column_at.ensures.value
    ∙ ap (λ place. slice_range c.self.inside.cards (get_or c.self.inside.bounds c.args.i 0) (get_or c.self.inside.bounds place 0)) next
    ∙ sym (column_there _ _ _ _ is)
