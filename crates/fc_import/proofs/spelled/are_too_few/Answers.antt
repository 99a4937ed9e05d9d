use Rattle.std.proofs.Common.{◌==◌, ◌∙◌, ◌≡◌, ap, false, length, sym, true}
use Rattle.fc_import.proofs.FewLineLemmas.{no_last_column}
use Rattle.fc_import.proofs.spelled.are_too_few.Goals as goal

pub returns-then-not-is_empty : goal.returns-then-not-is_empty
returns-then-not-is_empty g c = λ few spelled.
    let none = c.column.ensures.value
    ∙ no_last_column g.R.Rule.game c.args.lines.now c.args.board.now (c.are_below_eight.ensures few) spelled in
    let empty : false ≡ true = sym c.if-not-is_empty.true ∙ c.is_empty.ensures ∙ ap (λ column. length column == 0) none in
    cc
