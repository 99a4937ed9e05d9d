use Rattle.std.proofs.{Common.{◌≡◌, false, inl, inr, true}, lemmas.Bool.{and_parts}}
use Rattle.fc_import.specs.Import.{laid, printed, spelled}
use Rattle.fc_import.specs.declared.layout.Layout.TheVariants.{Columns, ColumnsInLine, Deal, Rows}
use Rattle.fc_import.proofs.laws.numbers_are_those_of_columns.Goals as goal

pub returns-clause-read : goal.returns-clause-read
returns-clause-read c game piece board (printed is) unread unprinted = absurd (unprinted is)
returns-clause-read c game piece board (spelled may (inl spells)) unread unprinted = absurd (unread spells)
returns-clause-read c game piece board (spelled may (inr lines)) unread unprinted = lines.told
returns-clause-read c game piece board (laid Columns may told are_in) unread unprinted = told
returns-clause-read c game piece board (laid (Rows strips) may told are_in) unread unprinted = absurd (let e : false ≡ true = may in cc)
returns-clause-read c game piece board (laid ColumnsInLine may told are_in) unread unprinted = told
returns-clause-read c game piece board (laid Deal may told are_in) unread unprinted = (and_parts _ _ told).1
