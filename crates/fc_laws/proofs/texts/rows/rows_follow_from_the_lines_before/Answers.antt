use Rattle.std.proofs.Common.{map}
use Rattle.fc_text.{proofs.BlankLineLemmas.{only_rows, rows_are}, specs.{Lines.{lines_from}, Rows.{line_of}}}
use Rattle.fc_laws.proofs.texts.rows.rows_follow_from_the_lines_before.Goals as goal

pub returns-clause-rows : goal.returns-clause-rows
returns-clause-rows c = λ text. rows_are (map line_of (lines_from 0 text))

pub returns-clause-no_others : goal.returns-clause-no_others
returns-clause-no_others c = λ text rows are. only_rows are
