use Rattle.std.proofs.Common.{◌∙◌}
use Rattle.fc_tool.proofs.CommandLines.{by_columns, by_rows, by_rows_columns, fault_of_rows, some_kind}
use Rattle.fc_tool.proofs.laws.lines_are_said_to_be_columns_or_rows.Goals as goal

pub returns-clause-columns : goal.returns-clause-columns
returns-clause-columns c = λ called answer reads. reads.answer.1 ∙ by_columns reads.choices reads.dealt called

pub returns-clause-rows : goal.returns-clause-rows
returns-clause-rows c = λ called answer reads. reads.answer.1 ∙ by_rows reads.choices reads.dealt called

pub returns-clause-both : goal.returns-clause-both
returns-clause-both c = λ called answer reads. reads.answer.1 ∙ by_rows_columns reads.choices reads.dealt called

pub returns-clause-no_show : goal.returns-clause-no_show
returns-clause-no_show c = λ called answer reads. some_kind _ _ (fault_of_rows reads.choices reads.dealt called) reads.answer.0
