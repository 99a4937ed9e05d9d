use Rattle.std.proofs.Common.{◌∙◌}
use Rattle.fc_tool.proofs.CommandLines.{by_closed_json, by_header, by_header_json, by_json, by_table_json}
use Rattle.fc_tool.proofs.CommandLines.{fault_of_header, fault_of_json, some_kind}
use Rattle.fc_tool.proofs.laws.formats_are_asked_for.Goals as goal

pub returns-clause-count : goal.returns-clause-count
returns-clause-count c = λ called answer reads. reads.answer.1 ∙ by_json reads.choices reads.dealt called

pub returns-clause-closed : goal.returns-clause-closed
returns-clause-closed c = λ called answer reads. reads.answer.1 ∙ by_closed_json reads.choices reads.dealt called

pub returns-clause-table : goal.returns-clause-table
returns-clause-table c = λ called answer reads. reads.answer.1 ∙ by_table_json reads.choices reads.dealt called

pub returns-clause-header : goal.returns-clause-header
returns-clause-header c = λ called answer reads. reads.answer.1 ∙ by_header reads.choices reads.dealt called

pub returns-clause-both : goal.returns-clause-both
returns-clause-both c = λ called answer reads. reads.answer.1 ∙ by_header_json reads.choices reads.dealt called

pub returns-clause-no_group : goal.returns-clause-no_group
returns-clause-no_group c = λ called answer reads. some_kind _ _ (fault_of_json reads.choices reads.dealt called) reads.answer.0

pub returns-clause-no_header : goal.returns-clause-no_header
returns-clause-no_header c = λ called answer reads. some_kind _ _ (fault_of_header reads.choices reads.dealt called) reads.answer.0
