use Rattle.std.proofs.Common.{◌∙◌}
use Rattle.fc_tool.proofs.CommandLines.{by_explain, by_strict, by_strict_explain, fault_of_strict, some_kind}
use Rattle.fc_tool.proofs.laws.notes_are_asked_for.Goals as goal

pub returns-clause-explain : goal.returns-clause-explain
returns-clause-explain c = λ called answer reads. reads.answer.1 ∙ by_explain reads.choices reads.dealt called

pub returns-clause-strict : goal.returns-clause-strict
returns-clause-strict c = λ called answer reads. reads.answer.1 ∙ by_strict reads.choices reads.dealt called

pub returns-clause-both : goal.returns-clause-both
returns-clause-both c = λ called answer reads. reads.answer.1 ∙ by_strict_explain reads.choices reads.dealt called

pub returns-clause-no_show : goal.returns-clause-no_show
returns-clause-no_show c =
    λ called answer reads. some_kind _ _ (fault_of_strict reads.choices reads.dealt called) reads.answer.0
