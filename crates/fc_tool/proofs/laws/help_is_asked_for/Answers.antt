use Rattle.fc_tool.proofs.CommandLines.{fault_of_help, only_kind, some_kind}
use Rattle.fc_tool.proofs.laws.help_is_asked_for.Goals as goal

pub returns-clause-no_request : goal.returns-clause-no_request
returns-clause-no_request c = λ called answer reads. some_kind _ _ (fault_of_help reads.choices reads.dealt called) reads.answer.0

pub returns-clause-kind : goal.returns-clause-kind
returns-clause-kind c = λ called error reads. only_kind _ _ _ (fault_of_help reads.choices reads.dealt called) reads.answer
