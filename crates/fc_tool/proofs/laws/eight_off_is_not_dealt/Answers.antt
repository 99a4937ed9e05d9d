use Rattle.fc_tool.proofs.CommandLines.{fault_of_eight_off, only_kind, some_kind}
use Rattle.fc_tool.proofs.laws.eight_off_is_not_dealt.Goals as goal

pub returns-clause-no_request : goal.returns-clause-no_request
returns-clause-no_request c = λ called answer reads. some_kind _ _ (fault_of_eight_off reads.choices reads.dealt called reads.dealt_named) reads.answer.0

pub returns-clause-kind : goal.returns-clause-kind
returns-clause-kind c = λ called error reads. only_kind _ _ _ (fault_of_eight_off reads.choices reads.dealt called reads.dealt_named) reads.answer
