use Rattle.fc_tool.proofs.CommandLines.{fault_of_large_number, fault_of_no_number, fault_of_word, only_kind, some_kind}
use Rattle.fc_tool.proofs.laws.deal_wants_a_number.Goals as goal

pub returns-clause-nothing : goal.returns-clause-nothing
returns-clause-nothing c = λ called error reads. only_kind _ _ _ (fault_of_no_number reads.choices reads.dealt called reads.dealt_named) reads.answer

pub returns-clause-word : goal.returns-clause-word
returns-clause-word c = λ called error reads. only_kind _ _ _ (fault_of_word reads.choices reads.dealt called) reads.answer

pub returns-clause-large : goal.returns-clause-large
returns-clause-large c = λ called error reads. only_kind _ _ _ (fault_of_large_number reads.choices reads.dealt called) reads.answer

pub returns-clause-no_request : goal.returns-clause-no_request
returns-clause-no_request c = λ called answer reads. some_kind _ _ (fault_of_no_number reads.choices reads.dealt called reads.dealt_named) reads.answer.0
