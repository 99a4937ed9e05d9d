use Rattle.fc_tool.proofs.CommandLines.{fault_of_byte, fault_of_closed_piece, fault_of_counted_piece, fault_of_piece}
use Rattle.fc_tool.proofs.CommandLines.{only_kind, some_kind}
use Rattle.fc_tool.proofs.laws.some_commands_take_no_piece.Goals as goal

pub returns-clause-no_record : goal.returns-clause-no_record
returns-clause-no_record c = λ called answer reads. some_kind _ _ (fault_of_piece reads.choices reads.dealt called) reads.answer.0

pub returns-clause-no_byte : goal.returns-clause-no_byte
returns-clause-no_byte c = λ called answer reads. some_kind _ _ (fault_of_byte reads.choices reads.dealt called) reads.answer.0

pub returns-clause-kind : goal.returns-clause-kind
returns-clause-kind c = λ called error reads. only_kind _ _ _ (fault_of_piece reads.choices reads.dealt called) reads.answer

pub returns-clause-count : goal.returns-clause-count
returns-clause-count c = λ called answer reads. some_kind _ _ (fault_of_counted_piece reads.choices reads.dealt called) reads.answer.0

pub returns-clause-closed : goal.returns-clause-closed
returns-clause-closed c = λ called answer reads. some_kind _ _ (fault_of_closed_piece reads.choices reads.dealt called) reads.answer.0
