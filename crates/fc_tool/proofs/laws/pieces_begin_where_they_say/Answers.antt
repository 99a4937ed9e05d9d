use Rattle.clap.specs.{declared.error.kind.ErrorKind.TheVariants.{ValueValidation}, Words.{kind_of}}
use Rattle.std.proofs.Common.{◌∙◌}
use Rattle.fc_tool.proofs.CommandLines.{among_none, by_first_record, by_start, fault_of_largest_byte, fault_of_record_0}
use Rattle.fc_tool.proofs.CommandLines.{only_kind, start_accepted}
use Rattle.fc_tool.proofs.laws.pieces_begin_where_they_say.Goals as goal

pub returns-clause-both : goal.returns-clause-both
returns-clause-both c = λ task called answer reading collects whole all shut reads. reads.answer.1 ∙ by_start task reading collects whole all shut reads.choices reads.dealt called

pub returns-clause-record : goal.returns-clause-record
returns-clause-record c = λ task called answer reading collects whole all shut reads. reads.answer.1 ∙ by_first_record task reading collects whole all shut reads.choices reads.dealt called

pub returns-clause-accepted : goal.returns-clause-accepted
returns-clause-accepted c = λ task called error reading collects whole all shut reads.
    among_none _ (kind_of error) (start_accepted task reading collects whole all shut reads.choices reads.dealt called reads.named) reads.answer

pub returns-clause-no_record_0 : goal.returns-clause-no_record_0
returns-clause-no_record_0 c = λ task called error reading collects whole all shut reads.
    only_kind _ (kind_of error) ValueValidation (fault_of_record_0 task reading collects whole all shut reads.choices reads.dealt called) reads.answer

pub returns-clause-no_byte_past_all : goal.returns-clause-no_byte_past_all
returns-clause-no_byte_past_all c = λ task called error reading collects whole all shut reads.
    only_kind _ (kind_of error) ValueValidation (fault_of_largest_byte task reading collects whole all shut reads.choices reads.dealt called) reads.answer
