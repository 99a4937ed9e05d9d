use Rattle.clap.specs.Words.{kind_of}
use Rattle.std.proofs.Common.{◌∙◌}
use Rattle.fc_tool.proofs.CommandLines.{among_none, any_size_accepted, by_any_size, by_any_size_for}
use Rattle.fc_tool.proofs.laws.any_size_is_asked_for.Goals as goal

pub returns-clause-request : goal.returns-clause-request
returns-clause-request c = λ task called answer reading collects reads. reads.answer.1 ∙ by_any_size task reading collects reads.choices reads.dealt called

pub returns-clause-variant : goal.returns-clause-variant
returns-clause-variant c = λ task called answer reading collects reads. reads.answer.1 ∙ by_any_size_for task reading collects reads.choices reads.dealt called

pub returns-clause-accepted : goal.returns-clause-accepted
returns-clause-accepted c = λ task called error reading collects reads.
    among_none _ (kind_of error) (any_size_accepted task reading collects reads.choices reads.dealt called reads.named) reads.answer
