use Rattle.std.proofs.Common.{◌∙◌}
use Rattle.fc_tool.proofs.CommandLines.{by_two_words}
use Rattle.fc_tool.proofs.laws.variant_may_be_a_word_of_its_own.Goals as goal

pub returns : goal.returns
returns c = λ task called answer reading reads. reads.answer.1 ∙ by_two_words task reading reads.choices reads.dealt called
