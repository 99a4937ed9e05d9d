use Rattle.std.proofs.Common.{◌∙◌}
use Rattle.fc_tool.proofs.CommandLines.{by_default}
use Rattle.fc_tool.proofs.laws.freecell_is_the_default.Goals as goal

pub returns : goal.returns
returns c = λ task called answer reading reads. reads.answer.1 ∙ by_default task reading reads.choices reads.dealt called
