use Rattle.std.proofs.Common.{◌∙◌}
use Rattle.fc_tool.proofs.CommandLines.{by_deal_0, by_deal_1, by_deal_617, by_largest_number}
use Rattle.fc_tool.proofs.laws.deal_has_a_number.Goals as goal

pub returns-clause-first : goal.returns-clause-first
returns-clause-first c = λ called answer reads. reads.answer.1 ∙ by_deal_1 reads.choices reads.dealt called

pub returns-clause-none : goal.returns-clause-none
returns-clause-none c = λ called answer reads. reads.answer.1 ∙ by_deal_0 reads.choices reads.dealt called

pub returns-clause-largest : goal.returns-clause-largest
returns-clause-largest c = λ called answer reads. reads.answer.1 ∙ by_largest_number reads.choices reads.dealt called

pub returns-clause-bakers_game : goal.returns-clause-bakers_game
returns-clause-bakers_game c = λ called answer reads. reads.answer.1 ∙ by_deal_617 reads.choices reads.dealt called
