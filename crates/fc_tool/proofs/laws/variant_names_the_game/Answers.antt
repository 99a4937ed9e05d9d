use Rattle.std.proofs.Common.{◌∙◌}
use Rattle.fc_board.specs.declared.rule.Variant.TheVariants.{BakersGame, EightOff, FreeCell}
use Rattle.fc_tool.proofs.CommandLines.{by_variant}
use Rattle.fc_tool.proofs.laws.variant_names_the_game.Goals as goal

pub returns-clause-freecell : goal.returns-clause-freecell
returns-clause-freecell c = λ task called answer reading reads. reads.answer.1 ∙ by_variant task reading FreeCell reads.choices reads.dealt called

pub returns-clause-bakers_game : goal.returns-clause-bakers_game
returns-clause-bakers_game c = λ task called answer reading reads. reads.answer.1 ∙ by_variant task reading BakersGame reads.choices reads.dealt called

pub returns-clause-eight_off : goal.returns-clause-eight_off
returns-clause-eight_off c = λ task called answer reading reads. reads.answer.1 ∙ by_variant task reading EightOff reads.choices reads.dealt called
