use Rattle.clap.specs.Words.{kind_of}
use Rattle.fc_board.specs.declared.rule.Variant.TheVariants.{BakersGame, EightOff, FreeCell}
use Rattle.fc_tool.proofs.CommandLines.{among_none, deal_accepted, task_accepted, variant_accepted}
use Rattle.fc_tool.proofs.laws.words_of_examples_are_accepted.Goals as goal

pub returns-clause-no_variant : goal.returns-clause-no_variant
returns-clause-no_variant c = λ task called error reading reads.
    among_none _ (kind_of error) (task_accepted task reading reads.choices reads.dealt called reads.named) reads.answer

pub returns-clause-freecell : goal.returns-clause-freecell
returns-clause-freecell c = λ task called error reading reads.
    among_none _ (kind_of error) (variant_accepted task reading FreeCell reads.choices reads.dealt called reads.named) reads.answer

pub returns-clause-bakers_game : goal.returns-clause-bakers_game
returns-clause-bakers_game c = λ task called error reading reads.
    among_none _ (kind_of error) (variant_accepted task reading BakersGame reads.choices reads.dealt called reads.named) reads.answer

pub returns-clause-eight_off : goal.returns-clause-eight_off
returns-clause-eight_off c = λ task called error reading reads.
    among_none _ (kind_of error) (variant_accepted task reading EightOff reads.choices reads.dealt called reads.named) reads.answer

pub returns-clause-deal : goal.returns-clause-deal
returns-clause-deal c = λ called error reads. among_none _ (kind_of error) (deal_accepted reads.choices reads.dealt called reads.dealt_named) reads.answer
