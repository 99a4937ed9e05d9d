use Rattle.std.proofs.Common.{◌∙◌, arith, sym}
use Rattle.fc_text.proofs.TokenLemmas.{among_first-beyond, among_first-none, among_first-some}
use Rattle.fc_text.proofs.named.cell_named.Goals as goal

pub returns-in-Some : goal.returns-in-Some
returns-in-Some g c =
    sym (among_first-some g.R.Rule.game.cells c.args.letter (omega (arith, g.met.R.Rule.rule_laws.cells_are, g.met.R.Rule.rule_laws.at_most_eight)) c.ranges.letter.fits c.in-Some.cell
    (sym c.in-Some.is ∙ c.cell_of_letter.ensures) (omega (arith, g.met.R.Rule.rule_laws.cells_are, c.from.ensures, c.CELLS.ensures, c.if-from-CELLS.true)))

pub returns-in_default : goal.returns-in_default
returns-in_default g c =
    sym (among_first-beyond g.R.Rule.game.cells c.args.letter (omega (arith, g.met.R.Rule.rule_laws.cells_are, g.met.R.Rule.rule_laws.at_most_eight)) c.ranges.letter.fits c.in-Some.cell
    (sym c.in-Some.is ∙ c.cell_of_letter.ensures) (λ small. omega (arith, g.met.R.Rule.rule_laws.cells_are, c.from.ensures, c.CELLS.ensures, c.if-from-CELLS.false, small)))

pub returns-in_default-2 : goal.returns-in_default-2
returns-in_default-2 g c =
    sym (among_first-none g.R.Rule.game.cells c.args.letter (omega (arith, g.met.R.Rule.rule_laws.cells_are, g.met.R.Rule.rule_laws.at_most_eight)) c.ranges.letter.fits
    (sym c.in_default.is ∙ c.cell_of_letter.ensures))
