use Rattle.std.proofs.Common.{◌∙◌, arith, sym}
use Rattle.fc_tool.proofs.WordLemmas.{in_bounds, not_read, read}
use Rattle.fc_tool.proofs.command_line.matches.number_between.Goals as goal

pub returns-in_err-number : goal.returns-in_err-number
returns-in_err-number c =
    c.from_residual.ensures
    ∙ not_read c.args.least c.args.most c.args.text.now c.parse.result c.parse.ensures.value.0 (sym c.ok.ensures.value ∙ c.in_err-number.was)

pub returns : goal.returns
returns c =
    in_bounds c.args.least c.args.most c.args.text.now c.in_ok-number-2.number
    (read c.args.least c.args.most c.args.text.now c.parse.result c.in_ok-number.number c.try_from.result c.in_ok-number-2.number
    c.parse.ensures.value.0 (sym c.ok.ensures.value ∙ c.in_ok-number.was) c.try_from.ensures (sym c.ok-2.ensures.value ∙ c.in_ok-number-2.was))
    (omega (arith, c.if-number-least.false)) (omega (arith, c.if-most-number.false))
