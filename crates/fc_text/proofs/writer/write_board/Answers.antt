use Rattle.std.proofs.Common.{◌∙◌, ap, arith, length}
use Rattle.fc_text.{proofs.TextLemmas.{length-text_of}, specs.Printed.{text_of}}
use Rattle.fc_text.proofs.writer.write_board.Goals as goal

pub returns : goal.returns
returns g c =
    let text = c.text.ensures ∙ ap text_of c.of.ensures.board in
    let bounds = length-text_of g.R.Rule.game c.args.board.now c.of.ensures.well_formed in
    let long = ap length text in
    record { text = text; shortest = omega (arith, bounds, long); longest = omega (arith, bounds, long) }
