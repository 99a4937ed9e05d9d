use Rattle.{fc_text.proofs.NextLineLemmas.{next_line}, std.proofs.Common.{ap, arith, length, rules}}
use Rattle.fc_text.proofs.lines.LinesIterator.next.Goals as goal

pub returns-clause-steps : goal.returns-clause-steps
returns-clause-steps c =
    next_line c.args.self.now.text.now c.args.self.now.at c.line_len.result c.min-self.result
    (omega (arith, c.args.self.now.within, c.if-start-self.false)) c.line_len.ensures.value c.min-self.ensures

pub returns-clause-goes : goal.returns-clause-goes
returns-clause-goes c =
    let shorter = ap length (next_line c.args.self.now.text.now c.args.self.now.at c.line_len.result c.min-self.result
    (omega (arith, c.args.self.now.within, c.if-start-self.false)) c.line_len.ensures.value c.min-self.ensures) in
    search rules
