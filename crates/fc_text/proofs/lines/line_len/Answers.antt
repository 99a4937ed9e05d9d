use Rattle.{fc_text.proofs.LetterLemmas.{first_byte-none, first_byte-some}, std.proofs.Common.{sym}}
use Rattle.fc_text.proofs.lines.line_len.Goals as goal

pub returns-in-Some-clause-value : goal.returns-in-Some-clause-value
returns-in-Some-clause-value c = sym (first_byte-some _ c.args.bytes.now c.in-Some.place c.in-Some.ensures)

pub returns-in-None-clause-value : goal.returns-in-None-clause-value
returns-in-None-clause-value c = sym (first_byte-none _ c.args.bytes.now c.in-None.ensures)
