use Rattle.std.proofs.Common.{◌∙◌, sym}
use Rattle.fc_record.proofs.PrintedPartLemmas.{mark_found, no_mark_found}
use Rattle.fc_record.proofs.record.body.lists_start.Goals as goal

pub returns-in_default-clause-value : goal.returns-in_default-clause-value
returns-in_default-clause-value c = sym (no_mark_found c.args.body.now c.in_default.ensures)

pub returns-then-begins_line-clause-value : goal.returns-then-begins_line-clause-value
returns-then-begins_line-clause-value c =
    sym (mark_found c.args.body.now c.in-Some.place c.in-Some.ensures (sym c.begins_line.ensures ∙ c.if-begins_line.true))
