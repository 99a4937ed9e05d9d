use Rattle.std.proofs.Common.{◌∙◌, ◌≡◌, ◌≢◌, false, sym, true}
use Rattle.{fc_import.proofs.TakingLemmas.{list_needs}, fc_record.specs.Printing.{list_line}}
use Rattle.fc_import.proofs.made.list_needs_no_note.Goals as goal

pub returns-in-Doubts : goal.returns-in-Doubts
returns-in-Doubts g c =
    let other : c.args.lines.now ≢ list_line c.args.list.now = λ printed.
    absurd (let e : false ≡ true = sym c.if-is_equal.false ∙ c.is_equal.ensures.1 (printed ∙ sym (c.as_slice.ensures.value ∙ c.in_ok-printed.ensures)) in cc)
    in
    list_needs c.args.noted g.R.Rule.game c.args.lines.now c.args.list.now _ c.in-Doubts.is other c.in_ok-silent-in-Doubts.ensures
