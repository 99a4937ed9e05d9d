use Rattle.std.proofs.Common.{◌==◌, ◌∙◌, ◌≡◌, ◌≢◌, [], ap, arith, false, length, sym, true, vec_len}
use Rattle.fc_text.specs.Lines.{lines_from}
use Rattle.fc_import.{proofs.TakingLemmas.{no_ends, noted}, specs.{Import.{left_out}, Words.{named_in}}}
use Rattle.fc_import.proofs.made.Made.leave_out.Goals as goal

pub returns-clause-taken : goal.returns-clause-taken
returns-clause-taken g c = λ is.
    let (said, note, grows) = c.in_ok-push_note.ensures in
    let named : named_in c.args.piece.now ≢ [] = λ none.
    let long = c.in_ok-named_lines.field-0.ok in
    let none_long = ap length (c.in_ok-named_lines.ensures ∙ no_ends (lines_from 0 c.args.piece.now) none) in
    let empty : vec_len c.in_ok-named_lines.field-0 ≡ 0 = omega (arith, long, none_long) in
    let no_card : false ≡ true = sym c.if-is_empty.false ∙ c.is_empty.ensures ∙ ap (λ count. count == 0) empty in
    cc
    in
    noted {R = g.row.R.Denot} g.R.Rule.VARIANT g.R.Rule.game c.args.piece.now c.args.self.now c.go_on.new.self _ c.go_on.ensures.state said
    (left_out said (c.is_apart.ensures.0 c.if-not-is_apart.false) named (c.in_ok-are_aside.ensures c.if-not-branch.false) note) c.go_on.ensures.written (c.go_on.ensures.notes ∙ grows)
