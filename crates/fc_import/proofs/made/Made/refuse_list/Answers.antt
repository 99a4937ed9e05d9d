use Rattle.std.proofs.Common.{◌∙◌, inl, inr, None, refl}
use Rattle.fc_import.{proofs.TakingLemmas.{noted}, specs.Import.{refused_list}}
use Rattle.fc_import.proofs.made.Made.refuse_list.Goals as goal

pub returns-then-branch : goal.returns-then-branch
returns-then-branch g c =
    let (said, note, grows) = c.in_ok-push_note.ensures in
    noted {R = g.row.R.Denot} g.R.Rule.VARIANT g.R.Rule.game c.args.piece.now c.args.self.now c.go_on.new.self _ c.go_on.ensures.state said
    (refused_list c.args.self.now.last said (c.is_apart.ensures.0 c.if-not-is_apart.false) (inr (refl, c.in_ok-are_aside.ensures c.if-branch.true)) note) c.go_on.ensures.written (c.go_on.ensures.notes ∙ grows)

pub returns : goal.returns
returns g c =
    let (said, note, grows) = c.in_ok-push_note.ensures in
    noted {R = g.row.R.Denot} g.R.Rule.VARIANT g.R.Rule.game c.args.piece.now c.args.self.now c.go_on-2.new.self _ c.go_on-2.ensures.state said (refused_list None said (c.is_apart.ensures.0 c.if-not-is_apart.false) (inl refl) note)
    c.go_on-2.ensures.written (c.go_on-2.ensures.notes ∙ grows)
