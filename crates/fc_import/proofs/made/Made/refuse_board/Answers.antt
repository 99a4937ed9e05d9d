use Rattle.std.proofs.Common.{◌∙◌}
use Rattle.fc_import.{proofs.TakingLemmas.{noted}, specs.Import.{refused_board}}
use Rattle.fc_import.proofs.made.Made.refuse_board.Goals as goal

pub returns : goal.returns
returns g c =
    let (said, note, grows) = c.in_ok-push_note.ensures in
    noted {R = g.row.R.Denot} g.R.Rule.VARIANT g.R.Rule.game c.args.piece.now c.args.self.now c.go_on.new.self _ c.go_on.ensures.state said (refused_board said note) c.go_on.ensures.written (c.go_on.ensures.notes ∙ grows)
