use Rattle.fc_import.{proofs.TakingLemmas.{silent}, specs.Import.{passed}}
use Rattle.fc_import.proofs.made.Made.pass.Goals as goal

pub returns-clause-taken : goal.returns-clause-taken
returns-clause-taken g c = λ is.
    silent {R = g.row.R.Denot} g.R.Rule.VARIANT g.R.Rule.game c.args.piece.now c.args.self.now c.go_on.new.self _ c.go_on.ensures.state (passed (c.is_apart.ensures.0 c.if-not-is_apart.false) (c.in_ok-are_aside.ensures c.if-not-branch.false)) c.go_on.ensures.written c.go_on.ensures.notes
