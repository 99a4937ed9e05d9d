use Rattle.std.proofs.Common.{◌∙◌, ap, Some, sym}
use Rattle.fc_import.proofs.TakingLemmas.{last_taken}
use Rattle.fc_import.proofs.made.Made.see_again.Goals as goal

pub returns-clause-taken : goal.returns-clause-taken
returns-clause-taken g c = λ is.
    let last = c.in-Some.is ∙ ap Some (sym c.copy-board.ensures.same) in
    last_taken {R = g.row.R.Denot} g.R.Rule.VARIANT g.R.Rule.game c.args.piece.now _ c.args.self.now
    c.say_read.new.self c.go_on.new.self (c.in_ok-say_read.ensures.of c.if-not-branch.false)
    (c.in_ok-say_read.ensures.said c.if-not-branch.false)
    last c.if-not-self.false c.go_on.ensures.state c.go_on.ensures.written c.go_on.ensures.notes
