use Rattle.fc_import.proofs.TakingLemmas.{board_taken}
use Rattle.fc_import.proofs.made.Made.put_read.Goals as goal

pub returns-clause-taken : goal.returns-clause-taken
returns-clause-taken g c = λ is.
    board_taken {R = g.row.R.Denot} g.R.Rule.VARIANT g.R.Rule.game c.args.piece.now c.args.board c.args.self.now
    c.say_read.new.self c.put_board.new.self (c.in_ok-say_read.ensures.of c.if-not-branch.false)
    (c.in_ok-say_read.ensures.said c.if-not-branch.false) c.if-self.false
    c.in_ok-put_board.ensures.well_formed (c.is_allowed.ensures.0 c.if-not-is_allowed.false) c.in_ok-put_board.ensures.state
    c.in_ok-put_board.ensures.written c.in_ok-put_board.ensures.notes
