use Rattle.std.proofs.Common.{◌↔◌, ◌≡◌, subst, sym}
use Rattle.{fc_board.specs.Boards.{Board}, fc_bytes.specs.{HoldsBoard}}
use Rattle.fc_closed.specs.declared.check.Doubt.TheVariants as doubt
use Rattle.{fc_closed.specs.{IsDoubted, IsUnsolvable, ShowUnsolvable}, fcanon_c.specs.{game_at, renamings_at}}
use Rattle.fcanon_c.proofs.closed.fcanon_unsolvable.Goals as goal

pub returns-in-0-clause-shown : goal.returns-in-0-clause-shown
returns-in-0-clause-shown c = λ _.
    subst (λ game. c.unsolvable_of.result ≡ 0 ↔ ShowUnsolvable (game_at game) (renamings_at game) c.args.board.now c.args.keys.now) (sym c.in-0.is) c.unsolvable_of.ensures.shown

pub returns-in-0-clause-unsolvable : goal.returns-in-0-clause-unsolvable
returns-in-0-clause-unsolvable c = λ done.
    subst (λ game. (held : Board) × HoldsBoard (game_at game) c.args.board.now held × IsUnsolvable (game_at game) held) (sym c.in-0.is) (c.unsolvable_of.ensures.unsolvable done)

pub returns-in-0-clause-not_closed : goal.returns-in-0-clause-not_closed
returns-in-0-clause-not_closed c = λ is.
    subst (λ game. IsDoubted (game_at game) (renamings_at game) c.args.board.now c.args.keys.now doubt.NotClosed) (sym c.in-0.is) (c.unsolvable_of.ensures.not_closed is)

pub returns-in-0-clause-not_among : goal.returns-in-0-clause-not_among
returns-in-0-clause-not_among c = λ is.
    subst (λ game. IsDoubted (game_at game) (renamings_at game) c.args.board.now c.args.keys.now doubt.NotAmong) (sym c.in-0.is) (c.unsolvable_of.ensures.not_among is)

pub returns-in-1-clause-shown : goal.returns-in-1-clause-shown
returns-in-1-clause-shown c = λ _.
    subst (λ game. c.unsolvable_of-in-1.result ≡ 0 ↔ ShowUnsolvable (game_at game) (renamings_at game) c.args.board.now c.args.keys.now) (sym c.in-1.is) c.unsolvable_of-in-1.ensures.shown

pub returns-in-1-clause-unsolvable : goal.returns-in-1-clause-unsolvable
returns-in-1-clause-unsolvable c = λ done.
    subst (λ game. (held : Board) × HoldsBoard (game_at game) c.args.board.now held × IsUnsolvable (game_at game) held) (sym c.in-1.is) (c.unsolvable_of-in-1.ensures.unsolvable done)

pub returns-in-1-clause-not_closed : goal.returns-in-1-clause-not_closed
returns-in-1-clause-not_closed c = λ is.
    subst (λ game. IsDoubted (game_at game) (renamings_at game) c.args.board.now c.args.keys.now doubt.NotClosed) (sym c.in-1.is) (c.unsolvable_of-in-1.ensures.not_closed is)

pub returns-in-1-clause-not_among : goal.returns-in-1-clause-not_among
returns-in-1-clause-not_among c = λ is.
    subst (λ game. IsDoubted (game_at game) (renamings_at game) c.args.board.now c.args.keys.now doubt.NotAmong) (sym c.in-1.is) (c.unsolvable_of-in-1.ensures.not_among is)

pub returns-in-2-clause-shown : goal.returns-in-2-clause-shown
returns-in-2-clause-shown c = λ _.
    subst (λ game. c.unsolvable_of-in-2.result ≡ 0 ↔ ShowUnsolvable (game_at game) (renamings_at game) c.args.board.now c.args.keys.now) (sym c.in-2.is) c.unsolvable_of-in-2.ensures.shown

pub returns-in-2-clause-unsolvable : goal.returns-in-2-clause-unsolvable
returns-in-2-clause-unsolvable c = λ done.
    subst (λ game. (held : Board) × HoldsBoard (game_at game) c.args.board.now held × IsUnsolvable (game_at game) held) (sym c.in-2.is) (c.unsolvable_of-in-2.ensures.unsolvable done)

pub returns-in-2-clause-not_closed : goal.returns-in-2-clause-not_closed
returns-in-2-clause-not_closed c = λ is.
    subst (λ game. IsDoubted (game_at game) (renamings_at game) c.args.board.now c.args.keys.now doubt.NotClosed) (sym c.in-2.is) (c.unsolvable_of-in-2.ensures.not_closed is)

pub returns-in-2-clause-not_among : goal.returns-in-2-clause-not_among
returns-in-2-clause-not_among c = λ is.
    subst (λ game. IsDoubted (game_at game) (renamings_at game) c.args.board.now c.args.keys.now doubt.NotAmong) (sym c.in-2.is) (c.unsolvable_of-in-2.ensures.not_among is)
