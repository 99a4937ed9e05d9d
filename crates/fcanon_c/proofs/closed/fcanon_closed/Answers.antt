use Rattle.std.{proofs.Common.{◌↔◌, ◌≡◌, subst, sym}, specs.List.{Contains}}
use Rattle.{fc_board.specs.Boards.{Board}, fc_bytes.specs.{declared.board.BoardBytes.{BoardBytes}, HoldsBoard}}
use Rattle.{fc_closed.specs.{AreClosedKeys, IsFirstFlaw, IsUnsolvable}, fcanon_c.specs.{game_at, renamings_at}}
use Rattle.fc_closed.specs.declared.check.Flaw.TheVariants.{NoBoard, NotAbove, NotCanonical, Open, Won}
use Rattle.fcanon_c.proofs.closed.fcanon_closed.Goals as goal

pub returns-in-0-clause-closed : goal.returns-in-0-clause-closed
returns-in-0-clause-closed c = λ _.
    subst (λ game. c.closed_of.result ≡ 0 ↔ AreClosedKeys (game_at game) (renamings_at game) c.args.keys.now) (sym c.in-0.is) c.closed_of.ensures.closed

pub returns-in-0-clause-unsolvable : goal.returns-in-0-clause-unsolvable
returns-in-0-clause-unsolvable c = λ done.
    subst (λ game. (key : BoardBytes) (board : Board) → Contains c.args.keys.now key → HoldsBoard (game_at game) key board → IsUnsolvable (game_at game) board)
    (sym c.in-0.is) (c.closed_of.ensures.unsolvable done)

pub returns-in-0-clause-no_board : goal.returns-in-0-clause-no_board
returns-in-0-clause-no_board c = λ is.
    subst (λ game. IsFirstFlaw (game_at game) (renamings_at game) c.args.keys.now c.closed_of.new.place NoBoard) (sym c.in-0.is) (c.closed_of.ensures.no_board is)

pub returns-in-0-clause-not_canonical : goal.returns-in-0-clause-not_canonical
returns-in-0-clause-not_canonical c = λ is.
    subst (λ game. IsFirstFlaw (game_at game) (renamings_at game) c.args.keys.now c.closed_of.new.place NotCanonical) (sym c.in-0.is) (c.closed_of.ensures.not_canonical is)

pub returns-in-0-clause-not_above : goal.returns-in-0-clause-not_above
returns-in-0-clause-not_above c = λ is.
    subst (λ game. IsFirstFlaw (game_at game) (renamings_at game) c.args.keys.now c.closed_of.new.place NotAbove) (sym c.in-0.is) (c.closed_of.ensures.not_above is)

pub returns-in-0-clause-won : goal.returns-in-0-clause-won
returns-in-0-clause-won c = λ is.
    subst (λ game. IsFirstFlaw (game_at game) (renamings_at game) c.args.keys.now c.closed_of.new.place Won) (sym c.in-0.is) (c.closed_of.ensures.won is)

pub returns-in-0-clause-open : goal.returns-in-0-clause-open
returns-in-0-clause-open c = λ is.
    subst (λ game. IsFirstFlaw (game_at game) (renamings_at game) c.args.keys.now c.closed_of.new.place (Open c.closed_of.new.mv)) (sym c.in-0.is) (c.closed_of.ensures.open is)

pub returns-in-1-clause-closed : goal.returns-in-1-clause-closed
returns-in-1-clause-closed c = λ _.
    subst (λ game. c.closed_of-in-1.result ≡ 0 ↔ AreClosedKeys (game_at game) (renamings_at game) c.args.keys.now) (sym c.in-1.is) c.closed_of-in-1.ensures.closed

pub returns-in-1-clause-unsolvable : goal.returns-in-1-clause-unsolvable
returns-in-1-clause-unsolvable c = λ done.
    subst (λ game. (key : BoardBytes) (board : Board) → Contains c.args.keys.now key → HoldsBoard (game_at game) key board → IsUnsolvable (game_at game) board)
    (sym c.in-1.is) (c.closed_of-in-1.ensures.unsolvable done)

pub returns-in-1-clause-no_board : goal.returns-in-1-clause-no_board
returns-in-1-clause-no_board c = λ is.
    subst (λ game. IsFirstFlaw (game_at game) (renamings_at game) c.args.keys.now c.closed_of-in-1.new.place NoBoard) (sym c.in-1.is) (c.closed_of-in-1.ensures.no_board is)

pub returns-in-1-clause-not_canonical : goal.returns-in-1-clause-not_canonical
returns-in-1-clause-not_canonical c = λ is.
    subst (λ game. IsFirstFlaw (game_at game) (renamings_at game) c.args.keys.now c.closed_of-in-1.new.place NotCanonical) (sym c.in-1.is) (c.closed_of-in-1.ensures.not_canonical is)

pub returns-in-1-clause-not_above : goal.returns-in-1-clause-not_above
returns-in-1-clause-not_above c = λ is.
    subst (λ game. IsFirstFlaw (game_at game) (renamings_at game) c.args.keys.now c.closed_of-in-1.new.place NotAbove) (sym c.in-1.is) (c.closed_of-in-1.ensures.not_above is)

pub returns-in-1-clause-won : goal.returns-in-1-clause-won
returns-in-1-clause-won c = λ is.
    subst (λ game. IsFirstFlaw (game_at game) (renamings_at game) c.args.keys.now c.closed_of-in-1.new.place Won) (sym c.in-1.is) (c.closed_of-in-1.ensures.won is)

pub returns-in-1-clause-open : goal.returns-in-1-clause-open
returns-in-1-clause-open c = λ is.
    subst (λ game. IsFirstFlaw (game_at game) (renamings_at game) c.args.keys.now c.closed_of-in-1.new.place (Open c.closed_of-in-1.new.mv)) (sym c.in-1.is) (c.closed_of-in-1.ensures.open is)

pub returns-in-2-clause-closed : goal.returns-in-2-clause-closed
returns-in-2-clause-closed c = λ _.
    subst (λ game. c.closed_of-in-2.result ≡ 0 ↔ AreClosedKeys (game_at game) (renamings_at game) c.args.keys.now) (sym c.in-2.is) c.closed_of-in-2.ensures.closed

pub returns-in-2-clause-unsolvable : goal.returns-in-2-clause-unsolvable
returns-in-2-clause-unsolvable c = λ done.
    subst (λ game. (key : BoardBytes) (board : Board) → Contains c.args.keys.now key → HoldsBoard (game_at game) key board → IsUnsolvable (game_at game) board)
    (sym c.in-2.is) (c.closed_of-in-2.ensures.unsolvable done)

pub returns-in-2-clause-no_board : goal.returns-in-2-clause-no_board
returns-in-2-clause-no_board c = λ is.
    subst (λ game. IsFirstFlaw (game_at game) (renamings_at game) c.args.keys.now c.closed_of-in-2.new.place NoBoard) (sym c.in-2.is) (c.closed_of-in-2.ensures.no_board is)

pub returns-in-2-clause-not_canonical : goal.returns-in-2-clause-not_canonical
returns-in-2-clause-not_canonical c = λ is.
    subst (λ game. IsFirstFlaw (game_at game) (renamings_at game) c.args.keys.now c.closed_of-in-2.new.place NotCanonical) (sym c.in-2.is) (c.closed_of-in-2.ensures.not_canonical is)

pub returns-in-2-clause-not_above : goal.returns-in-2-clause-not_above
returns-in-2-clause-not_above c = λ is.
    subst (λ game. IsFirstFlaw (game_at game) (renamings_at game) c.args.keys.now c.closed_of-in-2.new.place NotAbove) (sym c.in-2.is) (c.closed_of-in-2.ensures.not_above is)

pub returns-in-2-clause-won : goal.returns-in-2-clause-won
returns-in-2-clause-won c = λ is.
    subst (λ game. IsFirstFlaw (game_at game) (renamings_at game) c.args.keys.now c.closed_of-in-2.new.place Won) (sym c.in-2.is) (c.closed_of-in-2.ensures.won is)

pub returns-in-2-clause-open : goal.returns-in-2-clause-open
returns-in-2-clause-open c = λ is.
    subst (λ game. IsFirstFlaw (game_at game) (renamings_at game) c.args.keys.now c.closed_of-in-2.new.place (Open c.closed_of-in-2.new.mv)) (sym c.in-2.is) (c.closed_of-in-2.ensures.open is)
