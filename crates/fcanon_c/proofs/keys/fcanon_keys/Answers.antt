use Rattle.{fc_bytes.specs.{HasNoBoardAt, HaveKeys}, std.proofs.Common.{length, subst, sym}}
use Rattle.fcanon_c.specs.{game_at, renamings_at}
use Rattle.fcanon_c.proofs.keys.fcanon_keys.Goals as goal

pub returns-in-0-clause-done : goal.returns-in-0-clause-done
returns-in-0-clause-done c = λ done.
    subst (λ game. HaveKeys (game_at game) (renamings_at game) c.args.boards.now c.keys_of.new.boards (length c.args.boards.now)) (sym c.in-0.is) (c.keys_of.ensures.done done)

pub returns-in-0-clause-no_board : goal.returns-in-0-clause-no_board
returns-in-0-clause-no_board c = λ none.
    subst (λ game. HasNoBoardAt (game_at game) (renamings_at game) c.args.boards.now c.keys_of.new.boards c.keys_of.new.place) (sym c.in-0.is) (c.keys_of.ensures.no_board none)

pub returns-in-1-clause-done : goal.returns-in-1-clause-done
returns-in-1-clause-done c = λ done.
    subst (λ game. HaveKeys (game_at game) (renamings_at game) c.args.boards.now c.keys_of-in-1.new.boards (length c.args.boards.now)) (sym c.in-1.is) (c.keys_of-in-1.ensures.done done)

pub returns-in-1-clause-no_board : goal.returns-in-1-clause-no_board
returns-in-1-clause-no_board c = λ none.
    subst (λ game. HasNoBoardAt (game_at game) (renamings_at game) c.args.boards.now c.keys_of-in-1.new.boards c.keys_of-in-1.new.place) (sym c.in-1.is) (c.keys_of-in-1.ensures.no_board none)

pub returns-in-2-clause-done : goal.returns-in-2-clause-done
returns-in-2-clause-done c = λ done.
    subst (λ game. HaveKeys (game_at game) (renamings_at game) c.args.boards.now c.keys_of-in-2.new.boards (length c.args.boards.now)) (sym c.in-2.is) (c.keys_of-in-2.ensures.done done)

pub returns-in-2-clause-no_board : goal.returns-in-2-clause-no_board
returns-in-2-clause-no_board c = λ none.
    subst (λ game. HasNoBoardAt (game_at game) (renamings_at game) c.args.boards.now c.keys_of-in-2.new.boards c.keys_of-in-2.new.place) (sym c.in-2.is) (c.keys_of-in-2.ensures.no_board none)
