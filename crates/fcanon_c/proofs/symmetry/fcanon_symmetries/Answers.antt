use Rattle.{fc_bytes.specs.{HasSymmetries}, fcanon_c.specs.{game_at}, std.proofs.Common.{subst, sym}}
use Rattle.fcanon_c.proofs.symmetry.fcanon_symmetries.Goals as goal

pub returns-in-0-clause-done : goal.returns-in-0-clause-done
returns-in-0-clause-done c = λ done.
    subst (λ game. HasSymmetries (game_at game) c.args.board.now c.args.suits.now c.symmetries_of.new.suits c.symmetries_of.new.count) (sym c.in-0.is) (c.symmetries_of.ensures.done done)

pub returns-in-1-clause-done : goal.returns-in-1-clause-done
returns-in-1-clause-done c = λ done.
    subst (λ game. HasSymmetries (game_at game) c.args.board.now c.args.suits.now c.symmetries_of-in-1.new.suits c.symmetries_of-in-1.new.count) (sym c.in-1.is) (c.symmetries_of-in-1.ensures.done done)

pub returns-in-2-clause-done : goal.returns-in-2-clause-done
returns-in-2-clause-done c = λ done.
    subst (λ game. HasSymmetries (game_at game) c.args.board.now c.args.suits.now c.symmetries_of-in-2.new.suits c.symmetries_of-in-2.new.count) (sym c.in-2.is) (c.symmetries_of-in-2.ensures.done done)
