use Rattle.{fc_bytes.specs.{LeadsToOther}, fcanon_c.specs.{game_at, renamings_at}, std.proofs.Common.{subst, sym}}
use Rattle.fcanon_c.proofs.canonical.fcanon_same.Goals as goal

pub returns-in-0-clause-done : goal.returns-in-0-clause-done
returns-in-0-clause-done c = λ done.
    subst (λ game. LeadsToOther (game_at game) (renamings_at game) c.args.board.now c.args.other.now c.same_of.new.passage) (sym c.in-0.is) (c.same_of.ensures.done done)

pub returns-in-1-clause-done : goal.returns-in-1-clause-done
returns-in-1-clause-done c = λ done.
    subst (λ game. LeadsToOther (game_at game) (renamings_at game) c.args.board.now c.args.other.now c.same_of-in-1.new.passage) (sym c.in-1.is) (c.same_of-in-1.ensures.done done)

pub returns-in-2-clause-done : goal.returns-in-2-clause-done
returns-in-2-clause-done c = λ done.
    subst (λ game. LeadsToOther (game_at game) (renamings_at game) c.args.board.now c.args.other.now c.same_of-in-2.new.passage) (sym c.in-2.is) (c.same_of-in-2.ensures.done done)
