use Rattle.std.proofs.Common.{◌<◌, length, subst, sym}
use Rattle.{fc_bytes.specs.{AreRuns, OfLegalRuns}, fcanon_c.specs.{game_at}}
use Rattle.fcanon_c.proofs.children.fcanon_run_moves.Goals as goal

pub returns-in-0-clause-done : goal.returns-in-0-clause-done
returns-in-0-clause-done c = λ holds.
    subst (λ game. OfLegalRuns (game_at game) c.args.board.now (AreRuns c.args.runs.now c.run_moves_of.new.runs c.run_moves_of.new.count)) (sym c.in-0.is) (c.run_moves_of.ensures.done holds)

pub returns-in-0-clause-no_room : goal.returns-in-0-clause-no_room
returns-in-0-clause-no_room c = λ holds.
    subst (λ game. OfLegalRuns (game_at game) c.args.board.now (λ legal. length c.args.runs.now < length legal)) (sym c.in-0.is) (c.run_moves_of.ensures.no_room holds)

pub returns-in-1-clause-done : goal.returns-in-1-clause-done
returns-in-1-clause-done c = λ holds.
    subst (λ game. OfLegalRuns (game_at game) c.args.board.now (AreRuns c.args.runs.now c.run_moves_of-in-1.new.runs c.run_moves_of-in-1.new.count)) (sym c.in-1.is) (c.run_moves_of-in-1.ensures.done holds)

pub returns-in-1-clause-no_room : goal.returns-in-1-clause-no_room
returns-in-1-clause-no_room c = λ holds.
    subst (λ game. OfLegalRuns (game_at game) c.args.board.now (λ legal. length c.args.runs.now < length legal)) (sym c.in-1.is) (c.run_moves_of-in-1.ensures.no_room holds)

pub returns-in-2-clause-done : goal.returns-in-2-clause-done
returns-in-2-clause-done c = λ holds.
    subst (λ game. OfLegalRuns (game_at game) c.args.board.now (AreRuns c.args.runs.now c.run_moves_of-in-2.new.runs c.run_moves_of-in-2.new.count)) (sym c.in-2.is) (c.run_moves_of-in-2.ensures.done holds)

pub returns-in-2-clause-no_room : goal.returns-in-2-clause-no_room
returns-in-2-clause-no_room c = λ holds.
    subst (λ game. OfLegalRuns (game_at game) c.args.board.now (λ legal. length c.args.runs.now < length legal)) (sym c.in-2.is) (c.run_moves_of-in-2.ensures.no_room holds)
