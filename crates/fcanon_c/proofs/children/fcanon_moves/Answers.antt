use Rattle.std.proofs.Common.{◌<◌, length, subst, sym}
use Rattle.{fc_bytes.specs.{AreMoves, OfLegalMoves}, fcanon_c.specs.{game_at}}
use Rattle.fcanon_c.proofs.children.fcanon_moves.Goals as goal

pub returns-in-0-clause-done : goal.returns-in-0-clause-done
returns-in-0-clause-done c = λ holds.
    subst (λ game. OfLegalMoves (game_at game) c.args.board.now (AreMoves c.args.moves.now c.moves_of.new.moves c.moves_of.new.count)) (sym c.in-0.is) (c.moves_of.ensures.done holds)

pub returns-in-0-clause-no_room : goal.returns-in-0-clause-no_room
returns-in-0-clause-no_room c = λ holds.
    subst (λ game. OfLegalMoves (game_at game) c.args.board.now (λ legal. length c.args.moves.now < length legal)) (sym c.in-0.is) (c.moves_of.ensures.no_room holds)

pub returns-in-1-clause-done : goal.returns-in-1-clause-done
returns-in-1-clause-done c = λ holds.
    subst (λ game. OfLegalMoves (game_at game) c.args.board.now (AreMoves c.args.moves.now c.moves_of-in-1.new.moves c.moves_of-in-1.new.count)) (sym c.in-1.is) (c.moves_of-in-1.ensures.done holds)

pub returns-in-1-clause-no_room : goal.returns-in-1-clause-no_room
returns-in-1-clause-no_room c = λ holds.
    subst (λ game. OfLegalMoves (game_at game) c.args.board.now (λ legal. length c.args.moves.now < length legal)) (sym c.in-1.is) (c.moves_of-in-1.ensures.no_room holds)

pub returns-in-2-clause-done : goal.returns-in-2-clause-done
returns-in-2-clause-done c = λ holds.
    subst (λ game. OfLegalMoves (game_at game) c.args.board.now (AreMoves c.args.moves.now c.moves_of-in-2.new.moves c.moves_of-in-2.new.count)) (sym c.in-2.is) (c.moves_of-in-2.ensures.done holds)

pub returns-in-2-clause-no_room : goal.returns-in-2-clause-no_room
returns-in-2-clause-no_room c = λ holds.
    subst (λ game. OfLegalMoves (game_at game) c.args.board.now (λ legal. length c.args.moves.now < length legal)) (sym c.in-2.is) (c.moves_of-in-2.ensures.no_room holds)
