use Rattle.std.proofs.Common.{◌<◌, length, subst, sym}
use Rattle.{fc_bytes.specs.{class_hash.{HasChildHashes}, OfLegalMoves}, fcanon_c.specs.{game_at, renamings_at}}
use Rattle.fcanon_c.proofs.children.fcanon_known_child_hashes.Goals as goal

pub returns-in-0-clause-done : goal.returns-in-0-clause-done
returns-in-0-clause-done c = λ done.
    subst (λ game. HasChildHashes (game_at game) (renamings_at game) c.args.board.now c.args.sums.now
    c.args.children.now c.known_child_hashes_of.new.children c.known_child_hashes_of.new.count)
    (sym c.in-0.is) (c.known_child_hashes_of.ensures.done done)

pub returns-in-0-clause-no_room : goal.returns-in-0-clause-no_room
returns-in-0-clause-no_room c = λ little.
    subst (λ game. OfLegalMoves (game_at game) c.args.board.now (λ legal. length c.args.children.now < length legal))
    (sym c.in-0.is) (c.known_child_hashes_of.ensures.no_room little)

pub returns-in-1-clause-done : goal.returns-in-1-clause-done
returns-in-1-clause-done c = λ done.
    subst (λ game. HasChildHashes (game_at game) (renamings_at game) c.args.board.now c.args.sums.now
    c.args.children.now c.known_child_hashes_of-in-1.new.children c.known_child_hashes_of-in-1.new.count)
    (sym c.in-1.is) (c.known_child_hashes_of-in-1.ensures.done done)

pub returns-in-1-clause-no_room : goal.returns-in-1-clause-no_room
returns-in-1-clause-no_room c = λ little.
    subst (λ game. OfLegalMoves (game_at game) c.args.board.now (λ legal. length c.args.children.now < length legal))
    (sym c.in-1.is) (c.known_child_hashes_of-in-1.ensures.no_room little)

pub returns-in-2-clause-done : goal.returns-in-2-clause-done
returns-in-2-clause-done c = λ done.
    subst (λ game. HasChildHashes (game_at game) (renamings_at game) c.args.board.now c.args.sums.now
    c.args.children.now c.known_child_hashes_of-in-2.new.children c.known_child_hashes_of-in-2.new.count)
    (sym c.in-2.is) (c.known_child_hashes_of-in-2.ensures.done done)

pub returns-in-2-clause-no_room : goal.returns-in-2-clause-no_room
returns-in-2-clause-no_room c = λ little.
    subst (λ game. OfLegalMoves (game_at game) c.args.board.now (λ legal. length c.args.children.now < length legal))
    (sym c.in-2.is) (c.known_child_hashes_of-in-2.ensures.no_room little)
