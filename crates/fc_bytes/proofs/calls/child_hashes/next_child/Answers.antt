use Rattle.std.proofs.Common.{◌-◌, ◌<◌, ◌∙◌, ap, ap₂, arith, get_or, length, List, ℕ}
use Rattle.fc_board.specs.{declared.moves.{Place.TheVariants.{Home}, Source.TheVariants.{Column}}, Moves.{move_between}}
use Rattle.fc_bytes.{proofs.{LegalMoves.{listed_there}, SumLemmas.{alike-hash}}, specs.{legal_moves}}
use Rattle.fc_bytes.specs.declared.{child_hash.ChildHash.{ChildHash}, moves.MoveBytes.{MoveBytes}}
use Rattle.fc_bytes.proofs.calls.child_hashes.next_child.Goals as goal

-- the move at this place is listed, and so allowed
pub after-requires : goal.after-requires
after-requires g c =
    let any = move_between (Column 0) Home in
    let game = g.R.Rule.game in
    let board = c.args.board.now in
    let place = c.args.place in
    let (holds, allowed) =
    listed_there game board c.args.moves.now place _ any c.requires.moves c.requires.inside.0 in
    (get_or (legal_moves game board) place any, holds, allowed)

pub returns : goal.returns
returns g c = λ move.
    let game = g.R.Rule.game in
    let board = c.args.board.now in
    let place = c.args.place in
    c.after.ensures (get_or (legal_moves game board) place move)
    (listed_there game board c.args.moves.now place _ move c.requires.moves c.requires.inside.0).0

-- the hash is that after the move before
pub returns-then-are_alike : goal.returns-then-are_alike
returns-then-are_alike g c = λ move.
    let game = g.R.Rule.game in
    let board = c.args.board.now in
    let some = c.if-place-gt0.true in
    let inside = c.requires.inside.0 in
    let before : c.args.place - 1 < length c.args.moves.now = omega (arith, some, inside) in
    let one = (listed_there game board c.args.moves.now (c.args.place - 1) _ move c.requires.moves before).0 in
    let other = (listed_there game board c.args.moves.now c.args.place _ move c.requires.moves inside).0 in
    let alike = c.are_alike.ensures c.if-are_alike.true _ _ one other in
    let both : MoveBytes → List ℕ → ChildHash = λ mv hash. record { mv = mv; hash = hash } in
    ap₂ both other.1
    (ap (λ (child : ChildHash). child.hash) (c.requires.before move _ some)
    ∙ alike-hash g.R.Rule.renamings board c.args.sums.now _ _ alike)
