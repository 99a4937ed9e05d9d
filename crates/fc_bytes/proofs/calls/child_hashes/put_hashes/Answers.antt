use Rattle.std.proofs.Common.{◌++◌, ◌+◌, ◌-◌, ◌<◌, ◌∙◌, ◌≡◌, ap, ap₂, arith, drop, get_or, length, List, map, sym, take}
use Rattle.std.proofs.{Common.{ℕ}, lemmas.List.{drop-drop, drop-set-lt, get_or-map, get_or-take, length-map}}
use Rattle.std.proofs.lemmas.List.{length-set, length-take-le, take-append-drop, take_all}
use Rattle.{fc_board.specs.Moves.{move_between}, fc_bytes.specs.declared.child_hash.ChildHash.{ChildHash}}
use Rattle.fc_board.specs.declared.moves.{Move.{Move}, Place.TheVariants.{Home}, Source.TheVariants.{Column}}
use Rattle.fc_bytes.{proofs.ChildrenLemmas.{written_more}, specs.{class_hash.{child_hash}, legal_moves, move_bytes}}
use Rattle.fc_bytes.proofs.calls.child_hashes.put_hashes.Goals as goal

-- the move before is written with its hash
pub next_child-requires-clause-before : goal.next_child-requires-clause-before
next_child-requires-clause-before g c = λ move child some.
    let place = c.loop-place.place in
    let at = place - 1 in
    let legal = legal_moves g.R.Rule.game c.args.board.now in
    let hashed = child_hash g.R.Rule.renamings c.args.board.now c.args.sums.now in
    let inside : place < length c.args.moves.now = omega (arith, c.loop-place-test.true, c.loop-place.auto.place-end) in
    let as_many : length c.args.moves.now ≡ length legal = ap length c.requires.moves ∙ length-map legal move_bytes in
    let before : length (take place legal) ≡ place = length-take-le place legal (omega (arith, inside, as_many)) in
    sym (get_or-take place c.loop-place.children at child (omega (arith, some)))
    ∙ ap (λ children. get_or children at child) c.loop-place.invariant.written
    ∙ get_or-map hashed (take place legal) at move child (omega (arith, some, before))
    ∙ ap hashed (get_or-take place legal at move (omega (arith, some)))

-- one move more is written with its hash
pub loop-place-preserved : goal.loop-place-preserved
loop-place-preserved g c =
    let any = move_between (Column 0) Home in
    let place = c.loop-place.place in
    let kept = c.loop-place.invariant in
    let old = c.args.children.now in
    let now = c.loop-place.children in
    let moves = c.args.moves.now in
    let legal = legal_moves g.R.Rule.game c.args.board.now in
    let hashed = child_hash g.R.Rule.renamings c.args.board.now c.args.sums.now in
    let inside : place < length moves = omega (arith, c.loop-place-test.true, c.loop-place.auto.place-end) in
    let as_many : length moves ≡ length legal = ap length c.requires.moves ∙ length-map legal move_bytes in
    record {
      long = length-set now place c.next_child.result ∙ kept.long;
      written = written_more hashed legal now place any c.next_child.result kept.written
          (omega (arith, inside, as_many))
          (omega (arith, inside, c.requires.room, kept.long)) (c.next_child.ensures any);
      left = drop-set-lt (place + 1) now place c.next_child.result (omega arith)
          ∙ sym (drop-drop 1 place now) ∙ ap (drop 1) kept.left ∙ drop-drop 1 place old;
    }

-- all are written, and what comes after them is as it was
pub returns : goal.returns
returns g c =
    let place = c.loop-place.place in
    let kept = c.loop-place.invariant in
    let moves = c.args.moves.now in
    let hashed = child_hash g.R.Rule.renamings c.args.board.now c.args.sums.now in
    let legal = legal_moves g.R.Rule.game c.args.board.now in
    let as_many : length moves ≡ length legal = ap length c.requires.moves ∙ length-map legal move_bytes in
    let all : place ≡ length legal = omega (arith, c.loop-place-test.false, c.loop-place.auto.place-end, as_many) in
    sym (take-append-drop place c.loop-place.children)
    ∙ ap₂ (λ (front back : List ChildHash). front ++ back) kept.written kept.left
    ∙ ap₂ (λ (moves : List Move) (n : ℕ). map hashed moves ++ drop n c.args.children.now)
    (take_all place legal (omega (arith, all))) all
