use Rattle.std.proofs.{Common.{◌<◌, ◌∙◌, ◌≡◌, ap, arith, get_or, length, not}, lemmas.List.{length-map}}
use Rattle.fc_board.specs.{declared.moves.{Place.TheVariants.{Home}, Source.TheVariants.{Column}}, Moves.{move_between}}
use Rattle.fc_bytes.{proofs.LegalMoves.{listed_there}, specs.{legal_moves, move_bytes}}
use Rattle.fc_collect.proofs.ClosedLemmas.{found_out, none_out, not_out}
use Rattle.fc_collect.proofs.commands.closed.first_out.Goals as goal

pub stays_in-requires : goal.stays_in-requires
stays_in-requires g c =
    let any = move_between (Column 0) Home in
    let (holds, allowed) = listed_there g.R.Rule.game c.args.board.now c.args.moves.now c.loop-at.at _ any c.requires.moves c.loop-at-test.true in
    (get_or (legal_moves g.R.Rule.game c.args.board.now) c.loop-at.at any, holds, allowed)

pub returns-then-not-stays_in : goal.returns-then-not-stays_in
returns-then-not-stays_in g c = λ all member are on.
    let game = g.R.Rule.game in
    let legal = legal_moves game c.args.board.now in
    let any = move_between (Column 0) Home in
    let as_many : length c.args.moves.now ≡ length legal = ap length c.requires.moves ∙ length-map legal move_bytes in
    let within : c.loop-at.at < length legal = omega (arith, as_many, c.loop-at-test.true) in
    let (holds, allowed) = listed_there game c.args.board.now c.args.moves.now c.loop-at.at _ any c.requires.moves c.loop-at-test.true in
    found_out all member legal c.loop-at.at any (c.loop-at.invariant all member are on) within _ holds.1
    (c.stays_in.ensures all member (get_or legal c.loop-at.at any) are on holds ∙ ap not c.if-not-stays_in.true)

pub loop-at-preserved : goal.loop-at-preserved
loop-at-preserved g c = λ all member are on.
    let game = g.R.Rule.game in
    let legal = legal_moves game c.args.board.now in
    let any = move_between (Column 0) Home in
    let as_many : length c.args.moves.now ≡ length legal = ap length c.requires.moves ∙ length-map legal move_bytes in
    let within : c.loop-at.at < length legal = omega (arith, as_many, c.loop-at-test.true) in
    let (holds, allowed) = listed_there game c.args.board.now c.args.moves.now c.loop-at.at _ any c.requires.moves c.loop-at-test.true in
    not_out all member legal c.loop-at.at any (c.loop-at.invariant all member are on) within
    (c.stays_in.ensures all member (get_or legal c.loop-at.at any) are on holds ∙ ap not c.if-not-stays_in.false)

pub returns : goal.returns
returns g c = λ all member are on.
    let legal = legal_moves g.R.Rule.game c.args.board.now in
    let as_many : length c.args.moves.now ≡ length legal = ap length c.requires.moves ∙ length-map legal move_bytes in
    none_out all member legal c.loop-at.at (c.loop-at.invariant all member are on) (omega (arith, as_many, c.loop-at-test.false))
