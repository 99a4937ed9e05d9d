use Rattle.std.proofs.{Common.{◌<◌, ◌∙◌, ◌≡◌, ap, arith, get_or, length}, lemmas.List.{length-map}}
use Rattle.fc_board.specs.{declared.moves.{Place.TheVariants.{Home}, Source.TheVariants.{Column}}, Moves.{move_between}}
use Rattle.fc_bytes.{proofs.LegalMoves.{listed_there}, specs.{legal_moves, move_bytes}}
use Rattle.fc_closed.proofs.OutLemmas.{first_to_lead_out, stay_all, stay_more}
use Rattle.fc_closed.proofs.check.first_out.Goals as goal

pub key_after-requires : goal.key_after-requires
key_after-requires g c =
    let legal = legal_moves g.R.Rule.game c.args.board.now in
    let any = move_between (Column 0) Home in
    let (holds, allowed) = listed_there g.R.Rule.game c.args.board.now c.args.moves.now c.loop-at.at _ any c.requires.moves c.loop-at-test.true in
    (get_or legal c.loop-at.at any, holds, allowed)

pub returns-then-not-is_among-clause-out : goal.returns-then-not-is_among-clause-out
returns-then-not-is_among-clause-out g c =
    let game = g.R.Rule.game in
    let board = c.args.board.now in
    let legal = legal_moves game board in
    let any = move_between (Column 0) Home in
    let as_many : length c.args.moves.now ≡ length legal = ap length c.requires.moves ∙ length-map legal move_bytes in
    let within : c.loop-at.at < length legal = omega (arith, as_many, c.loop-at-test.true) in
    let (holds, allowed) = listed_there game board c.args.moves.now c.loop-at.at _ any c.requires.moves c.loop-at-test.true in (
      get_or legal c.loop-at.at any,
      holds.1,
      first_to_lead_out game g.R.Rule.renamings c.args.keys.now board c.requires.board legal c.loop-at.at any within c.loop-at.invariant
          (c.key_after.result, c.key_after.ensures (get_or legal c.loop-at.at any) holds, c.is_among.ensures.absent c.if-not-is_among.true c.requires.above),
    )

pub loop-at-preserved : goal.loop-at-preserved
loop-at-preserved g c =
    let game = g.R.Rule.game in
    let board = c.args.board.now in
    let legal = legal_moves game board in
    stay_more game g.R.Rule.renamings c.args.keys.now board legal c.loop-at.at c.loop-at.invariant (λ default.
    (c.key_after.result, c.key_after.ensures (get_or legal c.loop-at.at default) (listed_there game board c.args.moves.now c.loop-at.at _ default c.requires.moves c.loop-at-test.true).0, c.is_among.ensures.found c.if-not-is_among.false))

pub returns-clause-stays : goal.returns-clause-stays
returns-clause-stays g c = λ _.
    let game = g.R.Rule.game in
    let board = c.args.board.now in
    let legal = legal_moves game board in
    let as_many : length c.args.moves.now ≡ length legal = ap length c.requires.moves ∙ length-map legal move_bytes in
    stay_all game g.R.Rule.renamings c.args.keys.now board c.requires.board legal c.loop-at.at (omega (arith, as_many, c.loop-at-test.false)) c.loop-at.invariant
