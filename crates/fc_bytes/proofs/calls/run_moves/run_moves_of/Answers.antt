use Rattle.std.proofs.Common.{◌<◌, ◌∙◌, arith, length, subst}
use Rattle.fc_bytes.{proofs.RunMoves.{counted, put_there}, specs.{legal_runs}}
use Rattle.fc_bytes.proofs.calls.run_moves.run_moves_of.Goals as goal

pub returns-then-runs-len-clause-no_room : goal.returns-then-runs-len-clause-no_room
returns-then-runs-len-clause-no_room g c = λ _.
    let runs = legal_runs g.R.Rule.game c.in-Some.held in
    let items = c.push_legal_runs.new.runs.items in
    let less : length c.args.runs.now < length items = omega (arith, c.if-runs-len.true, c.len.ensures.value) in
    (c.in-Some.held, c.in-Some.ensures.board, subst (λ n. length c.args.runs.now < n) (counted runs items c.push_legal_runs.ensures.runs) less)

pub returns-clause-done : goal.returns-clause-done
returns-clause-done g c = λ _.
    let runs = legal_runs g.R.Rule.game c.in-Some.held in
    let items = c.push_legal_runs.new.runs.items in (
      c.in-Some.held,
      c.in-Some.ensures.board,
      (
        c.len-2.ensures.value ∙ counted runs items c.push_legal_runs.ensures.runs,
        put_there runs c.as_slice.result.now c.args.runs.now c.put_front.new.room (c.as_slice.ensures.value ∙ c.push_legal_runs.ensures.runs) c.put_front.ensures,
      ),
    )
