use Rattle.std.{proofs.{Common.{◌++◌, ◌∙◌, ◌≡◌, ap, arith, map, sym}, lemmas.List.{map-append}}, specs.List.{flat_map}}
use Rattle.fc_card.specs.{places}
use Rattle.fc_bytes.{proofs.{ChildrenLemmas.{source_more}, RunMoves.{exactly}}, specs.{legal_runs_from, run_bytes}}
use Rattle.fc_bytes.proofs.calls.run_moves.push_legal_runs.Goals as goal

pub loop-from-preserved : goal.loop-from-preserved
loop-from-preserved g c =
    let kept = c.loop-from.invariant in
    let from = c.loop-from.from in
    let of_column = legal_runs_from g.R.Rule.game c.args.board.now in
    let before = flat_map of_column (places from) in
    record {
      runs = c.push_runs_from.ensures.runs ∙ ap (λ front. front ++ map run_bytes (of_column from)) kept.runs
          ∙ sym (ap (map run_bytes) (source_more of_column from) ∙ map-append run_bytes before (of_column from));
      few = omega (arith, c.push_runs_from.ensures.few, kept.few);
    }

pub returns-clause-runs : goal.returns-clause-runs
returns-clause-runs g c =
    let all : c.loop-from.from ≡ 8 = omega (arith, c.loop-from-test.false, c.loop-from.auto.from-end) in
    c.loop-from.invariant.runs ∙ ap (λ n. map run_bytes (flat_map (legal_runs_from g.R.Rule.game c.args.board.now) (places n))) all

pub returns-clause-exactly : goal.returns-clause-exactly
returns-clause-exactly g c = λ run. exactly g.R.Rule.game c.args.board.now run
