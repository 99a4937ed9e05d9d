use Rattle.std.{proofs.Common.{◌++◌, ◌+◌, ◌-◌, ◌∙◌, ◌≡◌, ◌≤◌, ap, arith, Bool, map, Some, sym, ℕ}, specs.List.{filter}}
use Rattle.std.specs.Option.{is_none}
use Rattle.{fc_board.specs.Steps.{run_refusal}, fc_card.specs.{places}}
use Rattle.fc_board.specs.declared.run_move.RunMove.{RunMove, TheVariants.{Run}}
use Rattle.fc_bytes.{proofs.{ChildrenLemmas.{pushed_more, rest_fails}, RunMoves.{refused_past}}, specs.{run_bytes}}
use Rattle.fc_bytes.proofs.calls.run_moves.push_runs_of_each_count.Goals as goal

pub loop-more-preserved : goal.loop-more-preserved
loop-more-preserved g c =
    let kept = c.loop-more.invariant in
    let allowed : RunMove → Bool = λ run. is_none (run_refusal g.R.Rule.game c.args.board.now run) in
    let run_of : ℕ → RunMove = λ more. Run c.args.pair.from c.args.pair.to (Some (more + 2)) in
    record {
      runs = pushed_more allowed run_of run_bytes c.args.runs.now.items c.loop-more.runs.items c.push_run.new.runs.items c.loop-more.more kept.runs c.push_run.ensures.runs;
      few = omega (arith, kept.few, c.push_run.ensures.few);
    }

pub returns-clause-runs : goal.returns-clause-runs
returns-clause-runs g c =
    let game = g.R.Rule.game in
    let board = c.args.board.now in
    let more = c.loop-more.more in
    let test : RunMove → Bool = λ run. is_none (run_refusal game board run) in
    let run_of : ℕ → RunMove = λ more. Run c.args.pair.from c.args.pair.to (Some (more + 2)) in
    let end = c.loop-more.auto.more-end in
    let least = c.min.ensures in
    let less = c.saturating_sub-more-end.ensures in
    let few : more ≤ 12 = omega (arith, end, least, less) in
    let all : more + (12 - more) ≡ 12 = omega (arith, few) in
    c.loop-more.invariant.runs ∙ ap (λ listed. c.args.runs.now.items ++ map run_bytes listed)
    (sym (ap (λ n. filter test (map run_of (places n))) (sym all) ∙ rest_fails test run_of more (12 - more) (λ k from below.
    refused_past game board c.args.pair.from c.args.pair.to (k + 2)
    (c.requires.columns.0, c.requires.columns.1, (omega arith, omega (arith, below, few)))
    (omega (arith, end, least, less, from, c.loop-more-test.false, c.requires.longest, below, few)))))
