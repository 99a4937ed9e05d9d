use Rattle.std.{proofs.Common.{◌++◌, ◌+◌, ◌≡◌, ◌≤◌, length, map, Some}, specs.{List.{filter}, Option.{is_none}}}
use Rattle.{fc_board.specs.{declared.run_move.RunMove.TheVariants.{Run}, Steps.{run_refusal}}, fc_card.specs.{places}}
use Rattle.fc_bytes.specs.{run_bytes}
use Rattle.fc_bytes.proofs.calls.run_moves.push_runs_of_each_count.Given as goal

abbrev pub invariant-loop-more : goal.invariant-loop-more
invariant-loop-more g l = record {
  runs : l.runs.items ≡ l.fn.runs.items ++ map run_bytes
      (filter (λ run. is_none (run_refusal g.R.Rule.game l.fn.board run)) (map (λ more. Run l.fn.pair.from l.fn.pair.to (Some (more + 2))) (places l.more)));
  few : length l.runs.items ≤ length l.fn.runs.items + l.more;
}
