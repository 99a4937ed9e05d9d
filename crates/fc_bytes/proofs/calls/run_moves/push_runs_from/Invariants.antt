use Rattle.std.{proofs.Common.{◌*◌, ◌++◌, ◌+◌, ◌<◌, ◌≡◌, ◌≤◌, length, map}, specs.List.{flat_map}}
use Rattle.{fc_bytes.specs.{legal_runs_between, run_bytes}, fc_card.specs.{places}}
use Rattle.fc_bytes.proofs.calls.run_moves.push_runs_from.Given as goal

abbrev pub invariant-loop-to : goal.invariant-loop-to
invariant-loop-to g l = record {
  runs : l.runs.items ≡ l.fn.runs.items ++ map run_bytes (flat_map (legal_runs_between g.R.Rule.game l.fn.board l.fn.from) (places l.to));
  few : length l.runs.items ≤ length l.fn.runs.items + 12 * l.to;
  fewer : l.fn.from < l.to → length l.runs.items + 12 ≤ length l.fn.runs.items + 12 * l.to;
}
