use Rattle.std.{proofs.Common.{◌*◌, ◌≡◌, ◌≤◌, length, map}, specs.List.{flat_map}}
use Rattle.{fc_bytes.specs.{legal_runs_from, run_bytes}, fc_card.specs.{places}}
use Rattle.fc_bytes.proofs.calls.run_moves.push_legal_runs.Given as goal

abbrev pub invariant-loop-from : goal.invariant-loop-from
invariant-loop-from g l = record {
  runs : l.runs.items ≡ map run_bytes (flat_map (legal_runs_from g.R.Rule.game l.fn.board) (places l.from));
  few : length l.runs.items ≤ 84 * l.from;
}
