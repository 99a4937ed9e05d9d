use Rattle.std.proofs.Common.{◌≡◌, drop, length, map, take}
use Rattle.fc_bytes.specs.{move_bytes}
use Rattle.fc_bytes.proofs.calls.runs.put_moves.Given as goal

abbrev pub invariant-loop-place : goal.invariant-loop-place
invariant-loop-place g l = record {
  long : length l.moves ≡ length l.fn.moves;
  written : take l.place l.moves ≡ map move_bytes (take l.place l.steps);
  left : drop l.place l.moves ≡ drop l.place l.fn.moves;
}
