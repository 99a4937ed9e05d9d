use Rattle.std.proofs.Common.{◌≡◌, ◌≤◌, drop, length, replicate, take}
use Rattle.fc_bytes.proofs.passage.order_bytes.Given as goal

abbrev pub invariant-loop-place : goal.invariant-loop-place
invariant-loop-place l = record {
  long : length l.bytes ≡ 8;
  few : length l.order ≤ 8;
  written : take l.place l.bytes ≡ take l.place l.order;
  left : drop l.place l.bytes ≡ drop l.place (replicate 8 0);
}
