use Rattle.std.proofs.Common.{◌≡◌, drop, length, take}
use Rattle.fc_bytes.proofs.calls.symmetry.put_suits.Given as goal

abbrev pub invariant-loop-place : goal.invariant-loop-place
invariant-loop-place l = record {
  long : length l.suits ≡ length l.fn.suits;
  written : take l.place l.suits ≡ take l.place l.renamings;
  left : drop l.place l.suits ≡ drop l.place l.fn.suits;
}
