use Rattle.std.proofs.Common.{◌<◌, ◌≡◌, cond, get_or, length, nat_lt, ℕ}
use Rattle.fc_bytes.proofs.laid.bytes_before.Given as goal

abbrev pub invariant-loop-place : goal.invariant-loop-place
invariant-loop-place l = record {
  long : length l.before ≡ 52;
  so_far : (k : ℕ) → k < l.place → get_or l.before k 0 ≡ cond (nat_lt k l.end) (get_or l.bytes k 0) 0;
}
