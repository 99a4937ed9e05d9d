use Rattle.std.proofs.Common.{◌<◌, ◌≡◌, false, length, slice_index, slice_index_or, true, ℕ}
use Rattle.fc_bytes.proofs.passage.is_order.Given as goal

abbrev pub invariant-loop-at : goal.invariant-loop-at
invariant-loop-at l = record {
  long : length l.seen ≡ 8;
  within : (k : ℕ) → k < l.at → slice_index l.places k < length l.places;
  marked : (k : ℕ) → k < l.at → slice_index_or l.seen (slice_index l.places k) false ≡ true;
  once : (place : ℕ) → slice_index_or l.seen place false ≡ true → (k : ℕ) × (k < l.at) × (slice_index l.places k ≡ place);
  distinct : (j k : ℕ) → j < l.at → k < l.at → slice_index l.places j ≡ slice_index l.places k → j ≡ k;
}
