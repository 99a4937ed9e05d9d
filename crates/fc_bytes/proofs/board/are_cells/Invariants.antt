use Rattle.std.proofs.Common.{◌<◌, ◌↔◌, ◌≤◌, IsTrue, slice_index, ℕ}
use Rattle.fc_bytes.proofs.board.are_cells.Given as goal

abbrev pub invariant-loop-place : goal.invariant-loop-place
invariant-loop-place l = record {
  so_far : IsTrue l.good ↔ ((at : ℕ) → at < l.place → slice_index l.bytes at ≤ 52);
}
