use Rattle.std.proofs.Common.{◌<◌, ◌↔◌, IsTrue, slice_index, ℕ}
use Rattle.fc_bytes.specs.inside.{IsLaid}
use Rattle.fc_bytes.proofs.board.are_laid.Given as goal

abbrev pub invariant-loop-place : goal.invariant-loop-place
invariant-loop-place l = record {
  so_far : IsTrue l.laid ↔ ((at : ℕ) → at < l.place → IsLaid l.total at (slice_index l.bytes at));
}
