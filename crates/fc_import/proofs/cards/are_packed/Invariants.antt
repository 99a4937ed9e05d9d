use Rattle.std.{proofs.Common.{◌-◌, ◌<◌, ◌≡◌, ◌≤◌, None, ℕ}, specs.Prelude.{slice_index_or}}
use Rattle.fc_import.proofs.cards.are_packed.Given as goal

-- the cells looked at so far
abbrev pub invariant-loop-place : goal.invariant-loop-place
invariant-loop-place l = (place : ℕ) → 1 ≤ place → place < l.place → slice_index_or l.cells (place - 1) None ≡ None → slice_index_or l.cells place None ≡ None
