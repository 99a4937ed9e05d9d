use Rattle.std.{proofs.Common.{◌-◌, ◌<◌, ◌≤◌, ℕ}, specs.Prelude.{slice_index}}
use Rattle.fc_board.specs.Games.{Builds}
use Rattle.fc_import.proofs.playable.is_built.Given as goal

-- the cards looked at so far go on those before them
abbrev pub invariant-loop-place : goal.invariant-loop-place
invariant-loop-place g l =
    (place : ℕ) → 7 ≤ place → place < l.place → Builds g.R.Rule.game (slice_index l.column place) (slice_index l.column (place - 1))
