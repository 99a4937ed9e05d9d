use Rattle.std.{proofs.Common.{◌<◌, ◌≤◌, [], length, ℕ}, specs.Prelude.{slice_index_or}}
use Rattle.fc_import.proofs.cards.are_past.Given as goal

-- the columns looked at so far
abbrev pub invariant-loop-index : goal.invariant-loop-index
invariant-loop-index g l = (place : ℕ) → place < l.index → length (slice_index_or l.board.columns place []) ≤ l.row
