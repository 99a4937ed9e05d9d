use Rattle.std.{proofs.Common.{◌<◌, ◌≢◌, [], ℕ}, specs.Prelude.{slice_index_or}}
use Rattle.fc_import.proofs.cards.has_full_columns.Given as goal

-- the columns looked at so far
abbrev pub invariant-loop-index : goal.invariant-loop-index
invariant-loop-index g l = (place : ℕ) → place < l.index → slice_index_or l.board.columns place [] ≢ []
