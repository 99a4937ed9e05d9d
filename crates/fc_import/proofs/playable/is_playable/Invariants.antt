use Rattle.std.{proofs.Common.{◌<◌, [], ℕ}, specs.Prelude.{slice_index_or}}
use Rattle.fc_import.specs.Import.{IsBuilt}
use Rattle.fc_import.proofs.playable.is_playable.Given as goal

-- the columns looked at so far
abbrev pub invariant-loop-index : goal.invariant-loop-index
invariant-loop-index g l = (place : ℕ) → place < l.index → IsBuilt g.R.Rule.game (slice_index_or l.board.columns place [])
