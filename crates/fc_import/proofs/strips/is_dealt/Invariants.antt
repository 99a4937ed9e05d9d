use Rattle.std.{proofs.Common.{◌<◌, ◌≡◌, [], if◌then◌else◌, length, ℕ}, specs.Prelude.{nat_lt, slice_index_or}}
use Rattle.fc_import.proofs.strips.is_dealt.Given as goal

-- the columns looked at so far
abbrev pub invariant-loop-number : goal.invariant-loop-number
invariant-loop-number g l =
    (place : ℕ) → place < l.number
    → length (slice_index_or l.board.columns place []) ≡ (if nat_lt place 4 then 7 else 6)
