use Rattle.std.{proofs.Common.{◌<◌, ◌≡◌, true, ℕ}, specs.Prelude.{slice_index}}
use Rattle.fc_import.specs.inside.{is_alone}
use Rattle.fc_import.proofs.signs.are_alone.Given as goal

-- the bytes looked at so far
abbrev pub invariant-loop-byte : goal.invariant-loop-byte
invariant-loop-byte l = l.are_alone ≡ true → (place : ℕ) → place < l.byte-index → is_alone (slice_index l.text place) ≡ true
