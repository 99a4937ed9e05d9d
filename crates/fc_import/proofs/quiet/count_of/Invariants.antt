use Rattle.std.proofs.Common.{◌+◌, ◌≡◌, ◌≤◌, drop, length}
use Rattle.fc_import.specs.Seen.{cards_of}
use Rattle.fc_import.proofs.quiet.count_of.Given as goal

abbrev pub invariant-loop-one : goal.invariant-loop-one
invariant-loop-one l = record {
  counts : l.count + length (cards_of (drop l.one-index l.placed)) ≡ length (cards_of l.placed);
  few : l.count ≤ l.one-index;
}
