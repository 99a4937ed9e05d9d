use Rattle.std.proofs.Common.{◌≡◌}
use Rattle.fc_import.specs.Seen.{cards_of}
use Rattle.fc_import.proofs.scan.push_gaps.Given as goal

abbrev pub invariant-loop-gap : goal.invariant-loop-gap
invariant-loop-gap l = cards_of l.placed.items ≡ cards_of l.fn.placed.items
