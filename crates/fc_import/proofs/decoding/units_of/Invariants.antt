use Rattle.std.proofs.Common.{◌++◌, ◌≡◌, length}
use Rattle.fc_import.specs.Words.{units_of}
use Rattle.fc_import.proofs.decoding.units_of.Given as goal

abbrev pub invariant-loop-left : goal.invariant-loop-left
invariant-loop-left l = l.units.items ++ units_of l.high_first l.left ≡ units_of l.high_first l.bytes

abbrev pub decreases-loop-left : goal.decreases-loop-left
decreases-loop-left l = length l.left
