use Rattle.std.proofs.Common.{◌≡◌, length}
use Rattle.fc_import.specs.Scan.{are_cards}
use Rattle.fc_import.proofs.moves.are_cards.Given as goal

abbrev pub invariant-loop-left : goal.invariant-loop-left
invariant-loop-left l = are_cards l.left ≡ are_cards l.word

abbrev pub decreases-loop-left : goal.decreases-loop-left
decreases-loop-left l = length l.left
