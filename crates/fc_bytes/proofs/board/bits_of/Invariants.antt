use Rattle.std.proofs.Common.{◌≡◌, ◌≤◌, List, map, min, take, ℕ}
use Rattle.{fc_bytes.specs.inside.{AreLaid, card_decoded}, fc_card.specs.{AreBitsOf}}
use Rattle.fc_bytes.proofs.board.bits_of.Given as goal

abbrev pub invariant-loop-place : goal.invariant-loop-place
invariant-loop-place l =
    (total : ℕ) (cards : List ℕ) → AreLaid total l.fn.bytes → total ≤ 52 →
    cards ≡ map card_decoded l.fn.bytes → AreBitsOf (take (min l.place total) cards) l.bits
