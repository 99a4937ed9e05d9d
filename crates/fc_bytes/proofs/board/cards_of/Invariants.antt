use Rattle.std.proofs.Common.{◌≡◌, length, map, take}
use Rattle.fc_bytes.specs.inside.{card_decoded}
use Rattle.fc_bytes.proofs.board.cards_of.Given as goal

abbrev pub invariant-loop-at : goal.invariant-loop-at
invariant-loop-at l = (length l.cards ≡ 52) × (take l.at l.cards ≡ map card_decoded (take l.at l.bytes))
