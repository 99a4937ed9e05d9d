use Rattle.std.proofs.Common.{◌<◌, ◌≡◌, get_or, length, ℕ}
use Rattle.fc_deal.proofs.shuffle.whole_deck.Given as goal

abbrev pub invariant-loop-number : goal.invariant-loop-number
invariant-loop-number l = (length l.cards ≡ 52) × ((place : ℕ) → place < l.number → get_or l.cards place 0 ≡ place)
