use Rattle.std.proofs.Common.{◌++◌, ◌≡◌, drop}
use Rattle.fc_import.proofs.cards.push_column.Given as goal

abbrev pub invariant-loop-card : goal.invariant-loop-card
invariant-loop-card l = l.all.items ++ drop l.card-index l.cards ≡ l.fn.all.items ++ l.cards
