use Rattle.std.proofs.Common.{◌≡◌, take, true}
use Rattle.fc_text.proofs.printed.are_same.Given as goal

abbrev pub invariant-loop-at : goal.invariant-loop-at
invariant-loop-at g l = (l.same ≡ true → take l.at l.these ≡ take l.at l.those) × (l.these ≡ l.those → l.same ≡ true)
