use Rattle.std.proofs.Common.{◌++◌, ◌≡◌, false, List, ℕ}
use Rattle.fc_import.specs.Words.{letters_of}
use Rattle.fc_import.proofs.signs.with_letters.Given as goal

-- what was put is what stands for the characters so far, whatever comes after them
abbrev pub invariant-loop-sign : goal.invariant-loop-sign
invariant-loop-sign l = (rest : List ℕ)
    → letters_of false (l.yielded ++ rest) ≡ l.made.items ++ letters_of l.is_after_return rest
