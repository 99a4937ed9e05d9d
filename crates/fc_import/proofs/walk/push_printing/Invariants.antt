use Rattle.std.proofs.Common.{◌++◌, ◌≡◌, drop}
use Rattle.fc_import.specs.inside.{printing}
use Rattle.fc_import.proofs.walk.push_printing.Given as goal

abbrev pub invariant-loop-byte : goal.invariant-loop-byte
invariant-loop-byte l = l.notes.items ++ printing (drop l.byte-index l.words) ≡ l.fn.notes.items ++ printing l.words
