use Rattle.std.{proofs.Common.{◌++◌, ◌≡◌, drop}, specs.Str.{str_to_ascii_lowercase}}
use Rattle.fc_import.proofs.moves.push_lower.Given as goal

abbrev pub invariant-loop-letter : goal.invariant-loop-letter
invariant-loop-letter l = l.moves.items ++ str_to_ascii_lowercase (drop l.letter-index l.word) ≡ l.fn.moves.items ++ str_to_ascii_lowercase l.word
