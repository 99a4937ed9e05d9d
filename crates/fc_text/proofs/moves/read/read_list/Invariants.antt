use Rattle.std.proofs.Common.{map}
use Rattle.fc_text.specs.{Left.{tokens_left}, Lines.{words_from}, Notation.{separates_tokens}, reader.{ReadSoFar}}
use Rattle.fc_text.proofs.moves.read.read_list.Given as goal

abbrev pub invariant-loop-token : goal.invariant-loop-token
invariant-loop-token g l = ReadSoFar (g.M.Notated.is_token g.R.Rule.game) (words_from separates_tokens 0 l.fn.text) (map (λ word. word.0) (tokens_left l.token-iterator)) l.moves.items
