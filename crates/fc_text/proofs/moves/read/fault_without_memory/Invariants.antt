use Rattle.std.proofs.Common.{◌≡◌, length, List, map, ℕ}
use Rattle.fc_text.specs.{Left.{tokens_left}, Lines.{Piece, words_from}, Notation.{separates_tokens}}
use Rattle.fc_text.specs.reader.{ReadSoFar}
use Rattle.fc_text.proofs.moves.read.fault_without_memory.Given as goal

-- so many words are tokens, and the others are left
pub record AreTokens {Item : Type 0} (Names : List ℕ → Item → Type 0) (words left : List Piece) (count : ℕ) : Type 0 where
  pub items : List Item
  pub many : length items ≡ count
  pub read : ReadSoFar Names words left items

abbrev pub invariant-loop-token : goal.invariant-loop-token
invariant-loop-token g l = AreTokens (g.M.Notated.is_token g.R.Rule.game) (words_from separates_tokens 0 l.fn.text) (map (λ word. word.0) (tokens_left l.token-iterator)) l.good
