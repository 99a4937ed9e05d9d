-- What iterators over the lines and over the words of a text have left.
use Rattle.std.specs.Prelude.{drop, List, map, ℕ}
use Rattle.fc_text.specs.Lines.{lines_from, Piece, with_end, words_from}
use Rattle.fc_text.specs.Notation.{separates_tokens}
use Rattle.fc_text.specs.declared.{lines.Lines.{Lines}, tokens.Tokens.{Tokens}}

-- the lines of the rest of the text
abbrev pub lines_left : Lines → List Piece
lines_left lines = lines_from lines.at (drop lines.at lines.text.now)

-- the words of the rest of the text
abbrev pub tokens_left : Tokens → List (Piece × ℕ)
tokens_left tokens = map with_end (words_from separates_tokens tokens.at (drop tokens.at tokens.text.now))
