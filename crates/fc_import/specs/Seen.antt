-- What is promised of a line that was seen and heard.
use Rattle.std.specs.{List.{flat_map, list_all}, Option.{option_to_list}}
use Rattle.std.specs.Prelude.{◌-◌, ◌^◌, ◌≡◌, drop, length, List, map, min, ℕ}
use Rattle.{fc_board.specs.Games.{Game}, fc_card.specs.Types.{Card, Text}}
use Rattle.fc_text.specs.Lines.{Piece, with_end, words_from}
use Rattle.fc_import.specs.Scan.{is_number, parts_words, Said, said_in, words_of}
use Rattle.fc_import.specs.declared.{hearing.LineHeard.{LineHeard}, moves.Heard.{Heard}}
use Rattle.fc_import.specs.declared.{scan.{LineSeen.{LineSeen}, Placed.{Placed}}, words.Word.{Word}}
use Rattle.fc_import.specs.declared.words.Words.{Words}

-- the piece that a word is, and its end
abbrev pub piece_of : Word → Piece × ℕ
piece_of word = (record { start = word.start; bytes = word.text.now }, word.end)

-- the words of the rest of the text
abbrev pub words_left : Words → List (Piece × ℕ)
words_left words = map with_end (words_from parts_words words.at (drop words.at words.text.now))

-- what was said, by these moves and what is kept beside them
abbrev pub said_of : (moves : Text) → Heard → Said
said_of moves heard = record { moves = moves; from = heard.from; arrow = heard.arrow; all = heard.all; sure = heard.sure; led = heard.led }

-- the cards among cards and gaps
abbrev pub cards_of : List Placed → List Card
cards_of placed = flat_map (λ one. option_to_list one.card) placed

-- the line was seen
pub record IsSeen (line : Text) (seen : LineSeen) : Type 0 where
  pub words : seen.words ≡ min (length (words_of line)) (2 ^ 64 - 1)
  pub numbers : seen.numbers ≡ list_all (λ word. is_number word.0.bytes) (words_of line)

-- the line was heard, and these are its moves
abbrev pub IsHeard : Game → (line moves : Text) → LineHeard → Type 0
IsHeard game line moves heard = said_of moves heard.heard ≡ said_in game line
