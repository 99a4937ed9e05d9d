-- Lines and words of a text.
use Rattle.std.specs.{List.{AllPairs, Contains, flat_map}, Prelude.{◌++◌, ◌+◌, ◌-◌, ◌<◌, ◌==◌, ◌∷◌}}
use Rattle.std.specs.Prelude.{◌≡◌, ◌≤◌, [], All, Bool, drop, false, if◌then◌else◌, length, List}
use Rattle.std.specs.Prelude.{map, None, Option, Some, take, true, ℕ}
use Rattle.{fc_card.specs.Types.{Text}, fc_text.specs.Bytes.{carriage_return, line_feed}}
use Rattle.fc_text.specs.declared.{lines.Line.{Line as HeldLine}, tokens.Token.{Token}}

-- -------- Pieces of a text: adjacent bytes of it, and the place of the first of them, counted in bytes. Lines and words are pieces. From: the places that this project's profile gives with faults.

-- adjacent bytes of a text, and the place of the first of them
pub record Piece : Type 0 where
  pub start : ℕ
  pub bytes : Text

-- in a text that begins at this place, the bytes of the piece are at its start
pub record IsPieceOf (place : ℕ) (text : Text) (piece : Piece) : Type 0 where
  pub before : Text
  pub after : Text
  pub text_is : text ≡ before ++ (piece.bytes ++ after)
  pub starts : piece.start ≡ place + length before

-- -------- The lines of a text with their places. From: Freecell Solver's board text, with line ends of both kinds.

-- a byte at this place, before the lines that follow it: it begins the first of them
abbrev pub in_line : ℕ → ℕ → List Piece → List Piece
in_line place byte [] = record { start = place; bytes = byte ∷ [] } ∷ []
in_line place byte (line ∷ lines) = record { start = place; bytes = byte ∷ line.bytes } ∷ lines

-- the lines of a text that begins at this place: the pieces that a line feed ends, and what follows the last of these
-- said again: lines_are_found
abbrev pub lines_from : ℕ → Text → List Piece
lines_from place [] = []
lines_from place (byte ∷ rest) =
    if byte == line_feed then record { start = place; bytes = [] } ∷ lines_from (place + 1) rest
    else in_line place byte (lines_from (place + 1) rest)

-- the bytes of lines, each line with a line feed after it
abbrev pub with_line_feeds : List Piece → Text
with_line_feeds lines = flat_map (λ line. line.bytes ++ line_feed ∷ []) lines

-- a line without the carriage return that ends it
abbrev pub trim_carriage_return : Text → Text
trim_carriage_return [] = []
trim_carriage_return (byte ∷ []) = if byte == carriage_return then [] else byte ∷ []
trim_carriage_return (byte ∷ next ∷ rest) = byte ∷ trim_carriage_return (next ∷ rest)

-- the piece that a line is
abbrev pub piece_of : HeldLine → Piece
piece_of line = record { start = line.start; bytes = line.text.now }

-- -------- The words of a text with their places: the longest runs of bytes of which none separates words. Which bytes separate, each kind of text says. From: Freecell Solver's board text and standard FreeCell move notation, whose words white space separates.

-- a byte at this place, before the words that follow it: it begins the first of them where that one is next to it, and else is a word
abbrev pub in_word : ℕ → ℕ → List Piece → List Piece
in_word place byte [] = record { start = place; bytes = byte ∷ [] } ∷ []
in_word place byte (word ∷ words) =
    if word.start == place + 1 then record { start = place; bytes = byte ∷ word.bytes } ∷ words
    else record { start = place; bytes = byte ∷ [] } ∷ word ∷ words

-- the words of a text that begins at this place
abbrev pub words_from : (ℕ → Bool) → ℕ → Text → List Piece
words_from separates place [] = []
words_from separates place (byte ∷ rest) =
    if separates byte then words_from separates (place + 1) rest
    else in_word place byte (words_from separates (place + 1) rest)

-- the words of a text, without their places
abbrev pub words : (ℕ → Bool) → Text → List Text
words separates text = map (λ word. word.bytes) (words_from separates 0 text)

-- -------- The words of a text, by where they are in it. From: Freecell Solver's board text and standard FreeCell move notation, whose words white space separates.

-- one or more bytes of a text that begins at this place, of which none separates, with the ends of the text or bytes that separate around them
pub record IsWord (separates : ℕ → Bool) (place : ℕ) (text : Text) (word : Piece) : Type 0 where
  pub is_piece : IsPieceOf place text word
  pub some_bytes : 0 < length word.bytes
  pub in_one_piece : All (λ byte. separates byte ≡ false) word.bytes
  pub cut_before : (earlier : Text) (byte : ℕ) → is_piece.before ≡ earlier ++ byte ∷ [] → separates byte ≡ true
  pub cut_after : (byte : ℕ) (later : Text) → is_piece.after ≡ byte ∷ later → separates byte ≡ true

-- all words of the text, in the order of their starts
pub record AreWords (separates : ℕ → Bool) (place : ℕ) (text : Text) (words : List Piece) : Type 0 where
  pub all_words : All (IsWord separates place text) words
  pub in_order : AllPairs (λ word later. word.start < later.start) words
  pub complete : (word : Piece) → IsWord separates place text word → Contains words word

-- the piece, that many places later
abbrev pub moved : ℕ → Piece → Piece
moved places piece = record { start = places + piece.start; bytes = piece.bytes }

-- -------- What it is for a word to come next in a line. Which bytes separate words, each kind of text says. From: this project's profile.

-- from this place on the word is the first of the line, or there is none
abbrev pub ComesNext : (ℕ → Bool) → Text → ℕ → Option Token → Type 0
ComesNext separates line at None = words_from separates at (drop at line) ≡ []
ComesNext separates line at (Some word) =
    (words_from separates at (drop at line) ≡ record { start = word.start; bytes = word.text.now } ∷ words_from separates word.end (drop word.end line))
    × (word.start ≤ word.end) × (word.end ≤ length line)

-- -------- The words of a text of moves, each with the place of its end. From: standard FreeCell move notation, whose words white space separates.

-- a word, and the place of what follows it
abbrev pub with_end : Piece → Piece × ℕ
with_end word = (word, word.start + length word.bytes)

-- the word is the slice of the text from its start to its end
abbrev pub IsAtSpan : Text → Piece × ℕ → Type 0
IsAtSpan text (word, end) = word.bytes ≡ take (end - word.start) (drop word.start text)

-- the word that a token is, and the place of what follows it
abbrev pub word_of : Token → Piece × ℕ
word_of token = (record { start = token.start; bytes = token.text.now }, token.end)
