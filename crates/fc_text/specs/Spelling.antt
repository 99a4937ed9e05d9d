-- What it is that a text spells a board.
use Rattle.std.specs.{Char.{to_ascii_uppercase}, List.{filter, filter_map, flat_map, list_any}}
use Rattle.std.specs.{Option.{option_and_then, option_map}, Prelude.{◌++◌, ◌+◌, ◌-◌, ◌<◌, ◌==◌}}
use Rattle.std.specs.Prelude.{◌||◌, ◌∷◌, ◌≡◌, ◌≤◌, [], Bool, codes, count_by, drop, false}
use Rattle.std.specs.Prelude.{if◌then◌else◌, length, List, map, None, not, Option, position}
use Rattle.std.specs.Prelude.{replicate, Some, take, true, ℕ}
use Rattle.std.specs.Str.{bytes_eq, str_to_ascii_lowercase}
use Rattle.fc_card.specs.{card_of, rank_letters, suit_letters, Types.{Card, Pile, Text}}
use Rattle.fc_board.specs.{Boards.{Board, IsWellFormed}, Games.{Game}}
use Rattle.fc_text.specs.{Bytes.{colon, dash, is_gap, star}, Lines.{Piece, words, words_from}}
use Rattle.fc_text.specs.Rows.{Blank, column_row, Comment, Content, is_empty, Line, Row, row_of}
use Rattle.fc_text.specs.Rows.{rows_of}
use Rattle.fc_text.specs.declared.board.reader.Section.{Section}
use Rattle.fc_text.specs.declared.board.reader.Section.TheVariants.{Column, Foundations, Freecells}
use Rattle.fc_text.specs.declared.board.spelling.Foundation.{Foundation}

-- -------- The words of cards, cells and heights, in either case. From: Freecell Solver's board text; `1` for the ace is this project's profile.

-- the place of a word of one letter, in either case, among these letters
abbrev pub letter_spelled : Text → Text → Option ℕ
letter_spelled letters [] = None
letter_spelled letters (letter ∷ []) = position (λ known. known == to_ascii_uppercase letter) letters
letter_spelled letters (letter ∷ next ∷ rest) = None

-- a suit by its number: its letter
abbrev pub suit_spelled : Text → Option ℕ
suit_spelled word = letter_spelled suit_letters word

-- a rank, counted from 0: its letter, or 10 for the ten and 1 for the ace
abbrev pub rank_spelled : Text → Option ℕ
rank_spelled word =
    if bytes_eq word (codes "10") then Some 9
    else if bytes_eq word (codes "1") then Some 0
    else letter_spelled rank_letters word

-- a height: 0, or the rank that it ends with
abbrev pub height_spelled : Text → Option ℕ
height_spelled word = if bytes_eq word (codes "0") then Some 0 else option_map (λ rank. rank + 1) (rank_spelled word)

-- the card that a word spells: a rank, and a suit of one letter
abbrev pub card_spelled : Text → Option Card
card_spelled word =
    let letters = length word - 1 in
    option_and_then (λ rank. option_map (λ suit. card_of (rank + 1) suit) (suit_spelled (drop letters word))) (rank_spelled (take letters word))

-- a dash or a star
abbrev pub is_empty_mark : Text → Bool
is_empty_mark word = bytes_eq word (dash ∷ []) || bytes_eq word (star ∷ [])

-- what a word of the cells spells: an empty cell, or a card in one
abbrev pub cell_spelled : Text → Option (Option Card)
cell_spelled word = if is_empty_mark word then Some None else option_map (λ card. Some card) (card_spelled word)

-- the foundation that a word spells: a suit of one letter, a dash, and a height
abbrev pub foundation_spelled : Text → Option Foundation
foundation_spelled (letter ∷ mark ∷ rest) =
    if mark == dash then option_and_then (λ suit. option_map (λ height. record { suit = suit; height = height }) (height_spelled rest)) (suit_spelled (letter ∷ []))
    else None
foundation_spelled _ = None

-- -------- What it is that a text spells a board, line by line. From: Freecell Solver's board text and this project's profile.

-- ---- the lines of one section, and their words

abbrev pub is_section : Section → Section → Bool
is_section Foundations Foundations = true
is_section Freecells Freecells = true
is_section Column Column = true
is_section _ _ = false

abbrev pub lines_of : Section → List Row → List Row
lines_of section rows = filter (λ row. is_section section row.section) rows

abbrev pub words_of : Section → List Row → List Piece
words_of section rows = flat_map (λ row. row.words) (lines_of section rows)

-- ---- words that spell items

-- the words spell the items one by one
abbrev pub OneByOne : {X : Type 0} → (Text → Option X) → List Piece → List X → Type 0
OneByOne spelled words items = map (λ word. spelled word.bytes) words ≡ map Some items

-- the items take the first places, and the other places are empty
abbrev pub padded_with : {X : Type 0} → ℕ → X → List X → List X
padded_with places empty items = items ++ replicate (places - length items) empty

-- how many of the foundations are of the suit
abbrev pub count_of_suit : ℕ → List Foundation → ℕ
count_of_suit suit foundations = count_by (λ foundation. foundation.suit == suit) foundations

-- the height of a suit's foundation: 0 where the suit is not named
abbrev pub height_in : List Foundation → ℕ → ℕ
height_in [] suit = 0
height_in (foundation ∷ foundations) suit = if foundation.suit == suit then foundation.height else height_in foundations suit

-- the heights of C D H S
abbrev pub heights_of : List Foundation → List ℕ
heights_of foundations = map (height_in foundations) (0 ∷ 1 ∷ 2 ∷ 3 ∷ [])

-- ---- the relation

-- said again: faultless_texts_spell_one_board
pub record Spells (game : Game) (text : Text) (board : Board) : Type 0 where
  -- what the words spell
  pub foundations : List Foundation
  pub cells : List (Option Card)
  pub columns : List Pile
  -- there is at most one line of the foundations; its words are of distinct suits, and give the heights
  pub one_foundations_line : length (lines_of Foundations (rows_of text)) ≤ 1
  pub foundations_spelled : OneByOne foundation_spelled (words_of Foundations (rows_of text)) foundations
  pub distinct_suits : (suit : ℕ) → count_of_suit suit foundations ≤ 1
  pub heights_given : board.heights ≡ heights_of foundations
  -- there is at most one line of the cells; its words spell the first cells
  pub one_cells_line : length (lines_of Freecells (rows_of text)) ≤ 1
  pub cells_spelled : OneByOne cell_spelled (words_of Freecells (rows_of text)) cells
  pub cells_fit : length cells ≤ game.cells
  pub cells_given : board.cells ≡ padded_with game.cells None cells
  -- there are at most eight lines of columns; the words of each spell the cards of a column
  pub columns_fit : length columns ≤ 8
  pub columns_spelled : map (λ row. map (λ word. card_spelled word.bytes) row.words) (lines_of Column (rows_of text)) ≡ map (map (λ card. Some card)) columns
  pub columns_given : board.columns ≡ padded_with 8 [] columns
  pub well_formed : IsWellFormed game board

-- -------- What it is that a name begins the lines of a section. From: Freecell Solver's board text.

-- a line that begins with this name, in any case, and a colon is of this section, and its words are those after the colon
abbrev pub NamesRow : Section → Text → Type 0
NamesRow section name =
    (start : ℕ) (spelled rest : Text) → str_to_ascii_lowercase spelled ≡ name
    → row_of start (spelled ++ colon ∷ rest) ≡ record { section = section; start = start; words = words_from is_gap (start + (length spelled + 1)) rest }

-- -------- Which lines of a board's text are rows, by the lines that come before each. A blank line is an empty column, but for those before the first line that is neither blank nor a comment and after the eighth column. From: this project's profile.

-- a line that is neither blank nor a comment is among these
abbrev pub HoldSomething : List Line → Type 0
HoldSomething lines = list_any (λ line. not (is_empty line)) lines ≡ true

-- fewer than eight of the rows are columns
abbrev pub HaveRoom : List Row → Type 0
HaveRoom rows = length (lines_of Column rows) < 8

-- the rows of lines, up to each line from those of the lines before it
pub data AreRows : List Line → List Row → Type 0 where
  none : AreRows [] []
  comment : {lines : List Line} {rows : List Row} → AreRows lines rows → AreRows (lines ++ Comment ∷ []) rows
  held : {lines : List Line} {rows : List Row} → AreRows lines rows → (row : Row) → AreRows (lines ++ Content row ∷ []) (rows ++ row ∷ [])
  empty_column : {lines : List Line} {rows : List Row} → AreRows lines rows → (start : ℕ) → HoldSomething lines → HaveRoom rows
      → AreRows (lines ++ Blank start ∷ []) (rows ++ column_row start [] ∷ [])
  blank_before_all : {lines : List Line} {rows : List Row} → AreRows lines rows → (start : ℕ) → ¬ HoldSomething lines → AreRows (lines ++ Blank start ∷ []) rows
  blank_after_all : {lines : List Line} {rows : List Row} → AreRows lines rows → (start : ℕ) → ¬ HaveRoom rows → AreRows (lines ++ Blank start ∷ []) rows

-- -------- The board that the words of a text give, where none of them is at fault. From: Freecell Solver's board text and this project's profile.

-- what the words spell, without those that spell nothing
abbrev pub all_spelled : {X : Type 0} → (Text → Option X) → List Piece → List X
all_spelled spelled words = filter_map (λ word. spelled word.bytes) words

abbrev pub board_of : Game → Text → Board
board_of game text = record {
  heights = heights_of (all_spelled foundation_spelled (words_of Foundations (rows_of text)));
  cells = padded_with game.cells None (all_spelled cell_spelled (words_of Freecells (rows_of text)));
  columns = padded_with 8 [] (map (λ row. all_spelled card_spelled row.words) (lines_of Column (rows_of text)));
}
