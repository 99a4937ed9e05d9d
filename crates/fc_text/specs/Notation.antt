-- Moves and lists of moves as text.
use Rattle.std.specs.{List.{AllZip, filter_map, find, join_with_byte}, Option.{is_none}}
use Rattle.std.specs.Prelude.{◌++◌, ◌<◌, ◌==◌, ◌||◌, ◌∷◌, ◌≡◌, ◌≤◌, [], All, Bool, codes, Err}
use Rattle.std.specs.Prelude.{length, List, map, None, Ok, Option, Result, slice_get, slice_index}
use Rattle.std.specs.{Prelude.{Some, take, ℕ}, Str.{str_to_ascii_lowercase}}
use Rattle.fc_card.specs.Types.{Text}
use Rattle.fc_board.specs.{Games.{Game}, Moves.{Fits, MoveList, OneCard, RunFits, Runs}}
use Rattle.fc_board.specs.declared.moves.{Move.{Move}, Place.{Place, TheVariants.{Cell as ToCell}}}
use Rattle.fc_board.specs.declared.moves.Place.TheVariants.{Column as ToColumn, Home}
use Rattle.fc_board.specs.declared.moves.Source.{Source}
use Rattle.fc_board.specs.declared.moves.Source.TheVariants.{Cell as FromCell, Column as FromColumn}
use Rattle.fc_board.specs.declared.run_move.RunMove.{RunMove, TheVariants.{One, Run}}
use Rattle.fc_text.specs.Bytes.{blank, carriage_return, line_feed, tab}
use Rattle.fc_text.specs.Lines.{Piece, words, words_from}

-- ======== Moves and lists of moves as text.

-- -------- Lists of items as text: one token an item, by a relation that says what a token of an item is. From: standard FreeCell move notation, whose moves white space separates; the most moves of a list are this project's profile.

-- blanks, tabs, line feeds and carriage returns separate tokens
abbrev pub separates_tokens : ℕ → Bool
separates_tokens byte = byte == blank || byte == tab || byte == line_feed || byte == carriage_return

-- the most moves that a list may have
abbrev pub most_moves : ℕ
most_moves = 4096

-- the words of the text are one by one tokens of these items
pub record Listed {Item : Type 0} (IsToken : Text → Item → Type 0) (text : Text) (items : List Item) : Type 0 where
  pub tokens : AllZip IsToken (words separates_tokens text) items
  pub at_most : length items ≤ most_moves

-- the word is a token of some item
abbrev pub HasToken : {Item : Type 0} → (Text → Item → Type 0) → Piece → Type 0
HasToken {Item} IsToken word = (item : Item) × IsToken word.bytes item

-- a word that is at fault by how many words come before it, which all are tokens, starts at this place
pub record FaultAt {Item : Type 0} (IsToken : Text → Item → Type 0) (IsFault : ℕ → Piece → Type 0) (text : Text) (place : ℕ) : Type 0 where
  pub good : List Piece
  pub word : Piece
  pub later : List Piece
  pub words_are : words_from separates_tokens 0 text ≡ good ++ word ∷ later
  pub all_good : All (HasToken IsToken) good
  pub is_fault : IsFault (length good) word
  pub starts : word.start ≡ place

-- the first word that is no token starts at this place, and fewer words than a list may have moves come before it
abbrev pub BadTokenAt : {Item : Type 0} → (Text → Item → Type 0) → Text → ℕ → Type 0
BadTokenAt IsToken = FaultAt IsToken (λ before word. (before < most_moves) × (¬ HasToken IsToken word))

-- the first word beyond the most moves of a list starts at this place, and all words before it are tokens
abbrev pub TooManyAt : {Item : Type 0} → (Text → Item → Type 0) → Text → ℕ → Type 0
TooManyAt IsToken = FaultAt IsToken (λ before word. before ≡ most_moves)

-- -------- Moves as text, of one card and of several. From: standard FreeCell move notation; the letters e f g k of the further cells, and v with the number of cards, are this project's profile.

-- ---- one move
-- the digits of the columns, in their order
abbrev pub column_digits : Text
column_digits = codes "12345678"

-- the letters of the cells, in their order; a game of four cells has the first four
abbrev pub cell_letters : Text
cell_letters = codes "abcdefgk"

-- the letter h, which is home
abbrev pub home_letter : ℕ
home_letter = 104

-- the character of what the card is taken from
abbrev pub source_character : Source → ℕ
source_character (FromColumn column) = slice_index column_digits column
source_character (FromCell cell) = slice_index cell_letters cell

-- the character of what the card is put on
abbrev pub target_character : Place → ℕ
target_character (ToColumn column) = slice_index column_digits column
target_character (ToCell cell) = slice_index cell_letters cell
target_character Home = home_letter

-- a move in two characters: its source and its target
abbrev pub token : Move → Text
token move = source_character move.from ∷ target_character move.to ∷ []

-- the word is the token of this move of the game, with letters in either case
abbrev pub IsToken : Game → Text → Move → Type 0
IsToken game word move = Fits game move × (str_to_ascii_lowercase word ≡ token move)

-- ---- one move of several cards
-- the hexadecimal digits, in their order
abbrev pub hexadecimal_digits : Text
hexadecimal_digits = codes "0123456789abcdef"

-- the letter v, before a number of cards
abbrev pub count_letter : ℕ
count_letter = 118

-- the number of cards, where there is one: v and its hexadecimal digit
abbrev pub count_suffix : Option ℕ → Text
count_suffix None = []
count_suffix (Some count) = count_letter ∷ slice_index hexadecimal_digits count ∷ []

-- one card's move in two characters; a run's source and target column, and its number of cards where it has one
abbrev pub run_token : RunMove → Text
run_token (One move) = token move
run_token (Run from to count) = slice_index column_digits from ∷ slice_index column_digits to ∷ count_suffix count

-- the word is the token of this move of the game, with letters in either case
abbrev pub IsRunToken : Game → Text → RunMove → Type 0
IsRunToken game word move = RunFits game move × (str_to_ascii_lowercase word ≡ run_token move)

-- ---- lists of moves
-- the tokens, with one blank between two
abbrev pub print : MoveList → Text
print (OneCard moves) = join_with_byte blank (map token moves)
print (Runs moves) = join_with_byte blank (map run_token moves)

-- a text lists moves of one card, or moves of several
pub data Form : Type 0 where
  OfOneCard : Form
  OfRuns : Form

-- the form of a list
abbrev pub form_of : MoveList → Form
form_of (OneCard moves) = OfOneCard
form_of (Runs moves) = OfRuns

-- the text lists the moves of this list, in this form
abbrev pub Lists : Game → Form → Text → MoveList → Type 0
Lists game OfOneCard text (OneCard moves) = Listed (IsToken game) text moves
Lists game OfRuns text (Runs moves) = Listed (IsRunToken game) text moves
Lists game form text moves = ⊥

-- ======== The moves that a text lists, or its first fault. From: standard FreeCell move notation; the most moves of a list are this project's profile.

-- a word that starts at this place is no token, or it is one more than a list may have moves
pub data ListFault : Type 0 where
  BadToken : (place : ℕ) → ListFault
  TooMany : (place : ℕ) → ListFault

-- by the first of the words that is no token, by the first that is one too many, and by the moves that the words name
abbrev pub fault_or_moves : {Item : Type 0} → Option Piece → Option Piece → List Item → Result (List Item) ListFault
fault_or_moves (Some bad) beyond moves = Err (BadToken bad.start)
fault_or_moves None (Some beyond) moves = Err (TooMany beyond.start)
fault_or_moves None None moves = Ok moves

-- what these words list, where each word names a move or none: a bad token is looked for among as many of them as a list may have moves
abbrev pub listed_by : {Item : Type 0} → (Text → Option Item) → List Piece → Result (List Item) ListFault
listed_by named words =
    fault_or_moves (find (λ word. is_none (named word.bytes)) (take most_moves words)) (slice_get words most_moves)
    (filter_map (λ word. named word.bytes) words)
