-- What the readers of printed boards and of words of moves keep. What a text says is said without it.
use Rattle.std.specs.List.{AllZip, Contains, flat_map, join_with_byte, list_any, prefix_len}
use Rattle.std.specs.Option.{is_some, option_and_then, option_map, option_or, option_to_list}
use Rattle.std.specs.Prelude.{◌&&◌, ◌*◌, ◌++◌, ◌+◌, ◌-◌, ◌<◌, ◌==◌, ◌||◌, ◌∷◌, ◌≡◌, ◌≢◌, ◌≤◌, []}
use Rattle.std.specs.Prelude.{All, Bool, count_by, drop, Err, false, if◌then◌else◌, IsNone, length}
use Rattle.std.specs.Prelude.{List, map, nat_le, nat_lt, None, not, Ok, Option, position, replicate}
use Rattle.std.specs.Prelude.{Result, set, slice_index, slice_index_or, Some, suc, take, true, zero}
use Rattle.std.specs.{Prelude.{ℕ}, Str.{str_to_ascii_lowercase}}
use Rattle.fc_card.specs.{places, rank_letters, suit_letters, Types.{Card, Pile, Text}}
use Rattle.fc_board.specs.{Boards.{Board}, Games.{Game}, inside.{AreBounds, columns_between}}
use Rattle.fc_board.specs.Moves.{move_between}
use Rattle.fc_board.specs.declared.moves.{Move.{Move}, Place.{Place, TheVariants.{Cell as ToCell}}}
use Rattle.fc_board.specs.declared.moves.Place.TheVariants.{Column as ToColumn, Home}
use Rattle.fc_board.specs.declared.moves.Source.{Source}
use Rattle.fc_board.specs.declared.moves.Source.TheVariants.{Cell as FromCell, Column as FromColumn}
use Rattle.fc_board.specs.declared.run_move.RunMove.{RunMove, TheVariants.{One, Run}}
use Rattle.fc_text.specs.Bytes.{blank, colon, is_gap}
use Rattle.fc_text.specs.Faults.{bad_word, cards_of_word, has_form, Item, items_of_row}
use Rattle.fc_text.specs.{Lines.{Piece, words_from}, Notation.{cell_letters, column_digits}}
use Rattle.fc_text.specs.Notation.{count_letter, HasToken, hexadecimal_digits, home_letter}
use Rattle.fc_text.specs.{Notation.{most_moves, run_token, separates_tokens, token}, Rows.{Blank}}
use Rattle.fc_text.specs.Rows.{column_row, Comment, Content, is_empty, Line, Row, row_of}
use Rattle.fc_text.specs.{Rows.{rows_within}, Spelling.{card_spelled, cell_spelled}}
use Rattle.fc_text.specs.Spelling.{foundation_spelled, is_section, padded_with, rank_spelled}
use Rattle.fc_text.specs.Spelling.{suit_spelled}
use Rattle.fc_text.specs.declared.{
  board.reader.{Kept.{Kept}, Section.{Section, TheVariants.{Column, Foundations, Freecells}}},
  board.spelling.Foundation.{Foundation},
  fault.{BoardFault.{BoardFault}, BoardFaultKind.{BoardFaultKind, TheVariants.{BadFoundation}}},
  fault.BoardFaultKind.TheVariants.{RepeatedCard, RepeatedLine, TooManyCells, TooManyColumns},
}

-- -------- The letters of printed cards by numbers that join to the card's.

-- the number that is spelled, or this one where none is
abbrev pub number_or : ℕ → Option ℕ → ℕ
number_or other None = other
number_or other (Some number) = number

-- the number of the card of clubs with the rank of this letter
abbrev pub rank_part : ℕ → ℕ
rank_part letter = number_or 64 (option_map (λ place. 4 * place) (position (λ known. known == letter) rank_letters))

-- the number of the suit with this letter
abbrev pub suit_part : ℕ → ℕ
suit_part letter = number_or 64 (position (λ known. known == letter) suit_letters)

-- -------- Words of which none begins another.

-- the other word is this one and more
abbrev pub IsProperPrefix : Text → Text → Type 0
IsProperPrefix word other = (rest : Text) × (rest ≢ []) × (other ≡ word ++ rest)

-- none of the words is a proper prefix of another
abbrev pub IsPrefixFree : List Text → Type 0
IsPrefixFree words = (word other : Text) → Contains words word → Contains words other → ¬ IsProperPrefix word other

-- -------- The move that a word names, character by character, as it is read. What a token of a move is is said without it.

-- the index of this character among these
abbrev pub index_among : Text → ℕ → Option ℕ
index_among characters character = position (λ known. known == character) characters

-- a column, or one of the game's cells
abbrev pub source_named : Game → ℕ → Option Source
source_named game character = option_or
    (option_map (λ column. FromColumn column) (index_among column_digits character))
    (option_map (λ cell. FromCell cell) (index_among (take game.cells cell_letters) character))

-- a column, one of the game's cells, or home
abbrev pub target_named : Game → ℕ → Option Place
target_named game character = option_or
    (option_map (λ column. ToColumn column) (index_among column_digits character))
    (option_or
    (option_map (λ cell. ToCell cell) (index_among (take game.cells cell_letters) character))
    (if character == home_letter then Some Home else None))

-- the move that two characters in lower case name
abbrev pub move_of_two : Game → Text → Option Move
move_of_two game (source ∷ target ∷ []) =
    option_and_then (λ from. option_map (λ to. move_between from to) (target_named game target)) (source_named game source)
move_of_two game _ = None

-- the move of the game that the word names
abbrev pub move_named : Game → Text → Option Move
move_named game word = move_of_two game (str_to_ascii_lowercase word)

-- -------- The move of several cards that a word names, character by character, as it is read. What a token of such a move is is said without it.

-- a run of no stated number from column to column, and one card else
abbrev pub run_between : Source → Place → RunMove
run_between (FromColumn from) (ToColumn to) = Run from to None
run_between source target = One (move_between source target)

-- the same as a move of several cards
abbrev pub as_run : Move → RunMove
as_run move = run_between move.from move.to

-- the number of cards that a digit names, 1 to 13
abbrev pub count_named : ℕ → Option ℕ
count_named digit =
    option_and_then (λ count. if nat_le 1 count && nat_le count 13 then Some count else None) (index_among hexadecimal_digits digit)

-- a run with this number of cards, and no move where it is one card's
abbrev pub with_count : RunMove → ℕ → Option RunMove
with_count (One move) count = None
with_count (Run from to other) count = Some (Run from to (Some count))

-- the move that these characters in lower case name: two are its piles, and v and a digit may follow
abbrev pub run_of_word : Game → Text → Option RunMove
run_of_word game (source ∷ target ∷ []) = option_map as_run (move_of_two game (source ∷ target ∷ []))
run_of_word game (source ∷ target ∷ letter ∷ digit ∷ []) =
    if letter == count_letter then option_and_then (λ move. option_and_then (with_count (as_run move)) (count_named digit)) (move_of_two game (source ∷ target ∷ []))
    else None
run_of_word game _ = None

-- the move of the game that the word names
abbrev pub run_named : Game → Text → Option RunMove
run_named game word = run_of_word game (str_to_ascii_lowercase word)

-- -------- How lists of moves are read from the front. What a text lists is said without it.

-- no byte separates words
abbrev pub IsInOnePiece : Text → Type 0
IsInOnePiece bytes = All (λ byte. separates_tokens byte ≡ false) bytes

-- the words before those that are left are one by one tokens of the items, which are as many as a list may have at most
pub record ReadSoFar {Item : Type 0} (Names : Text → Item → Type 0) (words left : List Piece) (items : List Item) : Type 0 where
  pub good : List Piece
  pub words_are : words ≡ good ++ left
  pub named : AllZip Names (map (λ word. word.bytes) good) items
  pub at_most : length items ≤ most_moves

-- the words of the text before this place are tokens of the items
pub record IsReadTo {Item : Type 0} (Names : Text → Item → Type 0) (text : Text) (at : ℕ) (items : List Item) : Type 0 where
  pub within : at ≤ length text
  pub read : ReadSoFar Names (words_from separates_tokens 0 text) (words_from separates_tokens at (drop at text)) items

-- a blank and a word of two bytes come first, and the word is a token of the item
pub record BeginsWithPair {Item : Type 0} (Names : Text → Item → Type 0) (bytes : Text) (item : Item) : Type 0 where
  pub word : Text
  pub names : Names word item
  pub long : 3 ≤ length bytes
  pub words : (start : ℕ) → words_from separates_tokens start bytes ≡ record { start = start + 1; bytes = word } ∷ words_from separates_tokens (start + 3) (drop 3 bytes)

-- the first word is a token
abbrev pub BeginsWithToken : {Item : Type 0} → (Text → Item → Type 0) → Text → Type 0
BeginsWithToken Names text = (word : Piece) × (later : List Piece) × (words_from separates_tokens 0 text ≡ word ∷ later) × HasToken Names word

-- -------- Words of lemmas for the print of lists in one form.

abbrev pub print_moves : List Move → Text
print_moves moves = join_with_byte blank (map token moves)

abbrev pub print_runs : List RunMove → Text
print_runs moves = join_with_byte blank (map run_token moves)

-- -------- How little need be kept of the lines and words that were read, so that the next one can be tried: a text is read in one pass and in fixed memory. What a text spells is said without it.

pub record Known : Type 0 where
  -- whether there was a line of the foundations, and one of the cells
  pub foundations_line : Bool
  pub cells_line : Bool
  -- the heights that were named, by suit; the cells and the columns so far
  pub heights : List (Option ℕ)
  pub cells : List (Option Card)
  pub columns : List Pile
  -- for each card, whether it was named
  pub seen : List Bool

-- no line was read
abbrev pub nothing_known : Known
nothing_known = record {
  foundations_line = false;
  cells_line = false;
  heights = None ∷ None ∷ None ∷ None ∷ [];
  cells = [];
  columns = [];
  seen = replicate 52 false;
}

-- a line that holds something was read
abbrev pub is_begun : Known → Bool
is_begun known = known.foundations_line || known.cells_line || nat_lt 0 (length known.columns)

-- a further column may come
abbrev pub has_room : Known → Bool
has_room known = nat_lt (length known.columns) 8

-- the card was named
abbrev pub is_seen : List Bool → Card → Bool
is_seen seen card = slice_index_or seen card false

-- the suit was named
abbrev pub is_named_suit : List (Option ℕ) → ℕ → Bool
is_named_suit heights suit = is_some (slice_index_or heights suit None)

-- for each card, whether it was named before or is among these
unfoldable pub also_seen : List Bool → List Card → List Bool
also_seen seen cards = map (λ card. is_seen seen card || list_any (λ other. other == card) cards) (places 52)

-- the card at the end of the last column
abbrev pub add_to_last : List Pile → Card → List Pile
add_to_last [] card = []
add_to_last (column ∷ []) card = (column ++ card ∷ []) ∷ []
add_to_last (column ∷ next ∷ columns) card = column ∷ add_to_last (next ∷ columns) card

-- ---- the tests of a line and of a word
abbrev pub known_line_fault : Known → Section → Option BoardFaultKind
known_line_fault known Foundations = if known.foundations_line then Some RepeatedLine else None
known_line_fault known Freecells = if known.cells_line then Some RepeatedLine else None
known_line_fault known Column = if nat_le 8 (length known.columns) then Some TooManyColumns else None

abbrev pub is_full : Game → Known → Section → Bool
is_full game known Freecells = nat_le game.cells (length known.cells)
is_full game known Foundations = false
is_full game known Column = false

-- a suit that the word names was named
abbrev pub renames_suit : Known → Section → Text → Bool
renames_suit known Foundations word = list_any (λ foundation. is_named_suit known.heights foundation.suit) (option_to_list (foundation_spelled word))
renames_suit known Freecells word = false
renames_suit known Column word = false

abbrev pub known_word_fault : Game → Known → Section → Text → Option BoardFaultKind
known_word_fault game known section word =
    if is_full game known section then Some TooManyCells
    else if not (has_form section word) then Some (bad_word section)
    else if renames_suit known section word then Some BadFoundation
    else if list_any (is_seen known.seen) (cards_of_word section word) then Some RepeatedCard
    else None

abbrev pub known_part_fault : Game → Known → Section → Option Text → Option BoardFaultKind
known_part_fault game known section None = known_line_fault known section
known_part_fault game known section (Some word) = known_word_fault game known section word

abbrev pub known_fault : Game → Known → Item → Option BoardFault
known_fault game known item = option_map (λ kind. record { place = item.place; kind = kind }) (known_part_fault game known item.section item.word)

-- ---- what is known after a line and after a word

-- a line of this section begins
abbrev pub is_line_of : Section → Section → Option Text → Bool
is_line_of counted section part = is_section counted section && not (is_some part)

abbrev pub with_foundation : List (Option ℕ) → Option Foundation → List (Option ℕ)
with_foundation heights None = heights
with_foundation heights (Some foundation) = set heights foundation.suit (Some foundation.height)

abbrev pub heights_after : List (Option ℕ) → Section → Option Text → List (Option ℕ)
heights_after heights Foundations None = heights
heights_after heights Foundations (Some word) = with_foundation heights (foundation_spelled word)
heights_after heights Freecells part = heights
heights_after heights Column part = heights

abbrev pub cells_after : List (Option Card) → Section → Option Text → List (Option Card)
cells_after cells Foundations part = cells
cells_after cells Freecells None = cells
cells_after cells Freecells (Some word) = cells ++ option_to_list (cell_spelled word)
cells_after cells Column part = cells

abbrev pub with_card : List Pile → Option ℕ → List Pile
with_card columns None = columns
with_card columns (Some card) = add_to_last columns card

abbrev pub columns_after : List Pile → Section → Option Text → List Pile
columns_after columns Foundations part = columns
columns_after columns Freecells part = columns
columns_after columns Column None = columns ++ [] ∷ []
columns_after columns Column (Some word) = with_card columns (card_spelled word)

abbrev pub seen_after : List Bool → Section → Option Text → List Bool
seen_after seen section None = seen
seen_after seen section (Some word) = also_seen seen (cards_of_word section word)

abbrev pub after_part : Known → Section → Option Text → Known
after_part known section part = record {
  foundations_line = is_line_of Foundations section part || known.foundations_line;
  cells_line = is_line_of Freecells section part || known.cells_line;
  heights = heights_after known.heights section part;
  cells = cells_after known.cells section part;
  columns = columns_after known.columns section part;
  seen = seen_after known.seen section part;
}

abbrev pub after_item : Known → Item → Known
after_item known item = after_part known item.section item.word

-- ---- many items
abbrev pub after_items : Known → List Item → Known
after_items known [] = known
after_items known (item ∷ items) = after_items (after_item known item) items

abbrev pub first_known_fault : Game → Known → List Item → Option BoardFault
first_known_fault game known [] = None
first_known_fault game known (item ∷ items) = option_or (known_fault game known item) (first_known_fault game (after_item known item) items)

-- -------- What the fields that a reader keeps name: its used places are what is known, and its unused ones are empty.

-- where the columns that were begun begin, and where the last one ends
abbrev pub bounds_known : List ℕ → ℕ → ℕ → List ℕ
bounds_known bounds column_lines count = take column_lines bounds ++ count ∷ []

-- where eight columns end: those that were begun, and the others after the last one
abbrev pub ends_known : List ℕ → ℕ → ℕ → List ℕ
ends_known bounds column_lines count = drop 1 (take column_lines bounds ++ replicate (9 - column_lines) count)

-- for each card, whether it was counted
unfoldable pub seen_of : List ℕ → List Bool
seen_of counts = map (λ card. nat_le 1 (slice_index counts card)) (places 52)

-- where the columns of a reader begin, and where the last one ends
abbrev pub bounds_of : Kept → List ℕ
bounds_of kept = bounds_known kept.bounds kept.column_lines kept.card_count

-- what is known, by what is kept
abbrev pub known_of : Kept → Known
known_of kept = record {
  foundations_line = kept.foundations_line;
  cells_line = kept.cells_line;
  heights = kept.heights;
  cells = take kept.cell_words kept.cells;
  columns = columns_between kept.cards (bounds_of kept);
  seen = seen_of kept.seen;
}

-- the card is laid after so many others, and so many cards lie then in so many columns: it lies in the last of them, where there are any
abbrev pub Lays : List ℕ → ℕ → ℕ → Card → List ℕ → ℕ → Type 0
Lays old count zero card new next = (new ≡ set old count card) × (next ≡ count)
Lays old count (suc columns) card new next = (new ≡ set old count card) × (next ≡ count + 1)

-- the arrays have their lengths, the places of cells that are not used are empty, the columns lie one after the other, and no more cards lie than were seen
pub record IsKept (cell_count : ℕ) (kept : Kept) : Type 0 where
  pub four_heights : length kept.heights ≡ 4
  pub eight_cells : length kept.cells ≡ 8
  pub cell_words_fit : kept.cell_words ≤ cell_count
  pub other_cells_empty : All IsNone (drop kept.cell_words kept.cells)
  pub room_for_deck : length kept.cards ≡ 52
  pub nine_bounds : length kept.bounds ≡ 9
  pub column_lines_fit : kept.column_lines ≤ 8
  pub are_bounds : AreBounds (bounds_of kept) 52
  pub cards_are_seen : kept.card_count ≤ count_by (λ was. was) (seen_of kept.seen)

-- -------- The rows that lines give after others, by what is known of these. What the rows of a text are is said without it.

-- the rows of one line, where a line that holds something came before or not, and there is room for a further column or not
abbrev pub rows_of_line : Bool → Bool → Line → List Row
rows_of_line begun room Comment = []
rows_of_line begun room (Blank start) = if begun && room then column_row start [] ∷ [] else []
rows_of_line begun room (Content row) = row ∷ []

-- the rows of lines, of which this many may still be columns
abbrev pub rows_after : Bool → ℕ → List Line → List Row
rows_after true left lines = rows_within left lines
rows_after false left lines = rows_within left (drop (prefix_len is_empty lines) lines)

abbrev pub rows_left : Known → List Line → List Row
rows_left known lines = rows_after (is_begun known) (8 - length known.columns) lines

-- the items of the words of a line
abbrev pub items_of_words : Section → List Piece → List Item
items_of_words section words = map (λ word. record { section = section; place = word.start; word = Some word.bytes }) words

-- the items of a line that comes after what is known
abbrev pub items_of_line : Known → Line → List Item
items_of_line known line = flat_map items_of_row (rows_of_line (is_begun known) (has_room known) line)

-- the items of lines that come after what is known
abbrev pub items_left : Known → List Line → List Item
items_left known lines = flat_map items_of_row (rows_left known lines)

-- -------- What a reader has yet to take, while it goes through the items of a text.

-- of these items those that are left give the same first fault, and the same is known after them
pub record Leaves (game : Game) (old : Known) (items : List Item) (new : Known) (left : List Item) : Type 0 where
  pub faults : first_known_fault game old items ≡ first_known_fault game new left
  pub knows : after_items old items ≡ after_items new left

-- -------- What it is to take one more line or word of a text: it is at fault after what is known, or more is known after it.

-- the beginning of a line, or a word of it, is taken with this result
abbrev pub TakesPart : {X : Type 0} → Game → Known → Section → Option Text → Known → Result X BoardFaultKind → Type 0
TakesPart game old section part new (Ok taken) = (known_part_fault game old section part ≡ None) × (new ≡ after_part old section part)
TakesPart game old section part new (Err kind) = known_part_fault game old section part ≡ Some kind

-- ---- what is known of the board

-- the height of a suit's foundation: 0 where the suit was not named
abbrev pub known_height : Option ℕ → ℕ
known_height None = 0
known_height (Some height) = height

-- the board with the cards that are known: what is not known is empty
abbrev pub board_known : Game → Known → Board
board_known game known = record {
  heights = map known_height known.heights;
  cells = padded_with game.cells None known.cells;
  columns = padded_with 8 [] known.columns;
}

-- ---- many lines and words

-- the items are taken one after another with this result
abbrev pub TakesItems : {X : Type 0} → Game → Known → List Item → Known → Result X BoardFault → Type 0
TakesItems game old items new (Ok taken) = (first_known_fault game old items ≡ None) × (new ≡ after_items old items)
TakesItems game old items new (Err fault) = first_known_fault game old items ≡ Some fault

-- ---- the front of a line

-- the line's row is of this section, and its words come after so many bytes
abbrev pub IsHead : ℕ → Text → Section → ℕ → Type 0
IsHead start bytes section head =
    row_of start bytes ≡ record { section = section; start = start; words = words_from is_gap (start + head) (drop head bytes) }

-- -------- What it is to mark cards that a word names. This project's profile: a card that an earlier word names is a fault.

-- none of the cards was seen and now all are, or one of them was seen before
abbrev pub Sees : {X : Type 0} → List Bool → List Card → List Bool → Result X BoardFaultKind → Type 0
Sees old cards new (Ok taken) = (list_any (is_seen old) cards ≡ false) × (new ≡ also_seen old cards)
Sees old cards new (Err kind) = (list_any (is_seen old) cards ≡ true) × (kind ≡ RepeatedCard) × (new ≡ old)

-- -------- What it is to take the cards at the front of a line's words. What a text spells is said without it.

-- a colon, or the first letter of a name of lines
abbrev pub begins_head : ℕ → Bool
begins_head byte = byte == colon || byte == 68 || byte == 70 || byte == 100 || byte == 102

-- the number of the card of clubs with the rank that the letter spells
abbrev pub clubs_number : ℕ → ℕ
clubs_number letter = number_or 64 (option_map (λ rank. 4 * rank) (rank_spelled (letter ∷ [])))

abbrev pub suit_code : ℕ → ℕ
suit_code letter = number_or 64 (suit_spelled (letter ∷ []))

-- the bytes are a blank and the rest, or both are nothing
abbrev pub AfterBlank : Text → Text → Type 0
AfterBlank [] rest = rest ≡ []
AfterBlank (byte ∷ bytes) rest = (byte ≡ blank) × (rest ≡ bytes)

-- the first word spells the card, and the other words are those of the rest
pub record BeginsWithCard (bytes : Text) (card : Card) (rest : Text) : Type 0 where
  pub word : Text
  pub spelled : card_spelled word ≡ Some card
  pub shorter : length rest < length bytes
  pub words : (start : ℕ) → words_from is_gap start bytes ≡ record { start = start; bytes = word } ∷ words_from is_gap (start + (length bytes - length rest)) rest

-- words of a section are taken from the front, and those of the rest are left
pub record LeavesWords (game : Game) (section : Section) (old : Known) (bytes : Text) (new : Known) (rest : Text) : Type 0 where
  pub within : length rest ≤ length bytes
  pub items : (start : ℕ)
      → Leaves game old (items_of_words section (words_from is_gap start bytes)) new (items_of_words section (words_from is_gap (start + (length bytes - length rest)) rest))
