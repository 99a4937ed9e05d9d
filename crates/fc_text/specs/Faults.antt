-- The first fault of a text that spells no board, item by item in the order of the bytes.
use Rattle.std.specs.List.{find, flat_map, list_any, range_with_len}
use Rattle.std.specs.{Option.{is_some, option_map, option_or, option_to_list}, Prelude.{◌&&◌, ◌++◌}}
use Rattle.std.specs.Prelude.{◌==◌, ◌∷◌, [], Bool, codes, count_by, false, if◌then◌else◌, length}
use Rattle.std.specs.Prelude.{List, map, nat_le, None, not, Option, Some, ℕ}
use Rattle.{fc_board.specs.Games.{Game}, fc_card.specs.{card_of, card_text, Types.{Card, Text}}}
use Rattle.fc_text.specs.{Bytes.{blank}, Rows.{Row, rows_of}}
use Rattle.fc_text.specs.Spelling.{card_spelled, cell_spelled, foundation_spelled, is_section}
use Rattle.fc_text.specs.declared.{
  board.reader.Section.{Section, TheVariants.{Column, Foundations, Freecells}},
  board.spelling.Foundation.{Foundation},
  fault.{BoardFault.{BoardFault}, BoardFaultKind.{BoardFaultKind, TheVariants.{BadCard}}},
  fault.BoardFaultKind.TheVariants.{BadFoundation, MissingCard, RepeatedCard, RepeatedLine},
  fault.BoardFaultKind.TheVariants.{TooManyCells, TooManyColumns},
}

-- -------- The kinds of fault in words. From: this project's profile.

-- the words for a kind of fault
abbrev pub fault_words : BoardFaultKind → Text
fault_words RepeatedLine = codes "repeated line"
fault_words TooManyColumns = codes "too many columns"
fault_words TooManyCells = codes "too many cells"
fault_words BadCard = codes "bad card"
fault_words BadFoundation = codes "bad foundation"
fault_words RepeatedCard = codes "repeated card"
fault_words (MissingCard card) = codes "missing card"

-- and after them the card that is missing, as it is printed
abbrev pub board_reason : BoardFaultKind → Text
board_reason (MissingCard card) = fault_words (MissingCard card) ++ blank ∷ card_text card
board_reason fault = fault_words fault

-- -------- The first fault of a text that spells no board, item by item in the order of the bytes. From: Freecell Solver's board text and this project's profile.

-- ---- items

-- the beginning of a line, its name where it has one, or a word of it
pub record Item : Type 0 where
  pub section : Section
  pub place : ℕ
  pub word : Option Text

abbrev pub items_of_row : Row → List Item
items_of_row row =
    record { section = row.section; place = row.start; word = None }
    ∷ map (λ word. record { section = row.section; place = word.start; word = Some word.bytes }) row.words

-- the items of a text in the order of their bytes
abbrev pub items_of : Text → List Item
items_of text = flat_map items_of_row (rows_of text)

-- how many lines of the section begin among the items
abbrev pub count_of_lines : Section → List Item → ℕ
count_of_lines section items = count_by (λ item. is_section section item.section && not (is_some item.word)) items

-- how many words of the section are among the items
abbrev pub count_of_words : Section → List Item → ℕ
count_of_words section items = count_by (λ item. is_section section item.section && is_some item.word) items

-- ---- what an item names

-- a foundation holds the lowest cards of its suit
abbrev pub cards_at_home : Foundation → List Card
cards_at_home foundation = map (λ rank. card_of rank foundation.suit) (range_with_len 1 foundation.height)

-- the cards that a word of the section names, none where it has no form
abbrev pub cards_of_word : Section → Text → List Card
cards_of_word Foundations word = flat_map cards_at_home (option_to_list (foundation_spelled word))
cards_of_word Freecells word = flat_map option_to_list (option_to_list (cell_spelled word))
cards_of_word Column word = option_to_list (card_spelled word)

abbrev pub cards_of_item : Item → List Card
cards_of_item item = flat_map (cards_of_word item.section) (option_to_list item.word)

-- the suit that a word of the foundations names
abbrev pub suits_of_word : Section → Text → List ℕ
suits_of_word Foundations word = map (λ foundation. foundation.suit) (option_to_list (foundation_spelled word))
suits_of_word section word = []

abbrev pub suits_of_item : Item → List ℕ
suits_of_item item = flat_map (suits_of_word item.section) (option_to_list item.word)

-- one of the numbers is named by an earlier item too
abbrev pub is_repeated : (Item → List ℕ) → List Item → List ℕ → Bool
is_repeated numbers earlier these = list_any (λ number. list_any (λ other. other == number) (flat_map numbers earlier)) these

-- ---- the tests of one item

abbrev pub fault_of_line : Section → List Item → Option BoardFaultKind
fault_of_line Column earlier = if nat_le 8 (count_of_lines Column earlier) then Some TooManyColumns else None
fault_of_line section earlier = if nat_le 1 (count_of_lines section earlier) then Some RepeatedLine else None

-- the word has the form of its section's words
abbrev pub has_form : Section → Text → Bool
has_form Foundations word = is_some (foundation_spelled word)
has_form Freecells word = is_some (cell_spelled word)
has_form Column word = is_some (card_spelled word)

abbrev pub bad_word : Section → BoardFaultKind
bad_word Foundations = BadFoundation
bad_word section = BadCard

-- the cells have no place for one more word
abbrev pub is_past_cells : Game → Section → List Item → Bool
is_past_cells game Freecells earlier = nat_le game.cells (count_of_words Freecells earlier)
is_past_cells game section earlier = false

abbrev pub fault_of_word : Game → List Item → Section → Text → Option BoardFaultKind
fault_of_word game earlier section word =
    if is_past_cells game section earlier then Some TooManyCells
    else if not (has_form section word) then Some (bad_word section)
    else if is_repeated suits_of_item earlier (suits_of_word section word) then Some BadFoundation
    else if is_repeated cards_of_item earlier (cards_of_word section word) then Some RepeatedCard
    else None

-- what is at fault in the line that begins here, or in its word, after these earlier items
abbrev pub fault_of_part : Game → List Item → Section → Option Text → Option BoardFaultKind
fault_of_part game earlier section None = fault_of_line section earlier
fault_of_part game earlier section (Some word) = fault_of_word game earlier section word

abbrev pub fault_of_item : Game → List Item → Item → Option BoardFault
fault_of_item game earlier item =
    option_map (λ kind. record { place = item.place; kind = kind }) (fault_of_part game earlier item.section item.word)

-- ---- the first fault

-- the fault of the first item that is at fault after the earlier ones
abbrev pub first_faulty : Game → List Item → List Item → Option BoardFault
first_faulty game earlier [] = None
first_faulty game earlier (item ∷ items) = option_or (fault_of_item game earlier item) (first_faulty game (earlier ++ item ∷ []) items)

-- the lowest card that is none of these
abbrev pub lowest_missing : List Card → Option Card
lowest_missing cards = find (λ card. not (list_any (λ other. other == card) cards)) (range_with_len 0 52)

-- the lowest card that no item names is missing at the end of the text
abbrev pub missing_card : Text → Option BoardFault
missing_card text =
    option_map (λ card. record { place = length text; kind = MissingCard card }) (lowest_missing (flat_map cards_of_item (items_of text)))

-- the first fault of a text, where it has one
abbrev pub first_fault : Game → Text → Option BoardFault
first_fault game text = option_or (first_faulty game [] (items_of text)) (missing_card text)
