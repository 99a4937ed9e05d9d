-- The printed text of a board: ten lines, each ended by a line feed.
use Rattle.std.specs.List.{flat_map}
use Rattle.std.specs.Prelude.{◌++◌, ◌∷◌, [], codes, List, None, Option, slice_index, Some, ℕ}
use Rattle.fc_card.specs.{card_text, rank_letters, suit_letter, Types.{Card, Pile, Text}}
use Rattle.{fc_board.specs.Boards.{Board}, fc_text.specs.Bytes.{blank, colon, dash, line_feed}}

-- -------- The printed text of a board: ten lines, each ended by a line feed. From: Freecell Solver's board text.

-- 0, and the letters of the ranks that a foundation can end at
abbrev pub height_letters : Text
height_letters = codes "0" ++ rank_letters

abbrev pub height_letter : ℕ → ℕ
height_letter height = slice_index height_letters height

-- a blank, the suit, a dash and the height of its foundation
abbrev pub height_word : List ℕ → ℕ → Text
height_word heights suit = blank ∷ suit_letter suit ∷ dash ∷ height_letter (slice_index heights suit) ∷ []

-- the foundations are printed in the order H C D S
abbrev pub printed_suits : List ℕ
printed_suits = 2 ∷ 0 ∷ 1 ∷ 3 ∷ []

abbrev pub foundations_line : List ℕ → Text
foundations_line heights = codes "Foundations:" ++ flat_map (height_word heights) printed_suits ++ line_feed ∷ []

-- a blank and the card
abbrev pub card_word : Card → Text
card_word card = blank ∷ card_text card

-- a blank, and the card or a dash
abbrev pub cell_word : Option Card → Text
cell_word None = blank ∷ dash ∷ []
cell_word (Some card) = card_word card

abbrev pub cells_line : List (Option Card) → Text
cells_line cells = codes "Freecells:" ++ flat_map cell_word cells ++ line_feed ∷ []

abbrev pub column_line : Pile → Text
column_line column = colon ∷ flat_map card_word column ++ line_feed ∷ []

abbrev pub text_of : Board → Text
text_of board = foundations_line board.heights ++ cells_line board.cells ++ flat_map column_line board.columns
