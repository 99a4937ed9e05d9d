-- What a writer of boards keeps. What is printed is said without it.
use Rattle.std.specs.Prelude.{◌≡◌, ◌≤◌, length, List, slice_index, ℕ}
use Rattle.fc_card.specs.{IsCard, renamed_card, Types.{Card, Renaming}}
use Rattle.fc_board.specs.{Boards.{Board}, inside.{size_of}}

-- -------- The images of the cards of a deck, and their numbers, by the numbers of the cards.

-- each is the image of its card
abbrev pub AreCardImages : Renaming → List Card → Type 0
AreCardImages renaming images = (card : Card) → IsCard card → slice_index images card ≡ renamed_card renaming card

-- each is the number of some card, plus 1
abbrev pub AreNumbers : List ℕ → Type 0
AreNumbers numbers = (card : Card) → IsCard card → (1 ≤ slice_index numbers card) × (slice_index numbers card ≤ 52)

-- -------- Boards whose printed text has room in 256 bytes, whether or not they are ones of a game.

-- eight columns, and at most eight cells and a deck of cards in columns
pub record IsPrintable (board : Board) : Type 0 where
  pub few_cells : length board.cells ≤ 8
  pub eight_columns : length board.columns ≡ 8
  pub few_cards : size_of board.columns ≤ 52
