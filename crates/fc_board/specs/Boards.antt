-- Boards, and why parts of a board are none.
use Rattle.{arrayvec.specs.ArrayVec.{ArrayVec}, fc_board.specs.Games.{Game}}
use Rattle.std.specs.{List.{flat_map}, Option.{option_to_list}, Prelude.{◌++◌, ◌+◌, ◌==◌, ◌≡◌, ◌≤◌}}
use Rattle.std.specs.Prelude.{All, Bool, count_by, if◌then◌else◌, is_none, length, List, map}
use Rattle.std.specs.Prelude.{nat_le, Option, slice_index, take, ℕ}
use Rattle.fc_card.specs.{count_of, IsCard, IsLowest, places, rank_of, suit_of, Types.{Card, Pile}}
use Rattle.fc_board.specs.declared.fault.DeckFault.{DeckFault}
use Rattle.fc_board.specs.declared.fault.DeckFault.TheVariants.{MissingCard, RepeatedCard}

-- -------- A board of one deck: where each of its 52 cards is. From: the game's rules, which use one deck.

-- the heights of the foundations of C D H S, the cells, and the columns, each with its last card last
pub record Board : Type 0 where
  pub heights : List ℕ
  pub cells : List (Option Card)
  pub columns : List Pile

-- what a foundation can hold
abbrev pub IsHeight : ℕ → Type 0
IsHeight height = height ≤ 13

-- the board with these parts in a game with so many cells, which are the first of those given
abbrev pub board_of_parts : ℕ → List ℕ → List (Option Card) → List (ArrayVec ℕ) → Board
board_of_parts cell_count heights cells columns = record { heights = heights; cells = take cell_count cells; columns = map (λ column. column.items) columns }

-- how many cells hold nothing
abbrev pub empty_cells_of : Board → ℕ
empty_cells_of board = count_by is_none board.cells

-- how many columns have no card
abbrev pub empty_columns_of : Board → ℕ
empty_columns_of board = count_by (λ column. length column == 0) board.columns

-- the cards in the cells and in the columns
abbrev pub cards_in_play : Board → List Card
cards_in_play board = flat_map option_to_list board.cells ++ flat_map (λ column. column) board.columns

-- a foundation of height h holds the cards of its suit with ranks 1 to h
abbrev pub is_home : List ℕ → Card → Bool
is_home heights card = nat_le (rank_of card) (slice_index heights (suit_of card))

-- in how many places the card is
abbrev pub count_of_places : Board → Card → ℕ
count_of_places board card = (if is_home board.heights card then 1 else 0) + count_of card (cards_in_play board)

-- each card of the deck is in exactly one place
abbrev pub HasEachCardOnce : Board → Type 0
HasEachCardOnce board = (card : Card) → IsCard card → count_of_places board card ≡ 1

-- four foundations, the game's cells and eight columns
pub record HasAllPiles (game : Game) (board : Board) : Type 0 where
  pub four_foundations : length board.heights ≡ 4
  pub all_cells : length board.cells ≡ game.cells
  pub eight_columns : length board.columns ≡ 8

-- all piles of the game, heights from 0 to 13, and each card of the deck in exactly one place
pub record IsWellFormed (game : Game) (board : Board) : Type 0 where
  pub piles : HasAllPiles game board
  pub heights : All IsHeight board.heights
  pub cards : All IsCard (cards_in_play board)
  pub one_place : HasEachCardOnce board

-- -------- Why parts of a board are no whole deck: a card is in several places, or nowhere. Of the repeated cards the one of lowest number is named, and of the missing cards the one of lowest number, but only where no card is repeated. From: this project's profile.

-- where each card is in so many places, this is what is wrong with the deck
abbrev pub IsFaultOf : (ℕ → ℕ) → DeckFault → Type 0
IsFaultOf places (RepeatedCard card) = IsLowest (λ other. 2 ≤ places other) card
IsFaultOf places (MissingCard card) = ((other : ℕ) → IsCard other → ¬ (2 ≤ places other)) × IsLowest (λ other. places other ≡ 0) card

-- this is what is wrong with the deck on the board
abbrev pub IsDeckFault : Board → DeckFault → Type 0
IsDeckFault board = IsFaultOf (count_of_places board)
