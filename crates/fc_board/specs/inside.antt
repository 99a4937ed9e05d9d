-- What parts of the code promise one another.
use Rattle.std.specs.{List.{flat_map}, Prelude.{◌+◌, ◌-◌, ◌<◌, ◌∷◌, ◌≡◌, ◌≤◌, [], if◌then◌else◌}}
use Rattle.std.specs.Prelude.{length, List, min, Option, slice_index, slice_index_or, slice_range}
use Rattle.std.specs.Prelude.{suc, take, zero, ℕ}
use Rattle.fc_card.specs.{count_of, IsCard, rank_of, suit_of, Types.{Card, Pile}}
use Rattle.fc_board.specs.{Boards.{Board, is_home}, Steps.{height_of}}
use Rattle.fc_board.specs.declared.moves.Place.{Place, TheVariants.{Cell as ToCell}}
use Rattle.fc_board.specs.declared.moves.Place.TheVariants.{Column as ToColumn, Home}
use Rattle.fc_board.specs.declared.moves.Source.{Source}
use Rattle.fc_board.specs.declared.moves.Source.TheVariants.{Cell as FromCell, Column as FromColumn}

-- -------- Columns that lie end to end in one list of cards, each between two bounds.

-- the columns between each end and the next
abbrev pub columns_from : ℕ → List Card → List ℕ → List Pile
columns_from start cards [] = []
columns_from start cards (end ∷ ends) = slice_range cards start end ∷ columns_from end cards ends

-- the columns between each bound and the next
abbrev pub columns_between : List Card → List ℕ → List Pile
columns_between cards [] = []
columns_between cards (start ∷ ends) = columns_from start cards ends

-- from the start on the ends ascend, up to this place at most
abbrev pub AscendTo : ℕ → List ℕ → ℕ → Type 0
AscendTo start [] most = start ≤ most
AscendTo start (end ∷ ends) most = (start ≤ end) × AscendTo end ends most

-- the bounds begin with 0 and ascend, up to this place at most
abbrev pub AreBounds : List ℕ → ℕ → Type 0
AreBounds [] most = ⊥
AreBounds (start ∷ ends) most = (start ≡ 0) × AscendTo start ends most

-- the bounds, those from this place on so much lower
abbrev pub lowered : ℕ → ℕ → List ℕ → List ℕ
lowered count place [] = []
lowered count zero (end ∷ ends) = (end - count) ∷ lowered count 0 ends
lowered count (suc place) (end ∷ ends) = end ∷ lowered count place ends

-- the bounds, those from this place on so much higher
abbrev pub raised : ℕ → ℕ → List ℕ → List ℕ
raised count place [] = []
raised count zero (end ∷ ends) = (end + count) ∷ raised count 0 ends
raised count (suc place) (end ∷ ends) = end ∷ raised count place ends

-- so many cards before this place were taken out, and those from it on, up to the last, moved on
pub record AreOut (old new : List ℕ) (end count last : ℕ) : Type 0 where
  pub size : length new ≡ length old
  pub before : (k : ℕ) → k < end - count → slice_index new k ≡ slice_index old k
  pub after : (k : ℕ) → end ≤ k → k < last → slice_index new (k - count) ≡ slice_index old k

-- the cards were put at this place, and those from it on, up to the last, moved on
pub record AreIn (old new : List ℕ) (end last : ℕ) (cards : List Card) : Type 0 where
  pub size : length new ≡ length old
  pub before : (k : ℕ) → k < end → slice_index new k ≡ slice_index old k
  pub there : (k : ℕ) → k < length cards → slice_index new (end + k) ≡ slice_index cards k
  pub after : (k : ℕ) → end ≤ k → k < last → slice_index new (k + length cards) ≡ slice_index old k

-- -------- Boards from their parts.

-- the board with these parts
abbrev pub board_with : List ℕ → List (Option Card) → List Pile → Board
board_with heights cells columns = record { heights = heights; cells = cells; columns = columns }

-- the board with these parts in a game with so many cells, which are the first of those given
abbrev pub board_of_laid : ℕ → List ℕ → List (Option Card) → List Pile → Board
board_of_laid cell_count heights cells columns = board_with heights (take cell_count cells) columns

-- -------- How often cards are on a board.

-- new counts each card once more that is on a foundation with these heights
abbrev pub CountsHome : List ℕ → List ℕ → List ℕ → Type 0
CountsHome old new heights = (card : Card) → IsCard card → min (slice_index new card) 2 ≡ min (slice_index old card + (if is_home heights card then 1 else 0)) 2

-- how often the card is on a foundation with these heights or among the cards
abbrev pub times_on_board : List ℕ → List Card → Card → ℕ
times_on_board heights cards card = (if is_home heights card then 1 else 0) + count_of card cards

-- each card is in one place: on a foundation with these heights or among the cards
abbrev pub EachOnce : List ℕ → List Card → Type 0
EachOnce heights cards = (card : Card) → IsCard card → times_on_board heights cards card ≡ 1

-- -------- Room for a card, and a card to take.

-- how many cards the columns hold
abbrev pub size_of : List Pile → ℕ
size_of columns = length (flat_map (λ column. column) columns)

-- the place can hold the card: all columns hold 52 cards at most, and a foundation gets the next of its suit
abbrev pub HasRoomAt : Board → Card → Place → Type 0
HasRoomAt board card (ToColumn column) = size_of board.columns < 52
HasRoomAt board card (ToCell cell) = Unit {0}
HasRoomAt board card Home = height_of board (suit_of card) + 1 ≡ rank_of card

-- where the source is one of the columns, it has a card
abbrev pub HasCard : List Pile → Source → Type 0
HasCard columns (FromColumn column) = 1 ≤ length (slice_index_or columns column [])
HasCard columns (FromCell cell) = Unit {0}
