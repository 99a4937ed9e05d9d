-- What is read of bytes, and which bytes are the codes of what is read of them.
use Rattle.std.specs.{List.{sum}, Option.{unwrap_or}, Prelude.{◌%◌, ◌*◌, ◌+◌, ◌-◌, ◌<◌, ◌==◌, ◌^◌}}
use Rattle.std.specs.Prelude.{◌↔◌, ◌∷◌, ◌≡◌, ◌≤◌, [], All, Bool, drop, false, if◌then◌else◌, length}
use Rattle.std.specs.Prelude.{List, map, min, nat_le, nat_lt, None, Option, slice_index}
use Rattle.std.specs.Prelude.{slice_index_or, Some, take, true, ℕ}
use Rattle.fc_card.specs.{rank_of, renamed_code, Types.{Card, Pile, Renaming}}
use Rattle.fc_board.specs.{Boards.{Board}, Games.{Game}, Moves.{move_between}}
use Rattle.fc_board.specs.Steps.{column_at, column_refusal, last_card}
use Rattle.fc_board.specs.declared.moves.{Move.{Move}, Place.{Place}}
use Rattle.fc_board.specs.declared.moves.Place.TheVariants.{Cell as ToCell, Column as ToColumn}
use Rattle.fc_board.specs.declared.moves.Source.{Source}
use Rattle.fc_board.specs.declared.moves.Source.TheVariants.{Cell as FromCell, Column as FromColumn}
use Rattle.fc_board.specs.declared.run_move.RunMove.{RunMove, TheVariants.{One, Run}}
use Rattle.fc_bytes.specs.class_hash.{card_weight, least_sum, moved_sums, place_weight}
use Rattle.fc_bytes.specs.class_hash.{renamed_place, sums_in, turned}
use Rattle.fc_bytes.specs.declared.{board.BoardBytes.{BoardBytes}, class_hash.MovedSums.{MovedSums}}
use Rattle.fc_bytes.specs.declared.class_hash.PlacedWord.{PlacedWord}

-- the byte of a card
abbrev pub card_byte : ℕ → ℕ
card_byte card = card + 1

-- the card that the byte is, if any
abbrev pub cell_decoded : ℕ → Option Card
cell_decoded byte = if byte == 0 then None else if nat_lt (byte - 1) 52 then Some (byte - 1) else None

-- and else AC
abbrev pub card_decoded : ℕ → ℕ
card_decoded byte = unwrap_or (cell_decoded byte) 0

-- how many of the cards that are left the next column takes
abbrev pub next_count : ℕ → List Card → ℕ
next_count count cards = min count (length cards)

-- ---- bytes that are the codes of what is read of them
-- the byte is that of a card
abbrev pub IsCardByte : ℕ → Type 0
IsCardByte byte = (0 < byte) × (byte ≤ 52)

-- the byte at this place is that of a card before so many, and 0 from there on
abbrev pub IsLaid : ℕ → ℕ → ℕ → Type 0
IsLaid total place byte = (byte ≤ 52) × ((place < total) ↔ (0 < byte))

-- so many cards come first, and 0 after them
abbrev pub AreLaid : ℕ → List ℕ → Type 0
AreLaid total bytes = (place : ℕ) → place < length bytes → IsLaid total place (slice_index bytes place)

-- cells hold cards or nothing, and there are as many cards as the columns say
pub record IsExact (bytes : BoardBytes) : Type 0 where
  pub cells : All (λ byte. byte ≤ 52) bytes.cells
  pub room : sum bytes.lengths ≤ 52
  pub cards : AreLaid (sum bytes.lengths) bytes.cards

-- ---- pieces of bytes
-- the pieces that start at these places and have so many bytes each
abbrev pub pieces : List ℕ → List ℕ → List ℕ → List (List ℕ)
pieces bytes [] counts = []
pieces bytes (start ∷ starts) [] = []
pieces bytes (start ∷ starts) (count ∷ counts) = take count (drop start bytes) ∷ pieces bytes starts counts

-- eight of them stop among the first 52 bytes
abbrev pub AreInside : List ℕ → List ℕ → Type 0
AreInside starts counts = (place : ℕ) → place < 8 → slice_index starts place + slice_index counts place ≤ 52

-- ---- what is read
-- the columns that take so many cards each
abbrev pub columns_decoded : List ℕ → List Card → List Pile
columns_decoded [] cards = []
columns_decoded (count ∷ counts) cards =
    map card_decoded (take (next_count count cards) cards) ∷ columns_decoded counts (drop (next_count count cards) cards)

-- where columns of so many cards each end, one after another, among 52 cards
abbrev pub ends_decoded : ℕ → List ℕ → List ℕ
ends_decoded start [] = []
ends_decoded start (count ∷ counts) = min (start + count) 52 ∷ ends_decoded (min (start + count) 52) counts

-- the board that is read, in a game with so many cells
abbrev pub decoded : ℕ → BoardBytes → Board
decoded cell_count bytes = record {
  heights = bytes.heights;
  cells = take cell_count (map cell_decoded bytes.cells);
  columns = columns_decoded bytes.lengths bytes.cards;
}

-- the number of cards that the byte says, if any
abbrev pub count_decoded : ℕ → Option ℕ
count_decoded byte = if byte == 0 then None else Some byte

-- the move between these piles with so many cards, if there is one
abbrev pub run_decoded : Source → Place → ℕ → Option RunMove
run_decoded (FromColumn from) (ToColumn to) count = if nat_le count 13 then Some (Run from to (count_decoded count)) else None
run_decoded source target count = if count == 0 then Some (One (move_between source target)) else None

-- ---- sums under all renamings at once
-- what the card with this byte weighs under each of these renamings
abbrev pub card_row : List Renaming → ℕ → List ℕ
card_row renamings card = map (λ renaming. card_weight (renamed_code renaming card)) renamings

-- what it weighs to lie on this under each of them
abbrev pub place_row : List Renaming → ℕ → List ℕ
place_row renamings on = map (λ renaming. place_weight (renamed_place renaming on)) renamings

-- to the sum of each renaming its number is added; what comes after these sums is as it was
abbrev pub sums_with : (List ℕ → ℕ) → List (List ℕ) → List ℕ → List ℕ
sums_with number [] sums = sums
sums_with number (renaming ∷ renamings) [] = []
sums_with number (renaming ∷ renamings) (sum ∷ sums) = (sum + number renaming) % 2 ^ 128 ∷ sums_with number renamings sums

-- ---- sums as a card's move makes them
pub record CanBeMoved (moved : MovedSums) : Type 0 where
  pub sums : length moved.sums.now.sums ≡ 24
  pub card : moved.card ≤ 52
  pub from : moved.from ≤ 54
  pub onto : moved.onto ≤ 54

abbrev pub sums_after : List Renaming → MovedSums → List ℕ
sums_after renamings moved = moved_sums renamings moved.card moved.from moved.onto (sums_in renamings moved.sums.now)

-- the one at this place, with its words exchanged
abbrev pub turned_at : List Renaming → MovedSums → (place : ℕ) → ℕ
turned_at renamings moved place = turned (slice_index_or (sums_after renamings moved) place 0)

-- the place of one of them, and its lower word
pub record IsPlaced (renamings : List Renaming) (moved : MovedSums) (word : PlacedWord) : Type 0 where
  pub inside : word.place < length renamings
  pub low : word.low ≡ slice_index_or (sums_after renamings moved) word.place 0 % 2 ^ 64

-- with what comes from the end on, it is the least of what comes from the start on
abbrev pub IsLeastFrom : List Renaming → MovedSums → (start end : ℕ) → PlacedWord → Type 0
IsLeastFrom renamings moved start end word =
    let all = map turned (sums_after renamings moved) in
    min (turned_at renamings moved word.place) (least_sum (drop end all)) ≡ least_sum (drop start all)

-- ---- columns that are asked for a card
-- of so many first columns, those that take a card are asked for cards of its rank
abbrev pub AreAsked : Game → Board → ℕ → List Bool → List Bool → Type 0
AreAsked game board count some columns =
    (column card : ℕ) → column < count → column_refusal game card (last_card (column_at board column)) ≡ None → rank_of card ≤ 13 →
    (slice_index_or some (rank_of card) false ≡ true) × (slice_index_or columns (8 * rank_of card + column) false ≡ true)

-- ---- moves that lead to equivalent boards
-- both are cells, or columns without a card
abbrev pub AreFreeAlike : Board → Place → Place → Type 0
AreFreeAlike board (ToCell cell) (ToCell other) = Unit {0}
AreFreeAlike board (ToColumn column) (ToColumn other) = (column_at board column ≡ []) × (column_at board other ≡ [])
AreFreeAlike board place other = ⊥

-- the moves take one card to two such piles
abbrev pub AreAlike : Board → Move → Move → Type 0
AreAlike board one other = (one.from ≡ other.from) × AreFreeAlike board one.to other.to

-- both are cells
abbrev pub AreCells : Source → Place → Type 0
AreCells (FromCell cell) (ToCell other) = Unit {0}
AreCells source place = ⊥

-- the move is from cell to cell
abbrev pub IsBetweenCells : Move → Type 0
IsBetweenCells move = AreCells move.from move.to
