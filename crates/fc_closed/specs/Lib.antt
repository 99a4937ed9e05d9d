-- Boards from which no list of moves wins, and lists of boards that show it.
use Rattle.std.specs.List.{Contains}
use Rattle.std.specs.Prelude.{◌+◌, ◌<◌, ◌≡◌, All, length, List, map, slice_index_or, ℕ}
use Rattle.{fc_board.specs.declared.moves.Move.{Move}, fc_card.specs.Types.{Renaming}}
use Rattle.fc_board.specs.{Boards.{Board, IsWellFormed}, Games.{Game}, Moves.{MoveList}}
use Rattle.fc_board.specs.{Play.{IsWon, Wins}, Steps.{Step}}
use Rattle.{fc_canon.specs.{Equivalent, IsFirst}, fc_text.specs.Bytes.{IsLess}}
use Rattle.fc_bytes.specs.{all_bytes, board_bytes, HasKey, HoldsBoard, HoldsNone, IsKeyAfter}
use Rattle.fc_bytes.specs.{legal_moves, move_bytes}
use Rattle.fc_bytes.specs.declared.{board.BoardBytes.{BoardBytes}, moves.MoveBytes.{MoveBytes}}
use Rattle.fc_closed.specs.declared.check.{Doubt.{Doubt}, Flaw.{Flaw, TheVariants.{NoBoard}}}
use Rattle.fc_closed.specs.declared.check.Flaw.TheVariants.{NotAbove, NotCanonical, Open, Won}
use Rattle.fc_closed.specs.declared.check.Doubt.TheVariants as doubt

-- -------- Boards from which no list of moves wins, and lists of boards that play does not leave. From: this project.

-- no list of moves wins from the board, neither of one card each nor of several
abbrev pub IsUnsolvable : Game → Board → Type 0
IsUnsolvable game board = (moves : MoveList) → ¬ Wins game board moves

-- the board is equivalent to one of these
abbrev pub IsAmong : Game → List Board → Board → Type 0
IsAmong game boards board = (member : Board) × Contains boards member × Equivalent game board member

-- none of the boards is won, and each move of one card leads from one of them to a board that is equivalent to one of them
pub record IsClosed (game : Game) (boards : List Board) : Type 0 where
  pub none_won : (board : Board) → Contains boards board → ¬ IsWon board
  pub stays : (board after : Board) (move : Move) → Contains boards board → Step game board move after → IsAmong game boards after

-- -------- The keys of a closed list: canonical boards in ascending order. From: this project.

-- the keys are the bytes of the boards, each in its place
abbrev pub HoldBoards : Game → List BoardBytes → List Board → Type 0
HoldBoards game keys boards = (keys ≡ map board_bytes boards) × All (IsWellFormed game) boards

-- the key at this place is above the one before it, byte by byte
abbrev pub IsAbove : List BoardBytes → ℕ → Type 0
IsAbove keys place =
    (before : ℕ) (default : BoardBytes) → before + 1 ≡ place → IsLess (all_bytes (slice_index_or keys before default)) (all_bytes (slice_index_or keys place default))

-- each key before this place is its own canonical board, and above the one before it
abbrev pub AreKeysTo : Game → List Renaming → List BoardBytes → ℕ → Type 0
AreKeysTo game renamings keys count =
    (place : ℕ) (default : BoardBytes) → place < count →
    HasKey game renamings (slice_index_or keys place default) (slice_index_or keys place default) × IsAbove keys place

-- each key is
abbrev pub AreKeys : Game → List Renaming → List BoardBytes → Type 0
AreKeys game renamings keys = AreKeysTo game renamings keys (length keys)

-- they are canonical boards in ascending order, and closed
abbrev pub AreClosedKeys : Game → List Renaming → List BoardBytes → Type 0
AreClosedKeys game renamings keys = AreKeys game renamings keys × (boards : List Board) × HoldBoards game keys boards × IsClosed game boards

-- -------- What is wrong with a list of keys that is said to be closed. From: this project.

-- the canonical board after the move is among the keys
abbrev pub StaysIn : Game → List Renaming → List BoardBytes → Board → Move → Type 0
StaysIn game renamings keys board move = (child : BoardBytes) × IsKeyAfter game renamings board move child × Contains keys child

-- it is not
abbrev pub LeadsOut : Game → List Renaming → List BoardBytes → Board → Move → Type 0
LeadsOut game renamings keys board move = (child : BoardBytes) × IsKeyAfter game renamings board move child × ¬ Contains keys child

-- the bytes hold a board that is not won, and the canonical boards after its moves are among the keys
abbrev pub IsShut : Game → List Renaming → List BoardBytes → BoardBytes → Type 0
IsShut game renamings keys key =
    (board : Board) × HoldsBoard game key board × (¬ IsWon board)
    × ((move : Move) → Contains (legal_moves game board) move → StaysIn game renamings keys board move)

-- so is each key before this place
abbrev pub AreShutTo : Game → List Renaming → List BoardBytes → ℕ → Type 0
AreShutTo game renamings keys count = (place : ℕ) (default : BoardBytes) → place < count → IsShut game renamings keys (slice_index_or keys place default)

-- there is a key at this place, and of it this is so
abbrev pub IsSoAt : List BoardBytes → ℕ → (BoardBytes → Type 0) → Type 0
IsSoAt keys place IsSo = (place < length keys) × ((default : BoardBytes) → IsSo (slice_index_or keys place default))

-- the key's board is won, or this is its first move that leads out
abbrev pub IsFlawInPlay : Game → List Renaming → List BoardBytes → BoardBytes → Flaw → Type 0
IsFlawInPlay game renamings keys key Won = (board : Board) × HoldsBoard game key board × IsWon board
IsFlawInPlay game renamings keys key (Open move) =
    (board : Board) × (first : Move) × HoldsBoard game key board × (¬ IsWon board) × (move ≡ move_bytes first)
    × IsFirst (LeadsOut game renamings keys board) (legal_moves game board) first
IsFlawInPlay game renamings keys key flaw = ⊥

-- this is wrong with the key at this place, the first of which this is so: where keys are not canonical boards in ascending order, the first that is not; and else the first whose board is won or has a move that leads out
abbrev pub IsFirstFlaw : Game → List Renaming → List BoardBytes → ℕ → Flaw → Type 0
IsFirstFlaw game renamings keys place NoBoard =
    AreKeysTo game renamings keys place × IsSoAt keys place (HoldsNone (HoldsBoard game))
IsFirstFlaw game renamings keys place NotCanonical =
    AreKeysTo game renamings keys place
    × IsSoAt keys place (λ key. ((board : Board) × HoldsBoard game key board) × ¬ HasKey game renamings key key)
IsFirstFlaw game renamings keys place NotAbove =
    AreKeysTo game renamings keys place × IsSoAt keys place (λ key. HasKey game renamings key key) × ¬ IsAbove keys place
IsFirstFlaw game renamings keys place flaw =
    AreKeys game renamings keys × AreShutTo game renamings keys place × IsSoAt keys place (λ key. IsFlawInPlay game renamings keys key flaw)

-- -------- Whether a list of keys shows that a board is unsolvable, and if not, why. From: this project.

-- the keys are those of a closed list, and the board's own key is one of them
abbrev pub ShowUnsolvable : Game → List Renaming → BoardBytes → List BoardBytes → Type 0
ShowUnsolvable game renamings board keys = (key : BoardBytes) × HasKey game renamings board key × Contains keys key × AreClosedKeys game renamings keys

-- this is lacking, and what comes before it is not
abbrev pub IsDoubted : Game → List Renaming → BoardBytes → List BoardBytes → Doubt → Type 0
IsDoubted game renamings board keys doubt.NoBoard = HoldsNone (HoldsBoard game) board
IsDoubted game renamings board keys doubt.NotClosed = ((held : Board) × HoldsBoard game board held) × ¬ AreClosedKeys game renamings keys
IsDoubted game renamings board keys doubt.NotAmong = AreClosedKeys game renamings keys × (key : BoardBytes) × HasKey game renamings board key × ¬ Contains keys key
