-- Boards, passages and moves as bytes, and what calls of C do.
pub mod class_hash
pub mod inside
use Rattle.std.specs.{Int.{to_le_bytes, w64}, List.{Contains, filter, flat_map}}
use Rattle.std.specs.{Option.{is_none, unwrap_or}, Prelude.{◌++◌, ◌+◌, ◌-◌, ◌<◌, ◌↔◌, ◌∷◌, ◌≡◌}}
use Rattle.std.specs.Prelude.{◌≤◌, [], drop, if◌then◌else◌, length, List, map, nat_lt, None, Option}
use Rattle.std.specs.Prelude.{replicate, slice_get, slice_index, slice_index_or, Some, ℕ}
use Rattle.fc_card.specs.{places, Types.{Renaming, Text}}
use Rattle.fc_board.specs.{Boards.{Board, IsWellFormed}, Games.{AscendByWord, Game}}
use Rattle.fc_board.specs.{Moves.{Fits, move_between, RunFits}, Passages.{carried, Carries}}
use Rattle.fc_board.specs.Passages.{inverse_passage, IsPassage, Passage, passage_product}
use Rattle.fc_board.specs.Play.{Expands, expansion_of}
use Rattle.fc_board.specs.Steps.{capacity, refusal, run_refusal, Step, step_faults}
use Rattle.fc_board.specs.declared.{fault.StepFault.{StepFault}, moves.{Move.{Move}, Place.{Place}}}
use Rattle.fc_board.specs.declared.moves.Place.TheVariants.{Cell as ToCell, Column as ToColumn}
use Rattle.fc_board.specs.declared.moves.{Place.TheVariants.{Home}, Source.{Source}}
use Rattle.fc_board.specs.declared.moves.Source.TheVariants.{Cell as FromCell, Column as FromColumn}
use Rattle.fc_board.specs.declared.run_move.RunMove.{RunMove, TheVariants.{One, Run}}
use Rattle.fc_text.specs.Faults.{first_fault}
use Rattle.fc_text.specs.Notation.{column_digits, source_character, target_character}
use Rattle.fc_text.specs.{Printed.{text_of}, Spelling.{Spells}}
use Rattle.fc_text.specs.declared.fault.{BoardFault.{BoardFault}, BoardFaultKind.{BoardFaultKind}}
use Rattle.fc_text.specs.declared.fault.BoardFaultKind.TheVariants.{BadCard, BadFoundation}
use Rattle.fc_text.specs.declared.fault.BoardFaultKind.TheVariants.{MissingCard, RepeatedCard}
use Rattle.fc_text.specs.declared.fault.BoardFaultKind.TheVariants.{RepeatedLine, TooManyCells}
use Rattle.fc_text.specs.declared.fault.BoardFaultKind.TheVariants.{TooManyColumns}
use Rattle.fc_canon.specs.{Chosen, chosen_passage, Equivalent, IsSymmetry}
use Rattle.fc_bytes.specs.declared.{board.BoardBytes.{BoardBytes}, moves.MoveBytes.{MoveBytes}}
use Rattle.fc_bytes.specs.declared.{passage.PassageBytes.{PassageBytes}, runs.RunBytes.{RunBytes}}
use Rattle.std.specs.Hash.DefaultHasher as sip

-- ======== What bytes hold, and the hash of a board.

-- -------- What bytes hold: boards, passages and moves, each in one way only. From: this project's profile.

-- ---- boards
-- an empty cell is 0, and a card one more than its number
abbrev pub cell_byte : Option ℕ → ℕ
cell_byte None = 0
cell_byte (Some card) = card + 1

-- so many bytes: these, and 0 after them
abbrev pub padded : ℕ → List ℕ → List ℕ
padded size bytes = bytes ++ drop (length bytes) (replicate size 0)

-- heights, cells, how many cards each column has, and the cards of all columns
abbrev pub board_bytes : Board → BoardBytes
board_bytes board = record {
  heights = board.heights;
  cells = padded 8 (map cell_byte board.cells);
  lengths = map length board.columns;
  cards = padded 52 (flat_map (map (λ card. card + 1)) board.columns);
}

-- the board is one of the game, and these are its bytes
abbrev pub HoldsBoard : Game → BoardBytes → Board → Type 0
HoldsBoard game bytes board = IsWellFormed game board × (bytes ≡ board_bytes board)

-- ---- passages
-- the renaming, and for each new place the old place of the column and of the cell
abbrev pub passage_bytes : Passage → PassageBytes
passage_bytes passage = record { suits = passage.renaming; columns = passage.columns; cells = padded 8 passage.cells }

-- the passage is one of the game, and these are its bytes
abbrev pub HoldsPassage : Game → PassageBytes → Passage → Type 0
HoldsPassage game bytes passage = IsPassage game passage × (bytes ≡ passage_bytes passage)

-- ---- moves
-- the two characters of a move
abbrev pub move_bytes : Move → MoveBytes
move_bytes move = record { from = source_character move.from; to = target_character move.to }

-- the move is one of the game, and these are its bytes
abbrev pub HoldsMove : Game → MoveBytes → Move → Type 0
HoldsMove game bytes move = Fits game move × (bytes ≡ move_bytes move)

-- ---- moves of several cards
-- the two characters of a move, and the number of cards or, where it says none, 0
abbrev pub run_bytes : RunMove → RunBytes
run_bytes (One move) = record { from = source_character move.from; to = target_character move.to; count = 0 }
run_bytes (Run from to count) = record { from = slice_index column_digits from; to = slice_index column_digits to; count = unwrap_or count 0 }

-- the move is one of the game, and these are its bytes
abbrev pub HoldsRun : Game → RunBytes → RunMove → Type 0
HoldsRun game bytes run = RunFits game run × (bytes ≡ run_bytes run)

-- -------- The hash of a board's bytes: SipHash-1-3 with both keys 0, twice. From: this project's profile, over a hash that is known.

-- the 72 bytes, as they are in memory
abbrev pub all_bytes : BoardBytes → List ℕ
all_bytes board = board.heights ++ board.cells ++ board.lengths ++ board.cards

-- SipHash-1-3 of the bytes, both keys 0
abbrev pub sip_hash : List ℕ → ℕ
sip_hash bytes = sip.finish (sip.write sip.initial bytes)

-- sixteen bytes: the hash of all bytes, and that of all bytes and a 1 after them, each with its lowest byte first
abbrev pub board_hash : BoardBytes → List ℕ
board_hash board = to_le_bytes w64 (sip_hash (all_bytes board)) ++ to_le_bytes w64 (sip_hash (all_bytes board ++ 1 ∷ []))

-- ======== The numbers by which C knows reasons against moves and faults of texts. From: this project's profile.

-- an answer from 32 on is the number of one of these reasons against a move
abbrev pub reason_of : ℕ → Option StepFault
reason_of answer = slice_get step_faults (answer - 32)

-- an answer from 64 on is the number of one of these faults of a text, and one from 128 on that of a missing card
abbrev pub fault_kind_of : ℕ → Option BoardFaultKind
fault_kind_of answer =
    if nat_lt answer 128 then slice_get (RepeatedLine ∷ TooManyColumns ∷ TooManyCells ∷ BadCard ∷ BadFoundation ∷ RepeatedCard ∷ []) (answer - 64)
    else Some (MissingCard (answer - 128))

-- ======== What the calls of C do where they answer 0, and where they refuse: a named fact each, which the call for a number and that for a game both cite.

-- ---- what bytes hold
-- the bytes hold nothing of this kind
abbrev pub HoldsNone : {Bytes Held : Type 0} → (Bytes → Held → Type 0) → Bytes → Type 0
HoldsNone {Held = Held} Holds bytes = (held : Held) → ¬ Holds bytes held

-- the first bytes hold something of the one kind, and the second nothing of the other
abbrev pub HoldsFirstAlone : {Bytes Held Others Next : Type 0} → (Bytes → Held → Type 0) → (Others → Next → Type 0) → Bytes → Others → Type 0
HoldsFirstAlone {Held = Held} Holds HoldsNext bytes others = ((held : Held) × Holds bytes held) × HoldsNone HoldsNext others

-- ---- canonical boards
-- the canonical board, and the chosen passage to it
abbrev pub Canonicalises : Game → List Renaming → BoardBytes → BoardBytes → PassageBytes → Type 0
Canonicalises game renamings board canonical passage =
    (held : Board) × (way : Passage) × HoldsBoard game board held × Chosen game renamings held way
    × HoldsBoard game canonical (carried way held) × HoldsPassage game passage way

-- the canonical board alone
abbrev pub HasKey : Game → List Renaming → BoardBytes → BoardBytes → Type 0
HasKey game renamings board key =
    (held : Board) × (way : Passage) × HoldsBoard game board held × Chosen game renamings held way × HoldsBoard game key (carried way held)

-- the hash of the canonical board
abbrev pub HasHash : Game → List Renaming → BoardBytes → List ℕ → Type 0
HasHash game renamings board hash = (key : BoardBytes) × HasKey game renamings board key × (hash ≡ board_hash key)

-- up to this place each board has become its key; the others are as they were
abbrev pub HaveKeys : Game → List Renaming → List BoardBytes → List BoardBytes → ℕ → Type 0
HaveKeys game renamings before after place =
    (length after ≡ length before) × (drop place after ≡ drop place before)
    × ((k : ℕ) (default : BoardBytes) → k < place → HasKey game renamings (slice_index_or before k default) (slice_index_or after k default))

-- this is the place of the first board that is none; those before it have become their keys
abbrev pub HasNoBoardAt : Game → List Renaming → List BoardBytes → List BoardBytes → ℕ → Type 0
HasNoBoardAt game renamings before after place =
    HaveKeys game renamings before after place × (place < length before)
    × ((default : BoardBytes) → HoldsNone (HoldsBoard game) (slice_index_or before place default))

-- the renamings that with some orders lead from the board to itself, in the order of their words,
-- and how many; what comes after them is as it was
abbrev pub HasSymmetries : Game → BoardBytes → List (List ℕ) → List (List ℕ) → ℕ → Type 0
HasSymmetries game board before after count =
    (held : Board) × (symmetries : List Renaming) × HoldsBoard game board held
    × ((renaming : Renaming) → Contains symmetries renaming ↔ IsSymmetry game held renaming) × AscendByWord symmetries
    × (count ≡ length symmetries) × (after ≡ symmetries ++ drop (length symmetries) before)

-- the chosen passage to the canonical board of the one, and then back to the other
abbrev pub passage_between : List Renaming → Board → Board → Passage
passage_between renamings held next = passage_product (chosen_passage renamings held) (inverse_passage (chosen_passage renamings next))

-- that passage leads from the one board to the other
abbrev pub LeadsToOther : Game → List Renaming → BoardBytes → BoardBytes → PassageBytes → Type 0
LeadsToOther game renamings board other passage =
    (held next : Board) × (way : Passage) × HoldsBoard game board held × HoldsBoard game other next
    × (way ≡ passage_between renamings held next) × Carries game way held next × HoldsPassage game passage way

-- both boards are held, and no passage leads from one to the other
abbrev pub AreApart : Game → BoardBytes → BoardBytes → Type 0
AreApart game board other =
    (held next : Board) × HoldsBoard game board held × HoldsBoard game other next × ¬ Equivalent game held next

-- the passage that leads back
abbrev pub Inverts : Game → PassageBytes → PassageBytes → Type 0
Inverts game passage inverse = (way : Passage) × HoldsPassage game passage way × HoldsPassage game inverse (inverse_passage way)

-- the one passage, and then the next
abbrev pub Composes : Game → PassageBytes → PassageBytes → PassageBytes → Type 0
Composes game first next both =
    (way onward : Passage) × HoldsPassage game first way × HoldsPassage game next onward × HoldsPassage game both (passage_product way onward)

-- the board that the passage leads to
abbrev pub LeadsToImage : Game → PassageBytes → BoardBytes → BoardBytes → Type 0
LeadsToImage game passage board image =
    (way : Passage) × (held : Board) × HoldsPassage game passage way × HoldsBoard game board held × HoldsBoard game image (carried way held)

-- ---- moves, of one card or of several
-- the image of the move under the passage
abbrev pub CarriesMove : {Bytes Item : Type 0} → Game → (Game → Bytes → Item → Type 0) → (Passage → Item → Item) → PassageBytes → Bytes → Bytes → Type 0
CarriesMove {Item = Item} game Holds image passage move moved =
    (way : Passage) × (one : Item) × HoldsPassage game passage way × Holds game move one × Holds game moved (image way one)

-- the board after the move
abbrev pub PlaysMove : {Bytes Item : Type 0} → Game → (Game → Bytes → Item → Type 0) → (Game → Board → Item → Board → Type 0)
    → BoardBytes → Bytes → BoardBytes → Type 0
PlaysMove {Item = Item} game Holds Leads board move after =
    (held next : Board) × (one : Item) × HoldsBoard game board held × Holds game move one × Leads game held one next × HoldsBoard game after next

-- the canonical board of the board after the move, and the chosen passage to it
abbrev pub LeadsToChild : Game → List Renaming → BoardBytes → MoveBytes → BoardBytes → PassageBytes → Type 0
LeadsToChild game renamings board move canonical passage =
    (after : BoardBytes) × PlaysMove game HoldsMove Step board move after × Canonicalises game renamings after canonical passage

-- the reason against the move, which the answer is the number of
abbrev pub RefusesMove : {Bytes Item : Type 0} → Game → (Game → Bytes → Item → Type 0) → (Game → Board → Item → Option StepFault)
    → BoardBytes → Bytes → ℕ → Type 0
RefusesMove {Item = Item} game Holds refusal board move answer =
    (held : Board) × (one : Item) × (reason : StepFault) × HoldsBoard game board held × Holds game move one
    × (refusal game held one ≡ Some reason) × (reason_of answer ≡ Some reason)

-- of the moves of one card that the run is on the board this is so
abbrev pub OfExpansion : Game → BoardBytes → RunBytes → (List Move → Type 0) → Type 0
OfExpansion game board run IsSo =
    (held : Board) × (one : RunMove) × HoldsBoard game board held × HoldsRun game run one
    × Expands game held one (expansion_of game held one) × IsSo (expansion_of game held one)

-- the bytes of these moves, and how many; what comes after them is as it was
abbrev pub AreMoves : List MoveBytes → List MoveBytes → ℕ → List Move → Type 0
AreMoves before after count moves = (count ≡ length moves) × (after ≡ map move_bytes moves ++ drop (length moves) before)

-- the digit is that of this column
abbrev pub NamesColumn : ℕ → ℕ → Type 0
NamesColumn digit column = (column < 8) × (digit ≡ slice_index column_digits column)

-- how many cards can go at once to the column of this digit
abbrev pub HasCapacity : Game → BoardBytes → ℕ → ℕ → Type 0
HasCapacity game board digit cards =
    (held : Board) × (column : ℕ) × HoldsBoard game board held × NamesColumn digit column × (cards ≡ capacity game held column)

-- ---- texts, and deals
-- the board that the text spells
abbrev pub ReadsText : Game → Text → BoardBytes → Type 0
ReadsText game text board = (held : Board) × Spells game text held × HoldsBoard game board held

-- the text's first fault, which the answer is the number of, and its place
abbrev pub HasFault : Game → Text → ℕ → ℕ → Type 0
HasFault game text answer place =
    (fault : BoardFault) × (first_fault game text ≡ Some fault) × (fault_kind_of answer ≡ Some fault.kind) × (place ≡ fault.place)

-- the printed text of the board, and 0 after it
abbrev pub WritesText : Game → BoardBytes → Text → Type 0
WritesText game board text = (held : Board) × HoldsBoard game board held × (text ≡ padded 256 (text_of held))

-- ---- the moves that a board allows, and what comes after each
-- the piles by number: the columns from 0, then the cells, and then, for targets alone, home
abbrev pub source_numbered : ℕ → Source
source_numbered pile = if nat_lt pile 8 then FromColumn pile else FromCell (pile - 8)

abbrev pub target_numbered : Game → ℕ → Place
target_numbered game pile = if nat_lt pile 8 then ToColumn pile else if nat_lt pile (8 + game.cells) then ToCell (pile - 8) else Home

-- the moves of one card from the pile to so many of the first targets that the game allows, in the order of these
abbrev pub legal_moves_to : Game → Board → ℕ → ℕ → List Move
legal_moves_to game board from count =
    filter (λ move. is_none (refusal game board move)) (map (λ to. move_between (source_numbered from) (target_numbered game to)) (places count))

-- the moves of one card from the pile that the game allows, in the order of their targets
abbrev pub legal_moves_from : Game → Board → ℕ → List Move
legal_moves_from game board from = legal_moves_to game board from (9 + game.cells)

-- all moves of one card that the game allows, in the order of their sources
-- said again: each_legal_move_is_listed_once.one_card, each_legal_move_is_listed_once.in_order
abbrev pub legal_moves : Game → Board → List Move
legal_moves game board = flat_map (legal_moves_from game board) (places (8 + game.cells))

-- the game allows the move
abbrev pub IsAllowed : Game → Board → Move → Type 0
IsAllowed game board move = Fits game move × (refusal game board move ≡ None)

-- the bytes are those of the canonical board after the move
abbrev pub IsKeyAfter : Game → List Renaming → Board → Move → BoardBytes → Type 0
IsKeyAfter game renamings board move key =
    (after : Board) × (way : Passage) × Step game board move after × Chosen game renamings after way × HoldsBoard game key (carried way after)

-- these are the canonical boards after the moves; what comes after them is as it was
abbrev pub AreKeysAfter : Game → List Renaming → Board → List Move → List BoardBytes → List BoardBytes → Type 0
AreKeysAfter game renamings board moves before after =
    (length after ≡ length before) × (drop (length moves) after ≡ drop (length moves) before)
    × ((k : ℕ) (move : Move) (default : BoardBytes) → k < length moves → IsKeyAfter game renamings board (slice_index_or moves k move) (slice_index_or after k default))

-- all moves of one card that the game allows on the board, and for each the canonical board after it
abbrev pub HasChildren : Game → List Renaming → BoardBytes → List MoveBytes → List MoveBytes → List BoardBytes → List BoardBytes → ℕ → Type 0
HasChildren game renamings board moves_before moves keys_before keys count =
    (held : Board) × HoldsBoard game board held × AreMoves moves_before moves count (legal_moves game held)
    × AreKeysAfter game renamings held (legal_moves game held) keys_before keys

-- of the moves that the game allows on the board this is so
abbrev pub OfLegalMoves : Game → BoardBytes → (List Move → Type 0) → Type 0
OfLegalMoves game board IsSo = (held : Board) × HoldsBoard game board held × IsSo (legal_moves game held)

-- ---- the moves of several cards that a board allows
-- the moves of two and more cards between these columns that the game allows, each with its number,
-- in the order of these
abbrev pub legal_runs_between : Game → Board → ℕ → ℕ → List RunMove
legal_runs_between game board from to =
    filter (λ run. is_none (run_refusal game board run)) (map (λ more. Run from to (Some (more + 2))) (places 12))

abbrev pub legal_runs_from : Game → Board → ℕ → List RunMove
legal_runs_from game board from = flat_map (legal_runs_between game board from) (places 8)

-- all moves of two and more cards from column to column that the game allows, in the order of their columns
-- said again: each_legal_move_is_listed_once.runs, each_legal_move_is_listed_once.runs_in_order
abbrev pub legal_runs : Game → Board → List RunMove
legal_runs game board = flat_map (legal_runs_from game board) (places 8)

-- the move says how many cards go from column to column, which are two or more, and the game allows it
abbrev pub IsAllowedRun : Game → Board → RunMove → Type 0
IsAllowedRun game board run =
    (from to count : ℕ) × (run ≡ Run from to (Some count)) × (2 ≤ count) × RunFits game run × (run_refusal game board run ≡ None)

-- the bytes of these moves, and how many; what comes after them is as it was
abbrev pub AreRuns : List RunBytes → List RunBytes → ℕ → List RunMove → Type 0
AreRuns before after count runs = (count ≡ length runs) × (after ≡ map run_bytes runs ++ drop (length runs) before)

-- of the moves of several cards that the game allows on the board this is so
abbrev pub OfLegalRuns : Game → BoardBytes → (List RunMove → Type 0) → Type 0
OfLegalRuns game board IsSo = (held : Board) × HoldsBoard game board held × IsSo (legal_runs game held)
