-- What a move does, and when it is refused.
use Rattle.std.specs.{List.{filter}, Prelude.{◌&&◌, ◌*◌, ◌++◌, ◌+◌, ◌-◌, ◌==◌, ◌^◌, ◌∷◌, ◌≡◌, ◌≢◌}}
use Rattle.std.specs.Prelude.{◌≤◌, ◌⊎◌, [], Bool, codes, drop, false, if◌then◌else◌, is_none}
use Rattle.std.specs.Prelude.{IsFalse, length, List, min, nat_le, nat_lt, None, not, Option, set}
use Rattle.std.specs.Prelude.{slice_get, slice_index, slice_index_or, Some, take, true, ℕ}
use Rattle.fc_card.specs.{places, rank_of, suit_of, Types.{Card, Pile, Text}}
use Rattle.fc_board.specs.{Boards.{Board}, Games.{Builds, Fills, Game}}
use Rattle.fc_board.specs.Moves.{Fits, is_column_to_column, RunFits}
use Rattle.fc_board.specs.declared.{
  fault.StepFault.{StepFault, TheVariants.{EmptySource, KingsOnly, NoRun, NotBuilding, NotNext}},
  fault.StepFault.TheVariants.{OverCapacity, SamePile, TargetTaken, WrongCount},
  moves.{Move.{Move}, Place.{Place, TheVariants.{Cell as ToCell, Column as ToColumn, Home}}},
  moves.Source.{Source, TheVariants.{Cell as FromCell, Column as FromColumn}},
  run_move.RunMove.{RunMove, TheVariants.{One, Run}},
}

-- -------- A move of one card: what the board is after it, and why a game refuses it. From: the games' published building rules. This project's profile: no card leaves a foundation, and no pile takes a card of its own.

-- ---- the piles of a board
-- the cards of this column; past the last column there are none
abbrev pub column_at : Board → ℕ → Pile
column_at board column = slice_index_or board.columns column []

-- what this cell holds; past the last cell there is nothing
abbrev pub cell_at : Board → ℕ → Option Card
cell_at board cell = slice_index_or board.cells cell None

-- the height of the foundation of this suit
abbrev pub height_of : Board → ℕ → ℕ
height_of board suit = slice_index board.heights suit

-- the last card of a column, unless it is empty
abbrev pub last_card : Pile → Option Card
last_card column = slice_get column (length column - 1)

-- the column when its last card is gone
abbrev pub without_last : Pile → Pile
without_last column = take (length column - 1) column

-- the card that can be taken from here: the last one of the column, or the one in the cell
abbrev pub card_at : Board → Source → Option Card
card_at board (FromColumn column) = last_card (column_at board column)
card_at board (FromCell cell) = cell_at board cell

-- ---- a card is taken, and put
-- the board when that card is taken from here
abbrev pub taken_from : Board → Source → Board
taken_from board (FromColumn column) = record board { columns = set board.columns column (without_last (column_at board column)) }
taken_from board (FromCell cell) = record board { cells = set board.cells cell None }

-- the board when this card is put here: last in the column, in the cell, or on its foundation, which is one higher then
abbrev pub put_on : Board → Card → Place → Board
put_on board card (ToColumn column) = record board { columns = set board.columns column (column_at board column ++ card ∷ []) }
put_on board card (ToCell cell) = record board { cells = set board.cells cell (Some card) }
put_on board card Home = record board { heights = set board.heights (suit_of card) (height_of board (suit_of card) + 1) }

-- the board when what was found at the source, if anything, is put on the place
abbrev pub after_taking : Board → Source → Place → Option ℕ → Board
after_taking board from to None = board
after_taking board from to (Some card) = put_on (taken_from board from) card to

-- the board after a move that is allowed
abbrev pub after_move : Board → Move → Board
after_move board move = after_taking board move.from move.to (card_at board move.from)

-- ---- why a move is refused
-- the source and the target are one pile
abbrev pub is_same_pile : Source → Place → Bool
is_same_pile (FromColumn column) (ToColumn other) = column == other
is_same_pile (FromCell cell) (ToCell other) = cell == other
is_same_pile source place = false

-- this fault, unless the test holds
abbrev pub fault_unless : Bool → StepFault → Option StepFault
fault_unless test fault = if test then None else Some fault

-- why a column with this last card, or without one, does not take the card
abbrev pub column_refusal : Game → Card → Option Card → Option StepFault
column_refusal game card None = fault_unless (game.fills card) KingsOnly
column_refusal game card (Some last) = fault_unless (game.builds card last) NotBuilding

-- why the card cannot go here
abbrev pub place_refusal : Game → Board → Card → Place → Option StepFault
place_refusal game board card (ToCell cell) = fault_unless (is_none (cell_at board cell)) TargetTaken
place_refusal game board card (ToColumn column) = column_refusal game card (last_card (column_at board column))
place_refusal game board card Home = fault_unless (height_of board (suit_of card) + 1 == rank_of card) NotNext

-- why what was found at the source cannot go here
abbrev pub found_refusal : Game → Board → Option ℕ → Place → Option StepFault
found_refusal game board None place = Some EmptySource
found_refusal game board (Some card) place = place_refusal game board card place

-- why the move is refused, by the first reason that holds
abbrev pub refusal : Game → Board → Move → Option StepFault
refusal game board move = if is_same_pile move.from move.to then Some SamePile else found_refusal game board (card_at board move.from) move.to

-- -------- Runs: cards at the end of a column, each of which goes on the one before it. From: the games' published building rules.

-- ---- how many cards can be moved at once
-- the empty cells, by their places from 0
abbrev pub free_cells : Game → Board → List ℕ
free_cells game board = filter (λ cell. is_none (cell_at board cell)) (places game.cells)

-- the column is empty, and is not the target
abbrev pub is_helper : Board → ℕ → ℕ → Bool
is_helper board to column = (length (column_at board column) == 0) && not (column == to)

-- the empty columns beside the target, by their places from 0
abbrev pub spare_columns : Board → ℕ → List ℕ
spare_columns board to = filter (is_helper board to) (places 8)

-- an empty column takes every card; where it takes kings alone, it takes no ace, and AC is card 0
abbrev pub takes_every_card : Game → Bool
takes_every_card game = game.fills 0

-- each helper column doubles what goes over the cells, where it takes every card
abbrev pub capacity : Game → Board → ℕ → ℕ
capacity game board to = (length (free_cells game board) + 1) * (if takes_every_card game then 2 ^ length (spare_columns board to) else 1)

-- ---- a run is moved
-- the board when so many cards of the one column went to the other in one go, in their order
abbrev pub run_moved : Board → ℕ → ℕ → ℕ → Board
run_moved board from to count =
    let column = column_at board from in
    let rest = length column - count in
    record board { columns = set (set board.columns from (take rest column)) to (column_at board to ++ drop rest column) }

-- so many last cards of the column
abbrev pub last_cards : ℕ → Pile → List Card
last_cards count column = drop (length column - count) column

-- -------- A move of several cards: what the board is after it, and why a game refuses it. From: the usual rule of FreeCell programs for moving a run at once, and this project's profile of move tokens.

-- ---- runs at the end of a column
-- each card goes on the one before it
abbrev pub is_run : Game → List Card → Bool
is_run game [] = true
is_run game (card ∷ []) = true
is_run game (card ∷ next ∷ cards) = game.builds next card && is_run game (next ∷ cards)

-- how many cards at the end of the column are a run, at most
abbrev pub longest_run : Game → Pile → ℕ
longest_run game [] = 0
longest_run game (card ∷ cards) = if is_run game (card ∷ cards) then length (card ∷ cards) else longest_run game cards

-- the first one of so many last cards
abbrev pub first_of_last : ℕ → Pile → ℕ
first_of_last count column = slice_index column (length column - count)

-- ---- how many cards go
-- to a column with cards as many as the ranks say; to an empty one as many as the move says, or else as many as can
abbrev pub run_count : Game → Board → ℕ → ℕ → Option ℕ → Card → Option ℕ → ℕ
run_count game board from to said card (Some last) = rank_of last - rank_of card
run_count game board from to (Some count) card None = count
run_count game board from to None card None = min (longest_run game (column_at board from)) (capacity game board to)

-- with what was found last in the source, if anything
abbrev pub counted_by : Game → Board → ℕ → ℕ → Option ℕ → Option ℕ → Option ℕ → ℕ
counted_by game board from to said None target = 0
counted_by game board from to said (Some card) target = run_count game board from to said card target

-- how many cards the move carries
abbrev pub moved_count : Game → Board → ℕ → ℕ → Option ℕ → ℕ
moved_count game board from to said = counted_by game board from to said (last_card (column_at board from)) (last_card (column_at board to))

-- the move says this number or none
abbrev pub matches_stated : Option ℕ → ℕ → Bool
matches_stated None count = true
matches_stated (Some said) count = said == count

-- ---- why it is refused, by the first reason that holds
-- this fault if the test fails, and else what follows
abbrev pub fault_or : Bool → StepFault → Option StepFault → Option StepFault
fault_or test fault rest = if test then rest else Some fault

-- to a column with this last card, from one with that
abbrev pub onto_card : Game → Board → ℕ → ℕ → Option ℕ → Card → ℕ → Option StepFault
onto_card game board from to said card last =
    let column = column_at board from in
    let count = rank_of last - rank_of card in
    fault_or (nat_lt (rank_of card) (rank_of last)) NotBuilding
    (fault_or (matches_stated said count) WrongCount
    (fault_or (nat_le count (longest_run game column)) NoRun
    (fault_or (game.builds (first_of_last count column) last) NotBuilding
    (fault_or (nat_le count (capacity game board to)) OverCapacity None))))

-- to an empty column
abbrev pub onto_nothing : Game → Board → ℕ → ℕ → Option ℕ → Option StepFault
onto_nothing game board from to (Some count) =
    let column = column_at board from in
    fault_or (nat_le count (longest_run game column)) NoRun
    (fault_or (nat_le count (capacity game board to)) OverCapacity
    (fault_or (game.fills (first_of_last count column)) KingsOnly None))
onto_nothing game board from to None =
    let column = column_at board from in
    fault_or (game.fills (first_of_last (min (longest_run game column) (capacity game board to)) column)) KingsOnly None

-- by what was found last in the source and in the target
abbrev pub onto : Game → Board → ℕ → ℕ → Option ℕ → Option ℕ → Option ℕ → Option StepFault
onto game board from to said None target = Some EmptySource
onto game board from to said (Some card) (Some last) = onto_card game board from to said card last
onto game board from to said (Some card) None = onto_nothing game board from to said

-- why the move is refused
abbrev pub run_refusal : Game → Board → RunMove → Option StepFault
run_refusal game board (One move) = refusal game board move
run_refusal game board (Run from to said) =
    fault_or (not (from == to)) SamePile (onto game board from to said (last_card (column_at board from)) (last_card (column_at board to)))

-- ---- the reasons in words
-- the reasons in the order of their numbers, from 0
abbrev pub step_faults : List StepFault
step_faults = SamePile ∷ EmptySource ∷ TargetTaken ∷ KingsOnly ∷ NotBuilding ∷ NotNext ∷ NoRun ∷ OverCapacity ∷ WrongCount ∷ []

-- the words for why a move is refused. From: this project's profile
abbrev pub step_reason : StepFault → Text
step_reason SamePile = codes "same pile"
step_reason EmptySource = codes "empty source"
step_reason TargetTaken = codes "target taken"
step_reason KingsOnly = codes "kings only"
step_reason NotBuilding = codes "not building"
step_reason NotNext = codes "not next"
step_reason NoRun = codes "no run"
step_reason OverCapacity = codes "over capacity"
step_reason WrongCount = codes "wrong count"

-- ---- what the board is after it
-- the board after a move that is allowed
abbrev pub after_run_move : Game → Board → RunMove → Board
after_run_move game board (One move) = after_move board move
after_run_move game board (Run from to said) = run_moved board from to (moved_count game board from to said)

-- -------- When a game allows a move, said by what must hold: laws tie it to the reasons against a move and to the board after one. From: the games' published building rules, and this project's profile of move tokens.

-- ---- a move of one card
-- this card can be taken from the source, and the target is another pile
abbrev pub Offers : Board → Move → Card → Type 0
Offers board move card = IsFalse (is_same_pile move.from move.to) × (card_at board move.from ≡ Some card)

-- a column with this last card takes the card by the building rule, and an empty one by the rule for filling
abbrev pub MayFollow : Game → Card → Option Card → Type 0
MayFollow game card (Some last) = Builds game card last
MayFollow game card None = Fills game card

-- the card may go here: to a column that takes it, to an empty cell, or home if it is the next of its suit
abbrev pub MayGo : Game → Board → Card → Place → Type 0
MayGo game board card (ToColumn column) = MayFollow game card (last_card (column_at board column))
MayGo game board card (ToCell cell) = cell_at board cell ≡ None
MayGo game board card Home = height_of board (suit_of card) + 1 ≡ rank_of card

-- the game allows the move, and the board is this one after it
-- said again: steps_are_what_is_not_refused.exactly
pub record Step (game : Game) (board : Board) (move : Move) (after : Board) : Type 0 where
  -- the game has the columns and cells of the move
  pub fits : Fits game move
  -- the card that is moved
  pub card : Card
  pub offered : Offers board move card
  pub goes : MayGo game board card move.to
  -- all else is as it was
  pub moved : after ≡ put_on (taken_from board move.from) card move.to

-- ---- a move of several cards
-- so many cards at the end of the one column are a run, may go to the end of the other,
-- and are no more than the capacity; then they are there
pub record RunGoes (game : Game) (board : Board) (from to : ℕ) (said : Option ℕ) (after : Board) : Type 0 where
  pub apart : from ≢ to
  -- the last card of the source
  pub card : Card
  pub found : last_card (column_at board from) ≡ Some card
  -- how many cards go
  pub count : ℕ
  pub counted : count ≡ run_count game board from to said card (last_card (column_at board to))
  pub some : 1 ≤ count
  pub said_so : matches_stated said count ≡ true
  pub is_run : count ≤ longest_run game (column_at board from)
  pub goes : MayFollow game (first_of_last count (column_at board from)) (last_card (column_at board to))
  pub within : count ≤ capacity game board to
  pub moved : after ≡ run_moved board from to count

-- the game allows the move, and the board is this one after it
-- said again: runs_are_what_is_not_refused.exactly
abbrev pub RunStep : Game → Board → RunMove → Board → Type 0
RunStep game board (One move) after = IsFalse (is_column_to_column move) × Step game board move after
RunStep game board (Run from to said) after = RunFits game (Run from to said) × RunGoes game board from to said after

-- -------- Moves that use no more than what a run is moved over: its column, the column it goes to, and the cells and columns that were empty when it began. From: this project.

-- the column is the one that the run is in or the one that it goes to, or it was empty at the start
abbrev pub IsOpenColumn : Board → ℕ → ℕ → ℕ → Type 0
IsOpenColumn start from to column = ((column ≡ from) ⊎ (column ≡ to)) ⊎ (column_at start column ≡ [])

-- the source is such a column, or a cell that was empty at the start
abbrev pub IsOpenSource : Board → ℕ → ℕ → Source → Type 0
IsOpenSource start from to (FromColumn column) = IsOpenColumn start from to column
IsOpenSource start from to (FromCell cell) = cell_at start cell ≡ None

-- the target is such a column or cell, and not a foundation
abbrev pub IsOpenPlace : Board → ℕ → ℕ → Place → Type 0
IsOpenPlace start from to (ToColumn column) = IsOpenColumn start from to column
IsOpenPlace start from to (ToCell cell) = cell_at start cell ≡ None
IsOpenPlace start from to Home = ⊥

-- the card is one of the cards
abbrev pub Among : Card → List Card → Type 0
Among card [] = ⊥
Among card (other ∷ cards) = (card ≡ other) ⊎ Among card cards

-- what can be taken from here is one of the cards
abbrev pub TakesOneOf : List Card → Board → Source → Type 0
TakesOneOf cards board source = (card : Card) × (card_at board source ≡ Some card) × Among card cards

-- each move stays within these piles and takes one of the cards
abbrev pub Confined : Board → ℕ → ℕ → List Card → Board → List Move → Type 0
Confined start from to cards board [] = Unit {0}
Confined start from to cards board (move ∷ moves) =
    IsOpenSource start from to move.from × IsOpenPlace start from to move.to × TakesOneOf cards board move.from × Confined start from to cards (after_move board move) moves
