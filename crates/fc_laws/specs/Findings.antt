-- What it means that `closed` names a record.
use Rattle.std.specs.{List.{Contains}, Prelude.{◌++◌, ◌∷◌, ◌≡◌, List}}
use Rattle.{fc_board.specs.declared.moves.Move.{Move}, fc_card.specs.Types.{Text}}
use Rattle.fc_board.specs.{Boards.{Board}, Games.{game_of}, Play.{IsWon}, Steps.{Step}}
use Rattle.{fc_bytes.specs.{legal_moves, move_bytes}, fc_canon.specs.{IsFirst}}
use Rattle.fc_closed.specs.{IsAmong}
use Rattle.fc_collect.specs.{Closed.{boards_of}, Groups.{Member, name_of_member}}
use Rattle.fc_collect.specs.declared.commands.closed.Flaw.{Flaw, TheVariants.{Open, Won}}

-- -------- What is in the way where a collection is not closed. From: this project's profile.

-- the move leads from the member's board to one that is equivalent to none of its game's in the collection
abbrev pub LeadsAway : (all : List Member) → Member → Move → Type 0
LeadsAway all member move =
    (after : Board) × Step (game_of member.heading.variant) member.contents.board move after
    × ¬ IsAmong (game_of member.heading.variant) (boards_of member.heading.variant all) after

-- the member's board is not won, and no move leads away from it
pub record IsShutIn (all : List Member) (member : Member) : Type 0 where
  pub not_won : ¬ IsWon member.contents.board
  pub stays : (move : Move) → ¬ LeadsAway all member move

-- the member's board is won; or this is the first of its legal moves, in the order of piles, that leads away
abbrev pub IsFlawIn : (all : List Member) → Member → Flaw → Type 0
IsFlawIn all member Won = IsWon member.contents.board
IsFlawIn all member (Open bytes) =
    (¬ IsWon member.contents.board) × (move : Move) × (bytes ≡ move_bytes move)
    × IsFirst (LeadsAway all member) (legal_moves (game_of member.heading.variant) member.contents.board) move

-- a member of this name has this flaw, and none before it has one
pub record IsFirstFlawed (all : List Member) (name : Text) (flaw : Flaw) : Type 0 where
  pub before : List Member
  pub member : Member
  pub rest : List Member
  pub whole : all ≡ before ++ member ∷ rest
  pub named : name ≡ name_of_member member
  pub flawed : IsFlawIn all member flaw
  pub shut : (other : Member) → Contains before other → IsShutIn all other
