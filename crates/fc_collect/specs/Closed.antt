-- What `closed` finds of a collection.
use Rattle.std.specs.{Fmt.{decimal}, List.{count_by, filter, find, list_any}}
use Rattle.std.specs.{Option.{is_some, option_map, option_or, unwrap_or}, Prelude.{◌++◌, ◌+◌, ◌==◌}}
use Rattle.std.specs.Prelude.{◌∷◌, [], Bool, codes, if◌then◌else◌, length, List, map, None, not}
use Rattle.std.specs.{Prelude.{Option, Some, ℕ}, Str.{bytes_eq}}
use Rattle.{fc_card.specs.Types.{Text}, fc_text.specs.Bytes.{blank, line_feed}}
use Rattle.fc_board.specs.{Boards.{Board}, Games.{game_of, variant_word}, Play.{has_all_home}}
use Rattle.fc_board.specs.Steps.{after_move}
use Rattle.fc_board.specs.declared.{moves.Move.{Move}, rule.Variant.{Variant}}
use Rattle.fc_bytes.specs.{legal_moves, move_bytes}
use Rattle.fc_record.specs.{Printing.{is_refused}, RecordTexts.{RecordText}}
use Rattle.fc_record.specs.Tables.{json_object, json_string}
use Rattle.fc_collect.specs.Groups.{belong_together, groups_of, Member, members_among}
use Rattle.fc_collect.specs.Groups.{name_of_member}
use Rattle.fc_collect.specs.declared.commands.closed.Flaw.{Flaw, TheVariants.{Open, Won}}
use Rattle.fc_collect.specs.declared.streams.faults.Summary.{Summary}

-- -------- What `closed` finds of a collection: that it is closed, where none of its boards is won and each move of one card leads from one of them to a board that is equivalent to one of them; and else what is first in the way. From: this project's profile.

-- ---- one member

-- the member with the board after the move
abbrev pub member_after : Member → Move → Member
member_after member move = record member { contents = record member.contents { board = after_move member.contents.board move } }

-- the move leads to a board that belongs together with none of these members'
abbrev pub leads_out : List Member → Member → Move → Bool
leads_out all member move = not (list_any (λ other. belong_together other (member_after member move)) all)

-- the first legal move that leads out, in the order of piles
abbrev pub move_out : List Member → Member → Option Move
move_out all member = find (leads_out all member) (legal_moves (game_of member.heading.variant) member.contents.board)

-- by the move that leads out, if there is one
abbrev pub opened : Option Move → Option Flaw
opened move = option_map (λ move. Open (move_bytes move)) move

-- what is wrong with a member of a collection that is to be closed: its board is won, or a move leads out
abbrev pub flaw_of : List Member → Member → Option Flaw
flaw_of all member = if has_all_home member.contents.board then Some Won else opened (move_out all member)

-- ---- the collection

-- what is found: the first member that has a flaw, by its name; how many records are refused; or how many boards are closed, and how many classes these are
pub data Finding : Type 0 where
  Flawed : (name : Text) → (flaw : Flaw) → Finding
  Refused : (records : ℕ) → Finding
  Closed : (records classes : ℕ) → Finding

-- the first of these members that has a flaw among all
abbrev pub first_flawed : List Member → List Member → Option Finding
first_flawed all [] = None
first_flawed all (member ∷ members) = option_or (option_map (Flawed (name_of_member member)) (flaw_of all member)) (first_flawed all members)

-- where no member has a flaw: with a refused record it is never closed
abbrev pub flawless : Summary → ℕ → Finding
flawless summary classes = if summary.refused == 0 then Closed summary.records classes else Refused summary.refused

abbrev pub finding_of : Summary → List Member → Finding
finding_of summary members = unwrap_or (first_flawed members members) (flawless summary (length (groups_of members)))

-- a member has a flaw
abbrev pub has_flaw : List Member → Bool
has_flaw members = is_some (first_flawed members members)

-- the boards of the members of one variant
abbrev pub boards_of : Variant → List Member → List Board
boards_of variant members =
    map (λ member. member.contents.board) (filter (λ member. bytes_eq (variant_word variant) (variant_word member.heading.variant)) members)

-- ---- what is printed of it

abbrev pub finding_line : Finding → Text
finding_line (Flawed name Won) = codes "won " ++ name ++ line_feed ∷ []
finding_line (Flawed name (Open move)) = codes "open " ++ name ++ blank ∷ move.from ∷ move.to ∷ line_feed ∷ []
finding_line (Refused records) = codes "refused " ++ decimal records ++ codes " records" ++ line_feed ∷ []
finding_line (Closed records classes) = codes "closed " ++ decimal records ++ codes " records " ++ decimal classes ++ codes " classes" ++ line_feed ∷ []

-- as an object of JSON
abbrev pub finding_object : Finding → Text
finding_object (Flawed name Won) = json_object ((codes "finding", json_string (codes "won")) ∷ (codes "name", json_string name) ∷ [])
finding_object (Flawed name (Open move)) =
    json_object ((codes "finding", json_string (codes "open")) ∷ (codes "name", json_string name) ∷ (codes "move", json_string (move.from ∷ move.to ∷ [])) ∷ [])
finding_object (Refused records) = json_object ((codes "finding", json_string (codes "refused")) ∷ (codes "records", decimal records) ∷ [])
finding_object (Closed records classes) =
    json_object ((codes "finding", json_string (codes "closed")) ∷ (codes "records", decimal records) ∷ (codes "classes", decimal classes) ∷ [])

-- ---- what counts as refused

-- the records that are refused, and one more where those that are accepted fail together
abbrev pub refused_with : (List Member → Bool) → Variant → List RecordText → ℕ
refused_with fails variant records =
    if fails (members_among variant records) then count_by (is_refused variant) records + 1 else count_by (is_refused variant) records
