-- Groups of records, and what is printed of them.
use Rattle.std.specs.Fmt.{decimal}
use Rattle.std.specs.List.{count_by, filter, find, flat_map, join_with_byte, list_any}
use Rattle.std.specs.{Option.{is_some, option_to_list}, Prelude.{◌&&◌, ◌++◌, ◌-◌, ◌==◌, ◌∷◌, []}}
use Rattle.std.specs.Prelude.{Bool, codes, if◌then◌else◌, length, List, map, None, Option, Some, ℕ}
use Rattle.std.specs.Str.{bytes_eq}
use Rattle.{fc_board.specs.declared.rule.Variant.{Variant}, fc_card.specs.Types.{Text}}
use Rattle.fc_board.specs.{Games.{game_of, renamings_of, variant_word}, Moves.{MoveList}}
use Rattle.fc_board.specs.Passages.{inverse_passage, Passage, passage_product}
use Rattle.fc_board.specs.Play.{list_verdict}
use Rattle.fc_text.specs.{Bytes.{blank, line_feed}, Printed.{text_of}}
use Rattle.{fc_canon.specs.{chosen_passage, least_text}, fc_collect.specs.Records.{outputs_after}}
use Rattle.fc_record.specs.Grammar.{Accepted, Contents, Heading, Reading, reading_of, Refused}
use Rattle.fc_record.specs.Printing.{header_text, image_line, is_refused, list_line, name_of}
use Rattle.fc_record.specs.{Printing.{printed, show_lines}, RecordTexts.{RecordText}}
use Rattle.fc_record.specs.Tables.{is_win, json_object}
use Rattle.fc_collect.specs.declared.streams.faults.Summary.{Summary}

-- -------- The groups of a collection: the accepted records of one variant whose boards are equivalent; and what `group` and `unique` print of them. From: this project's profile.

-- an accepted record, with its number
pub record Member : Type 0 where
  pub number : ℕ
  pub heading : Heading
  pub contents : Contents

-- the record, if it is accepted
abbrev pub if_accepted : ℕ → Reading → List Member
if_accepted number (Accepted heading contents) = record { number = number; heading = heading; contents = contents } ∷ []
if_accepted number (Refused name fault) = []

-- those of the records that are accepted, where records without a header have this variant
abbrev pub members_among : Variant → List RecordText → List Member
members_among variant records = flat_map (λ text. if_accepted text.number (reading_of variant text.bytes)) records

abbrev pub name_of_member : Member → Text
name_of_member member = name_of member.number member.heading.name

abbrev pub canonical_text : Member → Text
canonical_text member = least_text (renamings_of member.heading.variant) member.contents.board

-- ---- groups

-- they are of one variant, and their boards are equivalent: these have one canonical text
-- said again: together_exactly_where_equivalent
abbrev pub belong_together : Member → Member → Bool
belong_together member other =
    bytes_eq (variant_word member.heading.variant) (variant_word other.heading.variant) && bytes_eq (canonical_text member) (canonical_text other)

-- the members that lead a group, after these earlier ones: those that no earlier member belongs to
abbrev pub leaders_after : List Member → List Member → List Member
leaders_after earlier [] = []
leaders_after earlier (member ∷ members) =
    if list_any (λ other. belong_together other member) earlier then leaders_after (earlier ++ member ∷ []) members
    else member ∷ leaders_after (earlier ++ member ∷ []) members

-- the group of each leader: all members that belong to it, in their order
abbrev pub groups_of : List Member → List (List Member)
groups_of members = map (λ leader. filter (belong_together leader) members) (leaders_after [] members)

-- ---- group

abbrev pub members_line : List Member → Text
members_line members =
    codes "# members " ++ decimal (length members) ++ codes ": " ++ join_with_byte blank (map name_of_member members) ++ line_feed ∷ []

-- the first member's header, the names of all, and the canonical text
abbrev pub group_lines : List Member → Text
group_lines [] = []
group_lines (first ∷ others) =
    header_text first.heading.variant (name_of_member first) ++ members_line (first ∷ others) ++ canonical_text first

-- ---- unique

-- as `show` prints it, where none of the earlier members belongs together with it, and else nothing
abbrev pub unique_lines : List Member → ℕ → Heading → Contents → Text
unique_lines earlier number heading contents =
    if list_any (λ other. belong_together other (record { number = number; heading = heading; contents = contents })) earlier then [] else show_lines number heading contents

-- what is printed for records as they come, where records without a header have this variant
abbrev pub unique_output : Variant → List RecordText → Text
unique_output variant records = outputs_after (λ earlier. printed (unique_lines (members_among variant earlier)) variant) [] records

-- ---- at the end of a run

-- the lines of all groups, where records without a header have this variant
abbrev pub grouped : (List Member → Text) → Variant → List RecordText → Text
grouped lines variant records = flat_map lines (groups_of (members_among variant records))

-- -------- What `share` prints for the groups of a collection: each member with the solution of its group. From: this project's profile.

abbrev pub passage_of : Member → Passage
passage_of member = chosen_passage (renamings_of member.heading.variant) member.contents.board

-- the first list of a member that wins from its own board
abbrev pub solution_of : Member → Option MoveList
solution_of member =
    find (λ list. is_win (list_verdict (game_of member.heading.variant) member.contents.board list)) member.contents.lists

-- the member whose solution is shared: the first that has one
abbrev pub owner_among : List Member → Option Member
owner_among members = find (λ member. is_some (solution_of member)) members

-- the passage from the owner's board to that of a member: to the canonical board, and back from there
abbrev pub passage_between : Member → Member → Passage
passage_between owner member = passage_product (passage_of owner) (inverse_passage (passage_of member))

-- the owner gets its solution as it is, and every other member the image
abbrev pub shared_line : Member → Member → MoveList → Text
shared_line owner member list =
    if owner.number == member.number then list_line list else image_line (passage_between owner member) list

-- by the owner, and by its solution
abbrev pub solution_line : Member → Option Member → Text
solution_line member None = []
solution_line member (Some owner) = flat_map (shared_line owner member) (option_to_list (solution_of owner))

-- a member's header, its own board and the group's solution, where it has one
abbrev pub member_lines : Option Member → Member → Text
member_lines owner member =
    header_text member.heading.variant (name_of_member member) ++ text_of member.contents.board ++ solution_line member owner

abbrev pub share_lines : List Member → Text
share_lines members = flat_map (member_lines (owner_among members)) members

-- -------- What `count` prints at the end of a run: figures of the whole collection, in one line. From: this project's profile.

-- how many records there are, and how many of them are refused, where records without a header have this variant
abbrev pub summary_of : Variant → List RecordText → Summary
summary_of variant records = record { records = length records; refused = count_by (is_refused variant) records }

-- the lists of a member that win from its own board
abbrev pub wins_of : Member → List MoveList
wins_of member = filter (λ list. is_win (list_verdict (game_of member.heading.variant) member.contents.board list)) member.contents.lists

-- each with its name: records, and those refused; groups, and the members beyond the first of each; lists, and those that win; groups in which one wins
abbrev pub figures : Summary → List Member → List (Text × ℕ)
figures summary members =
    (codes "records", summary.records) ∷ (codes "refused", summary.refused)
    ∷ (codes "groups", length (groups_of members)) ∷ (codes "doubles", length members - length (groups_of members))
    ∷ (codes "lists", length (flat_map (λ member. member.contents.lists) members)) ∷ (codes "wins", length (flat_map wins_of members))
    ∷ (codes "solved", count_by (λ group. is_some (owner_among group)) (groups_of members)) ∷ []

-- in one line, each after its name
abbrev pub figures_line : List (Text × ℕ) → Text
figures_line figures = join_with_byte blank (map (λ figure. figure.0 ++ blank ∷ decimal figure.1) figures) ++ line_feed ∷ []

-- as an object of JSON
abbrev pub figures_object : List (Text × ℕ) → Text
figures_object figures = json_object (map (λ figure. (figure.0, decimal figure.1)) figures)
