-- What the code holds and promises on its way from a collection to its output, and what it keeps of records and groups. What is written is said without it.
pub mod Held
use Rattle.std.specs.Io.KnownBytes.{Appends, Consumes, IsAtEnd, Keeps}
use Rattle.std.specs.{List.{AllZip, count_by, flat_map}, Option.{is_some}, Prelude.{◌&&◌, ◌++◌}}
use Rattle.std.specs.Prelude.{◌+◌, ◌<◌, ◌∷◌, ◌≡◌, ◌≤◌, [], All, Bool, codes, drop, Err, length}
use Rattle.std.specs.{Prelude.{List, map, None, Ok, Option, Result, Some, take, ℕ}, Str.{bytes_eq}}
use Rattle.{fc_card.specs.Types.{Text}, fc_text.specs.Bytes.{blank}}
use Rattle.fc_board.specs.Boards.{Board, IsWellFormed}
use Rattle.fc_board.specs.Games.{game_of, renamings_of, variant_word}
use Rattle.fc_board.specs.Passages.{carried, inverse_passage, Passage}
use Rattle.fc_board.specs.declared.rule.bakers_game.BakersGame.{BakersGame as RuledBakersGame}
use Rattle.fc_board.specs.declared.rule.eight_off.EightOff.{EightOff as RuledEightOff}
use Rattle.fc_board.specs.declared.rule.freecell.FreeCell.{FreeCell as RuledFreeCell}
use Rattle.fc_board.specs.declared.rule.Variant.{Variant}
use Rattle.fc_canon.specs.{chosen_passage, HasCanonText, key_of}
use Rattle.fc_canon.specs.declared.answers.CanonText.{CanonText}
use Rattle.fc_record.specs.{Grammar.{Contents, Heading}, Printing.{printed_with}}
use Rattle.fc_record.specs.RecordTexts.{header_mark, RecordText}
use Rattle.fc_record.specs.declared.record.RecordFault.{RecordFault}
use Rattle.fc_record.specs.declared.record.RecordText.{RecordText as GivenText}
use Rattle.fc_collect.specs.Groups.{groups_of, leaders_after, Member, members_among, name_of_member}
use Rattle.fc_collect.specs.Groups.{owner_among, passage_of, solution_of, summary_of, wins_of}
use Rattle.fc_collect.specs.{inside.Held.{held, variant_of}, Limits.{most_record_bytes}}
use Rattle.fc_collect.specs.{Promises.{Begins, fault_failures, IsSmall}, Records.{begun, cut}}
use Rattle.fc_collect.specs.Records.{finished, if_record, next_number, next_text, records_among}
use Rattle.fc_collect.specs.Streams.{CallCounts}
use Rattle.fc_collect.specs.declared.{
  commands.{closed.{KeptBoard.{KeptBoard}, KeptBoards.{KeptBoards}}, count.Figures.{Figures}},
  commands.{count.Tally.{Tally}, names.GroupNames.{GroupNames}},
  engine.progress.Progress.{Progress},
  groups.by_game.ByGame.{ByGame, TheVariants.{BakersGame, EightOff, FreeCell}},
  groups.{Gathered.{Gathered}, GroupKey.{GroupKey}, solution.Shared.{Shared}},
  groups.solution.{SharedMember.{SharedMember}, Solution.{Solution}},
  streams.faults.RunFault.{RunFault, TheVariants.{Memory, Read, ReaderNeverEnds, TooLarge, Write}},
  streams.{faults.Summary.{Summary}, limits.Limits.{Limits}},
}

abbrev pub AnyCanon : Type 0
AnyCanon = ByGame (CanonText RuledFreeCell) (CanonText RuledBakersGame) (CanonText RuledEightOff)

abbrev pub text_held : AnyCanon → Text
text_held (FreeCell made) = made.text.items
text_held (BakersGame made) = made.text.items
text_held (EightOff made) = made.text.items

abbrev pub passage_held : AnyCanon → Passage
passage_held (FreeCell made) = made.passage
passage_held (BakersGame made) = made.passage
passage_held (EightOff made) = made.passage

-- -------- What a window of bytes holds after a read put more after them.

-- how many bytes a window has room for: those of a record that is begun, and as many as a read gives
abbrev pub window_room : ℕ
window_room = most_record_bytes + most_record_bytes

-- a read put these bytes after those held
pub record FillsWindow (old new : Text) (before after : Option Text) (count : ℕ) : Type 0 where
  pub given : Text
  pub follows : new ≡ old ++ given
  pub long : length given ≡ count
  pub consumed : Consumes before after given
  pub ended : count ≡ 0 → IsAtEnd after

-- a read that fails changes nothing
abbrev pub FillFits : {E : Type 0} → Text → Text → Option Text → Option Text → Result ℕ E → Type 0
FillFits old new before after (Ok count) = FillsWindow old new before after count
FillFits old new before after (Err _) = (new ≡ old) × Keeps before after

-- -------- Where a run is in a collection, and the texts that begin there.

-- the text that a printer is given
abbrev pub as_text : GivenText → RecordText
as_text given = record { number = given.number; start = given.start; bytes = given.bytes.now }

-- the text that begins where the run is, with these bytes
abbrev pub text_at : Progress → Text → RecordText
text_at progress bytes = record { number = progress.number; start = progress.start; bytes = bytes }

-- the run has passed these bytes
pub record Passes (old new : Progress) (bytes : Text) : Type 0 where
  pub number : new.number ≡ next_number (text_at old bytes)
  pub start : new.start ≡ old.start + length bytes

-- no header begins from the one place up to the other: what is finished and begun in all of the bytes is what is finished and begun after the second
pub record PassesNoHeader (bytes : Text) (from at : ℕ) : Type 0 where
  pub finished_same : (progress : Progress) → finished (text_at progress (take from bytes)) (drop from bytes) ≡ finished (text_at progress (take at bytes)) (drop at bytes)
  pub begun_same : (progress : Progress) → begun (text_at progress (take from bytes)) (drop from bytes) ≡ begun (text_at progress (take at bytes)) (drop at bytes)

-- where the next header is: the text that begins anywhere is finished there, and not before
abbrev pub Searched : Text → ℕ → Option ℕ → Type 0
Searched bytes from None = (progress : Progress) → let front = text_at progress (take from bytes) in
    (finished front (drop from bytes) ≡ []) × (begun front (drop from bytes) ≡ text_at progress bytes)
Searched bytes from (Some at) =
    (from ≤ at) × (at < length bytes) × (take 1 (drop at bytes) ≡ header_mark ∷ [])
    × ((progress : Progress) → let front = text_at progress (take from bytes) in let whole = text_at progress (take at bytes) in
    (finished front (drop from bytes) ≡ whole ∷ finished (next_text whole) (drop (at + 1) bytes))
    × (begun front (drop from bytes) ≡ begun (next_text whole) (drop (at + 1) bytes)))

-- ---- what is held of a collection, where no header begins after the first byte of its first `searched` bytes

-- the texts that a header ends there
abbrev pub finished_in : Progress → Text → ℕ → List RecordText
finished_in progress held searched = finished (text_at progress (take searched held)) (drop searched held)

-- the text that is begun there
abbrev pub begun_in : Progress → Text → ℕ → RecordText
begun_in progress held searched = begun (text_at progress (take searched held)) (drop searched held)

-- all of them
abbrev pub cut_in : Progress → Text → ℕ → List RecordText
cut_in progress held searched = cut (text_at progress (take searched held)) (drop searched held)

-- the records that a header ends there
abbrev pub records_in : Progress → Text → ℕ → List RecordText
records_in progress held searched = records_among (finished_in progress held searched)

-- -------- What the engine promises of a text that it prints after what is pending, and writes in part, and of the counts of its output.

-- what writes add to the counts of their output
abbrev pub output_counts : {A : Type 0} → Result A RunFault → CallCounts
output_counts (Ok _) = record { failures = 0; fills = 0; ends = 0; flushes = 0 }
output_counts (Err fault) = record { failures = fault_failures fault; fills = 0; ends = 0; flushes = 0 }

-- the text was put after what was pending, and a front of both went out
pub record Sends (text pending_old pending_new : Text) (before after : Option Text) : Type 0 where
  pub written : Text
  pub appended : Appends before after written
  pub all : written ++ pending_new ≡ pending_old ++ text

-- what went out begins what was pending and this text
pub record SendsSome (text pending : Text) (before after : Option Text) : Type 0 where
  pub written : Text
  pub appended : Appends before after written
  pub begins : Begins written (pending ++ text)

-- a fault of printing: no memory, or a write that failed
abbrev pub IsPrintFault : RunFault → Type 0
IsPrintFault Memory = Unit {0}
IsPrintFault Write = Unit {0}
IsPrintFault Read = ⊥
IsPrintFault TooLarge = ⊥
IsPrintFault ReaderNeverEnds = ⊥

-- how what went out goes with the result of printing a text after what was pending
abbrev pub SendingFits : {A : Type 0} → Text → Text → Text → Option Text → Option Text → Result A RunFault → Type 0
SendingFits text pending_old pending_new before after (Ok _) = Sends text pending_old pending_new before after
SendingFits text pending_old pending_new before after (Err fault) = IsPrintFault fault × SendsSome text pending_old before after

-- -------- What the parts of an engine promise: to print texts, to take up what a read gave, and to finish.

-- these records were printed: the refused ones are counted, and the state is one after them
pub record Treats (refuses : RecordText → Bool) (held_old held_new : List RecordText → Type 0) (old new : Progress) (records : List RecordText) : Type 0 where
  pub refused : new.refused ≡ old.refused + count_by refuses records
  pub keeps : (seen : List RecordText) → held_old seen → held_new (seen ++ records)

-- what is held passes no limit
pub record IsAllowed (limits : Limits) (progress : Progress) (held : Text) (searched : ℕ) : Type 0 where
  pub bytes : progress.start + length held ≤ limits.bytes
  pub texts : All (IsSmall limits) (cut_in progress held searched)

-- what a read gave was taken up: the records that a header ends were printed and written
pub record ConsumedRead (limits : Limits) (output : List RecordText → Text) (refuses : RecordText → Bool) (held_old held_new : List RecordText → Type 0) (old new : Progress) (held : Text) (searched : ℕ) (left pending : Text) (before after : Option Text) : Type 0 where
  pub allowed : IsAllowed limits old held searched
  pub counts : Treats refuses held_old held_new old new (records_in old held searched)
  pub fewer : new.refused < new.number
  pub begun : begun_in old held searched ≡ text_at new left
  pub none : pending ≡ []
  pub written : Appends before after (output (records_in old held searched))

-- what a read gave was not taken up
abbrev pub TakeUpFault : Limits → (List RecordText → Text) → Progress → Text → ℕ → Option Text → Option Text → RunFault → Type 0
TakeUpFault limits output old held searched before after Read = ⊥
TakeUpFault limits output old held searched before after Write = IsAllowed limits old held searched × SendsSome (output (records_in old held searched)) [] before after
TakeUpFault limits output old held searched before after Memory = IsAllowed limits old held searched × SendsSome (output (records_in old held searched)) [] before after
TakeUpFault limits output old held searched before after TooLarge = (¬ IsAllowed limits old held searched) × Appends before after []
TakeUpFault limits output old held searched before after ReaderNeverEnds = ⊥

abbrev pub ConsumesRead : {A : Type 0} → Limits → (List RecordText → Text) → (RecordText → Bool) → (List RecordText → Type 0) → (List RecordText → Type 0) → Progress → Progress → Text → ℕ → Text → Text → Option Text → Option Text → Result A RunFault → Type 0
ConsumesRead limits output refuses held_old held_new old new held searched left pending before after (Ok _) = ConsumedRead limits output refuses held_old held_new old new held searched left pending before after
ConsumesRead limits output refuses held_old held_new old new held searched left pending before after (Err fault) = TakeUpFault limits output old held searched before after fault

-- what is printed last: for the last text, and at the end for all records
abbrev pub last_output : (List RecordText → Text) → (List RecordText → Text) → List RecordText → RecordText → Text
last_output output ending seen text = output (if_record text) ++ ending (seen ++ if_record text)

-- the last text and the end were printed and written, and so many records count as refused
pub record Finished (first : ℕ) (output : Text) (refused : ℕ) (progress : Progress) (text : RecordText) (before after : Option Text) (summary : Summary) : Type 0 where
  pub written : Appends before after output
  pub records : summary.records + first ≡ progress.number + length (if_record text)
  pub refused_so : summary.refused ≡ refused

abbrev pub Finishes : ℕ → Text → ℕ → Progress → RecordText → Option Text → Option Text → Result Summary RunFault → Type 0
Finishes first output refused progress text before after (Ok summary) = Finished first output refused progress text before after summary
Finishes first output refused progress text before after (Err fault) = IsPrintFault fault × SendsSome output [] before after

-- -------- What a command prints for texts and keeps of them, which goes by the members among them, where records without a header have this variant.

-- the record of this number, as a member
abbrev pub member_of : ℕ → Heading → Contents → Member
member_of number heading contents = record { number = number; heading = heading; contents = contents }

-- what is printed for a text after these earlier ones
abbrev pub printed_after : (RecordText → Option Text → RecordFault → Text) → (List Member → ℕ → Heading → Contents → Text) → Variant → List RecordText → RecordText → Text
printed_after refusal lines variant seen = printed_with refusal (lines (members_among variant seen)) variant

-- what is printed at the end for all texts
abbrev pub ended : (Summary → List Member → Text) → Variant → List RecordText → Text
ended ending variant seen = ending (summary_of variant seen) (members_among variant seen)

-- what is kept is kept of these texts
abbrev pub Remembers : {K : Type 0} → (K → List Member → Type 0) → Variant → K → List RecordText → Type 0
Remembers keeps variant kept seen = keeps kept (members_among variant seen)

-- -------- The groups as a run keeps them: a key and what is kept of each, in first-seen order.

-- the board is one of its game
abbrev pub HasBoard : Member → Type 0
HasBoard member = IsWellFormed (game_of member.heading.variant) member.contents.board

-- the key of the canonical board
abbrev pub canonical_key : Variant → Board → List ℕ
canonical_key variant board = key_of (carried (chosen_passage (renamings_of variant) board) board)

-- what the group of a member is known by
abbrev pub group_key : Member → GroupKey
group_key member =
    record { variant = member.heading.variant; board = record { codes = record { items = canonical_key member.heading.variant member.contents.board } } }

-- they are of one group
abbrev pub same_key : GroupKey → GroupKey → Bool
same_key key other = bytes_eq (variant_word key.variant) (variant_word other.variant) && bytes_eq key.board.codes.items other.board.codes.items

-- the keys are those of the groups of these members, which have boards
abbrev pub AreKeys : List GroupKey → List Member → Type 0
AreKeys keys members = (keys ≡ map group_key (leaders_after [] members)) × All HasBoard members

-- the place is this one, if it is one of so many
abbrev pub IsPlaceAmong : ℕ → ℕ → Option ℕ → Type 0
IsPlaceAmong count place (Some found) = (found ≡ place) × (found < count)
IsPlaceAmong count place None = count ≤ place

-- the members have boards, the keys are those of their groups, and what is kept of each group is kept of its members
pub record Gathers {K : Type 0} (keeps : K → List Member → Type 0) (gathered : Gathered K) (members : List Member) : Type 0 where
  pub boards : All HasBoard members
  pub keys : gathered.keys.keys ≡ map group_key (leaders_after [] members)
  pub groups : AllZip keeps gathered.groups.items (groups_of members)

-- -------- What `share` keeps of a group, against the members of the group.

-- they are of one variant
abbrev pub SameGame : Member → Member → Type 0
SameGame member other = member.heading.variant ≡ other.heading.variant

-- the passage is the owner's, and the list is the owner's solution
pub record KeepsSolution (kept : Solution) (owner : Member) : Type 0 where
  pub number : kept.owner ≡ owner.number
  pub variant : variant_of kept.passage ≡ owner.heading.variant
  pub passage : held kept.passage ≡ passage_of owner
  pub moves : solution_of owner ≡ Some kept.list

-- a solution is kept where a member of the group has one
abbrev pub KeepsOwner : Option Solution → Option Member → Type 0
KeepsOwner None None = Unit {0}
KeepsOwner None (Some owner) = ⊥
KeepsOwner (Some kept) None = ⊥
KeepsOwner (Some kept) (Some owner) = KeepsSolution kept owner

-- the member's number, name and board, and the inverse of its passage
pub record KeepsMember (kept : SharedMember) (member : Member) : Type 0 where
  pub number : kept.number ≡ member.number
  pub name : kept.name.items ≡ name_of_member member
  pub variant : variant_of kept.back ≡ member.heading.variant
  pub board : held kept.board ≡ member.contents.board
  pub back : held kept.back ≡ inverse_passage (passage_of member)

-- all members, and the first list that wins
pub record KeepsShared (kept : Shared) (members : List Member) : Type 0 where
  pub each : AllZip KeepsMember kept.members.items members
  pub solution : KeepsOwner kept.solution (owner_among members)

-- -------- What `same` keeps, against the members so far.

-- the canonical text of this member's board, and the passage to it
pub record IsCanonOf (held : AnyCanon) (member : Member) : Type 0 where
  pub variant : variant_of held ≡ member.heading.variant
  pub canon : HasCanonText (game_of member.heading.variant) (renamings_of member.heading.variant) member.contents.board (text_held held) (passage_held held)

-- those of the first member, once there is one
abbrev pub KeepsFirst : Option AnyCanon → List Member → Type 0
KeepsFirst None [] = Unit {0}
KeepsFirst None (first ∷ others) = ⊥
KeepsFirst (Some canon) [] = ⊥
KeepsFirst (Some canon) (first ∷ others) = IsCanonOf canon first

-- -------- What `group` keeps of a group, against the members of the group.

-- the name after a blank
abbrev pub name_word : Member → Text
name_word member = blank ∷ name_of_member member

-- the names of the first member and of the others, how long the first is, and how many they are
pub record AreNames (kept : GroupNames) (first : Member) (others : List Member) : Type 0 where
  pub names : kept.names.items ≡ name_of_member first ++ flat_map name_word others
  pub first_len : kept.first_len ≡ length (name_of_member first)
  pub count : kept.count ≡ length others + 1

-- those of the members, of which there is one at least
abbrev pub KeepsNames : GroupNames → List Member → Type 0
KeepsNames kept [] = ⊥
KeepsNames kept (first ∷ others) = AreNames kept first others

-- -------- What `closed` keeps of a member, and of all. From: this project.

-- the member's name and board
pub record KeepsBoard (kept : KeptBoard) (member : Member) : Type 0 where
  pub name : kept.name.items ≡ name_of_member member
  pub variant : variant_of kept.board ≡ member.heading.variant
  pub board : held kept.board ≡ member.contents.board

-- the keys are those of the members' groups, and each board is kept
pub record KeepsBoards (kept : KeptBoards) (members : List Member) : Type 0 where
  pub keys : AreKeys kept.keys.keys members
  pub each : AllZip KeepsBoard kept.boards.items members

-- the member is of this variant, and this is its board
abbrev pub IsOn : Variant → Board → Member → Type 0
IsOn variant board member = (member.heading.variant ≡ variant) × (member.contents.board ≡ board)

-- -------- What `count` keeps, against the members so far, and the figures that it finds.

-- whether a list of one of the members wins
abbrev pub KeepsSolved : Bool → List Member → Type 0
KeepsSolved solved members = solved ≡ is_some (owner_among members)

-- the groups, and the numbers of members, of their lists and of those that win
pub record KeepsTally (tally : Tally) (all : List Member) : Type 0 where
  pub groups : Gathers KeepsSolved tally.groups all
  pub members : tally.members ≡ length all
  pub lists : tally.lists ≡ length (flat_map (λ member. member.contents.lists) all)
  pub wins : tally.wins ≡ length (flat_map wins_of all)

-- the figures with their names
abbrev pub figures_seen : Figures → List (Text × ℕ)
figures_seen figures =
    (codes "records", figures.records) ∷ (codes "refused", figures.refused) ∷ (codes "groups", figures.groups) ∷ (codes "doubles", figures.doubles)
    ∷ (codes "lists", figures.lists) ∷ (codes "wins", figures.wins) ∷ (codes "solved", figures.solved) ∷ []
