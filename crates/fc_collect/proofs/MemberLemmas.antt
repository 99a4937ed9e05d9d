-- The accepted records of a collection: what each says, that its lists can be printed, and that their numbers differ.
use Rattle.std.proofs.Common.{◌+◌, ◌∙◌, ◌∷◌, ◌≡◌, ◌≤◌, ◌⊎◌, [], All, arith, Contains, drop, inl, inr, List, refl, suc}
use Rattle.std.proofs.{Common.{sym, zero, ℕ}, lemmas.List.Elements.{All-append, All-cons, All-contains, All-nil}}
use Rattle.std.proofs.lemmas.List.Elements.{All-weaker, Contains-append_cases}
use Rattle.fc_board.specs.{Boards.{IsWellFormed}, Games.{Game, game_of}}
use Rattle.fc_board.specs.Moves.{ListFits, move_count, MoveList, OneCard, Runs}
use Rattle.fc_board.specs.declared.rule.Variant.{Variant}
use Rattle.fc_text.{proofs.ListedLemmas.{Listed-Fit, Listed-RunFit}, specs.{Lines.{Piece}, Notation.{most_moves}}}
use Rattle.fc_record.specs.Grammar.{Accepted, AreLists, IsList, next_list, no_lines, Reading, reading_of, RecordSays}
use Rattle.fc_record.specs.{Grammar.{Refused, skipped_line}, RecordTexts.{RecordText}}
use Rattle.fc_collect.proofs.{AcceptanceLemmas.{Says-from_accepted}, RecordLemmas.{cut-NumberedFrom, NumberedFrom}}
use Rattle.fc_collect.specs.{Groups.{if_accepted, Member, members_among}, Records.{nothing, records_of}}

-- ---- what is said

-- the member is what these bytes say
abbrev pub IsSaid : Variant → Member → Type 0
IsSaid variant member = (bytes : List ℕ) × RecordSays variant bytes member.heading member.contents

if_accepted-said : (variant : Variant) (number : ℕ) (bytes : List ℕ) (reading : Reading) → reading_of variant bytes ≡ reading
    → All (IsSaid variant) (if_accepted number reading)
if_accepted-said variant number bytes (Accepted heading contents) e =
    All-cons (IsSaid variant) _ [] (bytes, Says-from_accepted variant bytes heading contents e) (All-nil (IsSaid variant))
if_accepted-said variant number bytes (Refused name fault) e = All-nil (IsSaid variant)

pub members-said : (variant : Variant) (records : List RecordText) → All (IsSaid variant) (members_among variant records)
members-said variant [] = All-nil (IsSaid variant)
members-said variant (text ∷ records) =
    All-append (IsSaid variant) (if_accepted text.number (reading_of variant text.bytes)) (members_among variant records)
    (if_accepted-said variant text.number text.bytes (reading_of variant text.bytes) refl) (members-said variant records)

pub member-said : (variant : Variant) (records : List RecordText) (member : Member) → Contains (members_among variant records) member
    → IsSaid variant member
member-said variant records member there = All-contains (IsSaid variant) (members_among variant records) member (members-said variant records) there

pub member-IsWellFormed : (variant : Variant) (records : List RecordText) (member : Member) → Contains (members_among variant records) member
    → IsWellFormed (game_of member.heading.variant) member.contents.board
member-IsWellFormed variant records member there = (member-said variant records member there).1.board.well_formed

-- ---- lists

-- a list that can be printed and read again
abbrev pub CanPrint : Game → MoveList → Type 0
CanPrint game list = ListFits game list × (move_count list ≤ most_moves)

-- what was read can be printed
pub lists_can : {game : Game} {lines : List Piece} {lists : List MoveList} → AreLists game lines lists → All (CanPrint game) lists
lists_can {game} no_lines = All-nil (CanPrint game)
lists_can {game} (next_list {lines} {lists} rest line list marked is) = All-cons (CanPrint game) list lists (by_form list is) (lists_can rest)
  where
    by_form : (list : MoveList) → IsList game line.bytes list → CanPrint game list
    by_form (OneCard moves) (one, listed) = (Listed-Fit game (drop 1 line.bytes) moves listed, listed.at_most)
    by_form (Runs moves) (two, listed) = (Listed-RunFit game (drop 2 line.bytes) moves listed, listed.at_most)
lists_can (skipped_line rest line marked is) = lists_can rest

pub member-Can : (variant : Variant) (records : List RecordText) (member : Member) (list : MoveList) → Contains (members_among variant records) member
    → Contains member.contents.lists list → CanPrint (game_of member.heading.variant) list
member-Can variant records member list there listed =
    All-contains (CanPrint (game_of member.heading.variant)) member.contents.lists list
    (lists_can (member-said variant records member there).1.lists) listed

-- ---- numbers

if_accepted-number : (number : ℕ) (reading : Reading) → All (λ member. member.number ≡ number) (if_accepted number reading)
if_accepted-number number (Accepted heading contents) =
    All-cons (λ member. member.number ≡ number) _ [] refl (All-nil (λ member. member.number ≡ number))
if_accepted-number number (Refused name fault) = All-nil (λ member. member.number ≡ number)

if_accepted-one : (number : ℕ) (reading : Reading) (member other : Member) → Contains (if_accepted number reading) member
    → Contains (if_accepted number reading) other → member ≡ other
if_accepted-one number (Accepted heading contents) member other (zero, inside, at) (zero, inside', at') = sym at ∙ at'
if_accepted-one number (Accepted heading contents) member other (zero, inside, at) (suc place, inside', at') = absurd (omega arith)
if_accepted-one number (Accepted heading contents) member other (suc place, inside, at) (place', inside', at') = absurd (omega arith)
if_accepted-one number (Refused name fault) member other (place, inside, at) there = absurd (omega arith)

module _ (variant : Variant) where
  numbers-from : (number : ℕ) (records : List RecordText) → NumberedFrom number records
      → All (λ member. number ≤ member.number) (members_among variant records)
  numbers-from number [] numbered = All-nil (λ member. number ≤ member.number)
  numbers-from number (text ∷ records) numbered =
      All-append (λ member. number ≤ member.number) (if_accepted text.number (reading_of variant text.bytes)) (members_among variant records)
      (All-weaker (λ member. member.number ≡ text.number) (λ member. number ≤ member.number) (λ member is. omega (arith, is, numbered.0))
      (if_accepted text.number (reading_of variant text.bytes))
      (if_accepted-number text.number (reading_of variant text.bytes)))
      (All-weaker (λ member. number + 1 ≤ member.number) (λ member. number ≤ member.number) (λ member is. omega (arith, is))
      (members_among variant records)
      (numbers-from (number + 1) records numbered.1))

  one_number : (number : ℕ) (records : List RecordText) → NumberedFrom number records → (member other : Member)
      → Contains (members_among variant records) member
      → Contains (members_among variant records) other → member.number ≡ other.number → member ≡ other
  one_number number [] numbered member other (place, inside, at) there' same = absurd (omega arith)
  one_number number (text ∷ records) numbered member other there there' same =
      by (Contains-append_cases here (members_among variant records) member there)
      (Contains-append_cases here (members_among variant records) other there')
      (λ one two. one_number (number + 1) records numbered.1 member other one two same)
    where
      here : List Member
      here = if_accepted text.number (reading_of variant text.bytes)

      first : (member : Member) → Contains here member → member.number ≡ number
      first member there =
          All-contains (λ member. member.number ≡ text.number) here member (if_accepted-number text.number (reading_of variant text.bytes)) there
          ∙ numbered.0

      later : (member : Member) → Contains (members_among variant records) member → number + 1 ≤ member.number
      later member there =
          All-contains (λ member. number + 1 ≤ member.number) (members_among variant records) member
          (numbers-from (number + 1) records numbered.1) there

      by : Contains here member ⊎ Contains (members_among variant records) member
          → Contains here other ⊎ Contains (members_among variant records) other
          → (Contains (members_among variant records) member → Contains (members_among variant records) other → member ≡ other) → member ≡ other
      by (inl one) (inl two) on = if_accepted-one text.number (reading_of variant text.bytes) member other one two
      by (inl one) (inr two) on = let at = first member one in let past = later other two in absurd (omega arith)
      by (inr one) (inl two) on = let past = later member one in let at = first other two in absurd (omega arith)
      by (inr one) (inr two) on = on one two

  pub one_of_a_number : (collection : List ℕ) (member other : Member) → Contains (members_among variant (records_of collection)) member
      → Contains (members_among variant (records_of collection)) other → member.number ≡ other.number → member ≡ other
  one_of_a_number collection = one_number 1 (records_of collection) (cut-NumberedFrom nothing collection)
