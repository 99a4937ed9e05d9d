-- The members that lead the groups, and that `unique` prints them.
use Rattle.std.proofs.Common.{◌++◌, ◌∷◌, ◌≡◌, [], All, append-nil, append_assoc, Bool, cond, false, filter}
use Rattle.std.proofs.Common.{if◌then◌else◌, List, map, refl, sym, take, true, true≢false, ℕ}
use Rattle.std.proofs.lemmas.{Grind.{flat_map-append}, List.Elements.{All-head, All-tail, filter-append}}
use Rattle.std.specs.List.{flat_map}
use Rattle.fc_board.specs.declared.rule.Variant.{Variant}
use Rattle.fc_record.specs.Grammar.{Accepted, Reading, reading_of, Refused}
use Rattle.fc_record.specs.{Printing.{is_refused, printed, printed_by, refuses, show_lines}, RecordTexts.{RecordText}}
use Rattle.fc_collect.proofs.{GroupLemmas.{has_none, has_one, together}, PrintedRecordLemmas.{shown_once}}
use Rattle.fc_collect.specs.Groups.{belong_together, groups_of, if_accepted, leaders_after, Member, members_among}
use Rattle.fc_collect.specs.{Groups.{unique_lines, unique_output}, inside.{member_of}, Records.{outputs_after}}

-- ---- leaders

-- each group begins with its leader
heads : (earlier members : List Member)
    → map (take 1) (map (λ leader. filter (belong_together leader) (earlier ++ members)) (leaders_after earlier members))
    ≡ map (λ leader. leader ∷ []) (leaders_after earlier members)
heads earlier [] = refl
heads earlier (member ∷ members) =
    by (has_one member earlier) refl
    (rw (append_assoc earlier (member ∷ []) members) at (heads (earlier ++ member ∷ []) members))
  where
    rest : List Member
    rest = leaders_after (earlier ++ member ∷ []) members

    firsts : List Member → List (List Member)
    firsts leaders = map (take 1) (map (λ leader. filter (belong_together leader) (earlier ++ member ∷ members)) leaders)

    own : has_one member earlier ≡ false → take 1 (filter (belong_together member) (earlier ++ member ∷ members)) ≡ member ∷ []
    own none = rw (filter-append (belong_together member) earlier (member ∷ members), has_none member earlier none, together.refl member)

    by : (b : Bool) → has_one member earlier ≡ b → firsts rest ≡ map (λ leader. leader ∷ []) rest
        → firsts (if b then rest else member ∷ rest) ≡ map (λ leader. leader ∷ []) (if b then rest else member ∷ rest)
    by true e later = later
    by false e later = rw (own e, later)

pub leaders-first : (members : List Member) → map (take 1) (groups_of members) ≡ map (λ leader. leader ∷ []) (leaders_after [] members)
leaders-first members = heads [] members

-- members one after another
leaders-append : (earlier xs ys : List Member) → leaders_after earlier (xs ++ ys) ≡ leaders_after earlier xs ++ leaders_after (earlier ++ xs) ys
leaders-append earlier [] ys = rw (append-nil earlier)
leaders-append earlier (member ∷ xs) ys =
    let later = rw (append_assoc earlier (member ∷ []) xs) at (leaders-append (earlier ++ member ∷ []) xs ys) in
    by _ _ _ (has_one member earlier) later
  where
    by : (more rest last : List Member) (b : Bool) → more ≡ rest ++ last
        → (if b then more else member ∷ more) ≡ (if b then rest else member ∷ rest) ++ last
    by more rest last true e = e
    by more rest last false e = rw e

-- ---- what unique prints where no record is refused

module _ (variant : Variant) where
  -- what is printed for a record after these earlier ones
  abbrev after : List RecordText → RecordText → List ℕ
  after earlier = printed (unique_lines (members_among variant earlier)) variant

  -- the member that a record is, if it is accepted
  abbrev member_in : RecordText → List Member
  member_in text = if_accepted text.number (reading_of variant text.bytes)

  members-more : (earlier : List RecordText) (text : RecordText)
      → members_among variant (earlier ++ text ∷ []) ≡ members_among variant earlier ++ member_in text
  members-more earlier text = rw (flat_map-append member_in earlier (text ∷ []), append-nil (member_in text))

  leaders-texts : (earlier : List RecordText) (text : RecordText) (texts : List RecordText)
      → leaders_after (members_among variant earlier) (member_in text)
      ++ leaders_after (members_among variant (earlier ++ text ∷ [])) (members_among variant texts)
      ≡ leaders_after (members_among variant earlier) (members_among variant (text ∷ texts))
  leaders-texts earlier text texts =
      rw (members-more earlier text, leaders-append (members_among variant earlier) (member_in text) (members_among variant texts))

  abbrev IsTaken : RecordText → Type 0
  IsTaken text = is_refused variant text ≡ false

  taken-one : (earlier : List Member) (text : RecordText) (reading : Reading) → refuses reading ≡ false
      → printed_by (unique_lines earlier) text reading ≡ flat_map shown_once (leaders_after earlier (if_accepted text.number reading))
  taken-one earlier text (Accepted heading contents) taken = by (has_one (member_of text.number heading contents) earlier)
    where
      by : (b : Bool)
          → cond b [] (show_lines text.number heading contents) ≡ flat_map shown_once (if b then [] else member_of text.number heading contents ∷ [])
      by true = refl
      by false = sym (append-nil (show_lines text.number heading contents))
  taken-one earlier text (Refused name fault) taken = absurd (true≢false taken)

  pub taken-leaders : (earlier texts : List RecordText) → All IsTaken texts
      → outputs_after after earlier texts ≡ flat_map shown_once (leaders_after (members_among variant earlier) (members_among variant texts))
  taken-leaders earlier [] taken = refl
  taken-leaders earlier (text ∷ texts) taken = rw (
    taken-one (members_among variant earlier) text (reading_of variant text.bytes) (All-head IsTaken text texts taken),
    taken-leaders (earlier ++ text ∷ []) texts (All-tail IsTaken text texts taken),
    ← flat_map-append shown_once (leaders_after (members_among variant earlier) (member_in text))
        (leaders_after (members_among variant (earlier ++ text ∷ [])) (members_among variant texts)),
    leaders-texts earlier text texts,
  )

  pub taken-unique : (records : List RecordText) → All IsTaken records
      → unique_output variant records ≡ flat_map shown_once (leaders_after [] (members_among variant records))
  taken-unique = taken-leaders []
