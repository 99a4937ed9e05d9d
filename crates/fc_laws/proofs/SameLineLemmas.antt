-- What `same` prints for one more record, after what it printed for those before.
use Rattle.std.proofs.Common.{◌++◌, ◌∷◌, ◌≡◌, [], append-nil, append_assoc, arith, codes, List, None, Option, refl}
use Rattle.std.proofs.Common.{Some, ℕ}
use Rattle.fc_board.specs.{Boards.{IsWellFormed}, Games.{game_of}, Passages.{Carries, Passage}}
use Rattle.{fc_board.specs.declared.rule.Variant.{Variant}, fc_text.specs.Bytes.{line_feed}}
use Rattle.{fc_canon.specs.{Equivalent}, fc_record.specs.declared.record.RecordFault.{RecordFault}}
use Rattle.fc_record.specs.Grammar.{Accepted, Contents, Heading, Reading, reading_of, Refused}
use Rattle.fc_record.specs.Printing.{name_of, passage_words, printed, printed_by, refusal_line}
use Rattle.fc_record.specs.RecordTexts.{RecordText}
use Rattle.fc_collect.proofs.{AcceptanceLemmas.{Says-from_accepted}, MemberLemmas.{member-IsWellFormed}}
use Rattle.fc_collect.proofs.{PrintingLemmas.{outputs_after-append}, SameLemmas.{passage-carries, passage-none}}
use Rattle.fc_collect.specs.{Groups.{Member, members_among}, Runs.{passage_found, passage_to, same_lines, same_output}}

module _ (variant : Variant) (records : List RecordText) (text : RecordText) where
  abbrev before : List ℕ
  before = same_output variant records

  abbrev after : List ℕ
  after = same_output variant (records ++ text ∷ [])

  -- what is printed for the record, by the members before it and by what it says
  abbrev lines_for : List Member → Reading → List ℕ
  lines_for members reading = printed_by (same_lines members) text reading

  one_more : (members : List Member) (reading : Reading) → members_among variant records ≡ members
      → reading_of variant text.bytes ≡ reading → after ≡ before ++ lines_for members reading
  one_more members reading are says = rw (
    outputs_after-append (λ earlier. printed (same_lines (members_among variant earlier)) variant) [] records (text ∷ []),
    append-nil (lines_for (members_among variant records) (reading_of variant text.bytes)),
    are,
    says,
  )

  pub refused-said : (name : Option (List ℕ)) (fault : RecordFault) → reading_of variant text.bytes ≡ Refused name fault
      → after ≡ before ++ refusal_line text name fault
  refused-said name fault says = one_more (members_among variant records) (Refused name fault) refl says

  module _ (heading : Heading) (contents : Contents) (says : reading_of variant text.bytes ≡ Accepted heading contents) where
    pub first-silent : members_among variant records ≡ [] → after ≡ before
    first-silent none = rw (one_more [] (Accepted heading contents) none says, append-nil before)

    abbrev own_name : List ℕ
    own_name = name_of text.number heading.name

    abbrev own : Member
    own = record { number = text.number; heading = heading; contents = contents }

    module _ (first : Member) (others : List Member) (are : members_among variant records ≡ first ∷ others) where
      first_is : IsWellFormed (game_of first.heading.variant) first.contents.board
      first_is = member-IsWellFormed variant records first (rw are (0, omega arith, refl))

      own_is : IsWellFormed (game_of heading.variant) contents.board
      own_is = (Says-from_accepted variant text.bytes heading contents says).board.well_formed

      found : (passage : Option Passage) → passage_to first own ≡ passage → after ≡ before ++ own_name ++ passage_found passage
      found passage is = rw (one_more (first ∷ others) (Accepted heading contents) are says, is, append_assoc before own_name (passage_found passage))

      pub led-to : first.heading.variant ≡ heading.variant → Equivalent (game_of first.heading.variant) first.contents.board contents.board
          → (passage : Passage) × Carries (game_of first.heading.variant) passage first.contents.board contents.board
          × (after ≡ before ++ own_name ++ passage_words passage)
      led-to same alike = by (passage_to first own) refl
        where
          by : (passage : Option Passage) → passage_to first own ≡ passage
              → (passage : Passage) × Carries (game_of first.heading.variant) passage first.contents.board contents.board
              × (after ≡ before ++ own_name ++ passage_words passage)
          by (Some passage) is = (passage, passage-carries first own first_is own_is passage is, found (Some passage) is)
          by None is = absurd ((passage-none first own first_is own_is).0 is (same, alike))

      pub left-apart : ¬ ((first.heading.variant ≡ heading.variant) × Equivalent (game_of first.heading.variant) first.contents.board contents.board)
          → after ≡ before ++ own_name ++ codes " apart" ++ line_feed ∷ []
      left-apart apart =
          rw (found None ((passage-none first own first_is own_is).1 apart), append_assoc (before ++ own_name) (codes " apart") (line_feed ∷ []))
