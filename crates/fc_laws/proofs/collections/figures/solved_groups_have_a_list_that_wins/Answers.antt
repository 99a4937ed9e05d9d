use Rattle.std.proofs.Common.{◌↔◌, ◌∙◌, ◌≡◌, ap, Bool, Contains, is_some, List, None, Option, refl, Some, sym, true}
use Rattle.std.{proofs.Common.{true≢false, ℕ}, specs.{List.{find}, Prelude.{slice_index_or}}}
use Rattle.fc_board.specs.{Games.{game_of}, Moves.{MoveList}, Play.{list_verdict, Wins}}
use Rattle.{fc_board.specs.declared.rule.Variant.{Variant}, fc_record.specs.Tables.{is_win}}
use Rattle.fc_collect.specs.{Groups.{groups_of, Member, members_among, owner_among, solution_of}, Records.{records_of}}
use Rattle.fc_laws.proofs.SolutionLemmas.{at-Contains, found, group-of_members, none_found, passes-Wins, Wins-passes}
use Rattle.fc_laws.proofs.collections.figures.solved_groups_have_a_list_that_wins.Goals as goal

-- the list wins from the member's own board
abbrev passes : Member → MoveList → Bool
passes member list = is_win (list_verdict (game_of member.heading.variant) member.contents.board list)

some_found : {X : Type 0} (test : X → Bool) (items : List X) → is_some (find test items) ≡ true
    → (item : X) × Contains items item × (test item ≡ true)
some_found {X} test items e = by (find test items) refl e
  where
    by : (o : Option X) → find test items ≡ o → is_some o ≡ true → (item : X) × Contains items item × (test item ≡ true)
    by (Some item) is e = let first = found test items item is in (item, at-Contains items first.place item first.at, first.passes)
    by None is e = absurd (true≢false (sym e))

found_some : {X : Type 0} (test : X → Bool) (items : List X) (item : X) → Contains items item → test item ≡ true → is_some (find test items) ≡ true
found_some {X} test items item there passes = by (find test items) refl
  where
    by : (o : Option X) → find test items ≡ o → is_some o ≡ true
    by (Some other) is = refl
    by None is = absurd (true≢false (sym passes ∙ none_found test items item is there))

module _ (variant : Variant) (collection : List ℕ) (group : List Member)
    (known : Contains (groups_of (members_among variant (records_of collection))) group) where
  abbrev HasWin : Type 0
  HasWin =
      (member : Member) × (list : MoveList) × Contains group member × Contains member.contents.lists list
      × Wins (game_of member.heading.variant) member.contents.board list

  solved-exactly : (is_some (owner_among group) ≡ true) ↔ HasWin
  solved-exactly = (
    (λ e.
        let (member, there, has) = some_found (λ member. is_some (solution_of member)) group e in
        let (list, listed, wins) = some_found (passes member) member.contents.lists has in
        let among = group-of_members (members_among variant (records_of collection)) group member known there in
        (member, list, there, listed, passes-Wins variant collection member among list listed wins)),
    (λ (member, list, there, listed, wins).
        let among = group-of_members (members_among variant (records_of collection)) group member known there in
        found_some (λ member. is_some (solution_of member)) group member there
        (found_some (passes member) member.contents.lists list listed (Wins-passes variant collection member among list listed wins))),
  )

pub returns-clause-wins : goal.returns-clause-wins
returns-clause-wins c summary variant collection numbers are = (
  passes,
  ap (λ numbers. slice_index_or numbers 5 0) (sym are),
  λ member list there listed. (passes-Wins variant collection member there list listed, Wins-passes variant collection member there list listed),
)

pub returns-clause-solved : goal.returns-clause-solved
returns-clause-solved c summary variant collection numbers are = (
  (λ group. is_some (owner_among group)),
  ap (λ numbers. slice_index_or numbers 6 0) (sym are),
  λ group known. solved-exactly variant collection group known,
)
