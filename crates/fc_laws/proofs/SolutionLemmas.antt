-- What the members of a group share: one variant, equivalent boards, and the first list that wins.
use Rattle.std.proofs.Common.{◌++◌, ◌<◌, ◌==◌, ◌||◌, ◌↔◌, ◌∙◌, ◌∷◌, ◌≡◌, [], ap, arith, Bool, cond, Contains, false}
use Rattle.std.proofs.Common.{filter, get_or, if◌then◌else◌, is_some, length, List, map, None, Option, refl, slice_get}
use Rattle.std.proofs.Common.{Some, subst, suc, sym, true, true≢false, zero, ℕ}
use Rattle.std.proofs.lemmas.{Bool.{both_ways, eq-eqb, eqb-true}, List.{append-nil, Folds.{list_any_at}}}
use Rattle.std.{proofs.lemmas.Option.{same_Some}, specs.List.{find, list_any}}
use Rattle.fc_board.{proofs.MoveListLemmas.{list_wins-carried, list_won-exactly}, specs.Boards.{Board, IsWellFormed}}
use Rattle.fc_board.specs.Games.{Game, game_of, renamings_of, RuleLaws}
use Rattle.fc_board.specs.laws.RenamingTests.{bakers_game_laws, eight_off_laws, freecell_laws}
use Rattle.fc_board.specs.{Moves.{list_image, MoveList}, Passages.{inverse_passage, passage_product}}
use Rattle.fc_board.specs.Play.{list_verdict, OnlyLegal, Refused, Verdict, Wins, Won}
use Rattle.fc_board.specs.declared.rule.Variant.{TheVariants.{BakersGame, EightOff, FreeCell}, Variant}
use Rattle.{fc_laws.proofs.CanonicalAgainLemmas.{image_can}, fc_text.specs.Printed.{text_of}}
use Rattle.fc_canon.proofs.LeastTextLemmas.{chosen-between, chosen_passage-Chosen}
use Rattle.fc_canon.{proofs.SymmetryLemmas.{Contains-kept, kept-Contains}, specs.{chosen_passage, Equivalent, IsFirst}}
use Rattle.fc_record.specs.{Printing.{header_text, image_line, list_line}, Tables.{is_win}}
use Rattle.fc_collect.proofs.GroupLemmas.{Apart, leaders-Apart, leaders-cover, together}
use Rattle.fc_collect.proofs.GroupNameLemmas.{has_one-Contains, together-Equivalent}
use Rattle.fc_collect.proofs.MemberLemmas.{CanPrint, member-Can, member-IsWellFormed, one_of_a_number}
use Rattle.fc_collect.specs.Groups.{belong_together, groups_of, leaders_after, Member, member_lines, members_among}
use Rattle.fc_collect.specs.Groups.{name_of_member, owner_among, passage_between, passage_of, shared_line}
use Rattle.fc_collect.specs.{Groups.{solution_line, solution_of}, Records.{records_of}}

-- ---- places

pub at-Contains : {X : Type 0} (items : List X) (place : ℕ) (item : X) → slice_get items place ≡ Some item → Contains items item
at-Contains [] place item at = absurd (cc)
at-Contains (first ∷ rest) zero item at = (0, omega arith, same_Some first item at)
at-Contains (first ∷ rest) (suc place) item at = let (later, inside, there) = at-Contains rest place item at in (suc later, omega arith, there)

pub any_where : {X : Type 0} (test : X → Bool) (items : List X) → list_any test items ≡ true → (item : X) × Contains items item × (test item ≡ true)
any_where test [] e = absurd (true≢false (sym e))
any_where {X} test (first ∷ rest) e = by (test first) refl e (any_where test rest)
  where
    by : (b : Bool) → test first ≡ b → (b || list_any test rest) ≡ true
        → (list_any test rest ≡ true → (item : X) × Contains rest item × (test item ≡ true))
        → (item : X) × Contains (first ∷ rest) item × (test item ≡ true)
    by true passes e on = (first, (0, omega arith, refl), passes)
    by false fails e on = let (item, (place, inside, at), passes) = on e in (item, (suc place, omega arith, at), passes)

any-at : {X : Type 0} (test : X → Bool) (items : List X) (place : ℕ) (item : X) → slice_get items place ≡ Some item → test item ≡ true
    → list_any test items ≡ true
any-at test items place item at passes =
    let (found, inside, there) = at-Contains items place item at in
    list_any_at test items found item inside (ap test there ∙ passes)

mapped-at : {X Y : Type 0} (f : X → Y) (items : List X) (place : ℕ) (image : Y) → slice_get (map f items) place ≡ Some image
    → (item : X) × (slice_get items place ≡ Some item) × (f item ≡ image)
mapped-at f [] place image at = absurd (cc)
mapped-at f (first ∷ rest) zero image at = (first, refl, same_Some (f first) image at)
mapped-at f (first ∷ rest) (suc place) image at = mapped-at f rest place image at

pub Contains-at : {X : Type 0} (items : List X) (item : X) → Contains items item → (place : ℕ) × (slice_get items place ≡ Some item)
Contains-at [] item (place, inside, at) = absurd (omega arith)
Contains-at (first ∷ rest) item (zero, inside, at) = (0, ap Some at)
Contains-at (first ∷ rest) item (suc place, inside, at) = let (later, there) = Contains-at rest item (place, omega arith, at) in (suc later, there)

mapped-Contains : {X Y : Type 0} (f : X → Y) (items : List X) (item : X) → Contains items item → Contains (map f items) (f item)
mapped-Contains f [] item (place, inside, at) = absurd (omega arith)
mapped-Contains f (first ∷ rest) item (zero, inside, at) = (0, omega arith, ap f at)
mapped-Contains f (first ∷ rest) item (suc place, inside, at) =
    let (later, inside', there) = mapped-Contains f rest item (place, omega arith, at) in (suc later, omega arith, there)

-- ---- the first that passes a test

-- the item is at the place and passes, and nothing before it does
pub record IsFound {X : Type 0} (test : X → Bool) (items : List X) (item : X) : Type 0 where
  pub place : ℕ
  pub at : slice_get items place ≡ Some item
  pub passes : test item ≡ true
  pub before : (earlier : ℕ) (other : X) → earlier < place → slice_get items earlier ≡ Some other → test other ≡ false

found-first : {X : Type 0} (test : X → Bool) (first : X) (rest : List X) → test first ≡ true → IsFound test (first ∷ rest) first
found-first test first rest passes = record { place = 0; at = refl; passes = passes; before = λ earlier other below at. absurd (omega arith) }

module _ {X : Type 0} (test : X → Bool) (first item : X) (rest : List X) (fails : test first ≡ false) (later : IsFound test rest item) where
  fails_before : (earlier : ℕ) (other : X) → earlier < suc later.place → slice_get (first ∷ rest) earlier ≡ Some other → test other ≡ false
  fails_before zero other below at = rw (← same_Some first other at, fails)
  fails_before (suc earlier) other below at = later.before earlier other (omega arith) at

  found-later : IsFound test (first ∷ rest) item
  found-later = record { place = suc later.place; at = later.at; passes = later.passes; before = fails_before }

pub found : {X : Type 0} (test : X → Bool) (items : List X) (item : X) → find test items ≡ Some item → IsFound test items item
found test [] item e = absurd (cc)
found {X} test (first ∷ rest) item e = by (test first) refl e (found test rest item)
  where
    by : (b : Bool) → test first ≡ b → cond b (Some first) (find test rest) ≡ Some item
        → (find test rest ≡ Some item → IsFound test rest item) → IsFound test (first ∷ rest) item
    by true passes e on = subst (IsFound test (first ∷ rest)) (same_Some first item e) (found-first test first rest passes)
    by false fails e on = found-later test first item rest fails (on e)

pub none_found : {X : Type 0} (test : X → Bool) (items : List X) (item : X) → find test items ≡ None → Contains items item → test item ≡ false
none_found test [] item e (place, inside, at) = absurd (omega arith)
none_found {X} test (first ∷ rest) item e (place, inside, at) = by (test first) refl e place inside at (none_found test rest item)
  where
    by : (b : Bool) → test first ≡ b → cond b (Some first) (find test rest) ≡ None → (place : ℕ) → place < length (first ∷ rest)
        → get_or (first ∷ rest) place item ≡ item
        → (find test rest ≡ None → Contains rest item → test item ≡ false) → test item ≡ false
    by true passes e place inside at on = absurd (cc)
    by false fails e zero inside at on = rw (← at, fails)
    by false fails e (suc place) inside at on = on e (place, omega arith, at)

-- ---- the members of a group

module _ (members : List Member) where
  abbrev led : Member → List Member
  led leader = filter (belong_together leader) members

  -- the leader of a group, and whom it has
  pub group-led : (group : List Member) (place : ℕ) → slice_get (groups_of members) place ≡ Some group
      → (leader : Member) × (slice_get (leaders_after [] members) place ≡ Some leader) × (led leader ≡ group)
  group-led group place at = mapped-at led (leaders_after [] members) place group at

  pub of-led : (leader member : Member) (group : List Member) → led leader ≡ group → Contains group member
      → Contains members member × (belong_together leader member ≡ true)
  of-led leader member group is there = kept-Contains (belong_together leader) member members (rw is there)

  pub group-of_members : (group : List Member) (member : Member) → Contains (groups_of members) group → Contains group member
      → Contains members member
  group-of_members group member known there =
      let (place, at) = Contains-at (groups_of members) group known in
      let (leader, led_at, is) = group-led group place at in
      (of-led leader member group is there).0

  pub group-together : (group : List Member) (member other : Member) → Contains (groups_of members) group → Contains group member
      → Contains group other → belong_together member other ≡ true
  group-together group member other known there there' =
      let (place, at) = Contains-at (groups_of members) group known in
      let (leader, led_at, is) = group-led group place at in
      let one = (of-led leader member group is there).1 in
      let two = (of-led leader other group is there').1 in
      sym (together.congr leader member other one) ∙ two

  pub together-group : (member other : Member) → Contains members member → Contains members other → belong_together member other ≡ true
      → (group : List Member) × Contains (groups_of members) group × Contains group member × Contains group other
  together-group member other there there' e =
      let (leader, leads, one) =
      any_where (λ leader. belong_together leader member) (leaders_after [] members)
      (sym (leaders-cover member [] members) ∙ has_one-Contains members member there) in (
        led leader,
        mapped-Contains led (leaders_after [] members) leader leads,
        Contains-kept (belong_together leader) member one members there,
        Contains-kept (belong_together leader) other (together.congr leader member other one ∙ e) members there',
      )

apart_places : (leaders : List Member) (place next : ℕ) (leader other : Member) → Apart leaders → slice_get leaders place ≡ Some leader
    → slice_get leaders next ≡ Some other
    → belong_together leader other ≡ true → place ≡ next
apart_places [] place next leader other apart at at' e = absurd (cc)
apart_places (first ∷ rest) zero zero leader other apart at at' e = refl
apart_places (first ∷ rest) zero (suc next) leader other apart at at' e =
    absurd (both_ways (list_any (belong_together first) rest) apart.0
    (any-at (belong_together first) rest next other at' (ap (λ leader. belong_together leader other) (same_Some first leader at) ∙ e)))
apart_places (first ∷ rest) (suc place) zero leader other apart at at' e =
    absurd (both_ways (list_any (belong_together first) rest) apart.0
    (any-at (belong_together first) rest place leader at (together.symm first leader ∙ ap (belong_together leader) (same_Some first other at') ∙ e)))
apart_places (first ∷ rest) (suc place) (suc next) leader other apart at at' e = ap suc (apart_places rest place next leader other apart.1 at at' e)

pub groups-apart : (members group other : List Member) (place next : ℕ) (member : Member) → slice_get (groups_of members) place ≡ Some group
    → slice_get (groups_of members) next ≡ Some other → Contains group member → Contains other member → place ≡ next
groups-apart members group other place next member at at' there there' =
    let (leader, led_at, is) = group-led members group place at in
    let (leader', led_at', is') = group-led members other next at' in
    let one = (of-led members leader member group is there).1 in
    let two = (of-led members leader' member other is' there').1 in
    apart_places (leaders_after [] members) place next leader leader' (leaders-Apart [] members) led_at led_at'
    (together.congr leader member leader' one ∙ together.symm member leader' ∙ two)

pub won-by : (ensured : Verdict) → is_win ensured ≡ true → ensured ≡ Won
won-by Won e = refl
won-by OnlyLegal e = absurd (true≢false (sym e))
won-by (Refused index fault) e = absurd (true≢false (sym e))

-- ---- the accepted records of a collection

module _ (variant : Variant) (collection : List ℕ) where
  abbrev accepted : List Member
  accepted = members_among variant (records_of collection)

  well : (member : Member) → Contains accepted member → IsWellFormed (game_of member.heading.variant) member.contents.board
  well member there = member-IsWellFormed variant (records_of collection) member there

  pub classes : (member other : Member) → Contains accepted member → Contains accepted other
      → ((group : List Member) × Contains (groups_of accepted) group × Contains group member × Contains group other)
      ↔ ((member.heading.variant ≡ other.heading.variant) × Equivalent (game_of member.heading.variant) member.contents.board other.contents.board)
  classes member other there there' = (
    (λ (group, known, one, two). (together-Equivalent member other (well member there) (well other there')).0
        (group-together accepted group member other known one two)),
    (λ alike. together-group accepted member other there there' ((together-Equivalent member other (well member there) (well other there')).1 alike)),
  )

  -- ---- lists that win

  module _ (member : Member) (there : Contains accepted member) where
    abbrev verdict : MoveList → Verdict
    verdict list = list_verdict (game_of member.heading.variant) member.contents.board list

    abbrev passes : MoveList → Bool
    passes list = is_win (verdict list)

    abbrev Winning : MoveList → Type 0
    Winning list = Wins (game_of member.heading.variant) member.contents.board list

    wins-exactly : (list : MoveList) → Contains member.contents.lists list
        → (verdict list ≡ Won)
        ↔ Winning list
    wins-exactly list listed =
        list_won-exactly (game_of member.heading.variant) member.contents.board list
        (member-Can variant (records_of collection) member list there listed).0 (well member there).piles.four_foundations

    pub passes-Wins : (list : MoveList) → Contains member.contents.lists list
        → passes list ≡ true
        → Winning list
    passes-Wins list listed e = (wins-exactly list listed).0 (won-by (verdict list) e)

    pub Wins-passes : (list : MoveList) → Contains member.contents.lists list → Winning list
        → passes list ≡ true
    Wins-passes list listed wins = ap is_win ((wins-exactly list listed).1 wins)

    pub solution-first : (list : MoveList) → solution_of member ≡ Some list
        → IsFirst Winning member.contents.lists list
    solution-first list e =
        let first = found passes member.contents.lists list e in (
          first.place,
          first.at,
          passes-Wins list (at-Contains member.contents.lists first.place list first.at) first.passes,
          λ earlier other below at wins. absurd
              (true≢false (sym (Wins-passes other (at-Contains member.contents.lists earlier other at) wins) ∙ first.before earlier other below at)),
        )

    pub solution-Wins : (list : MoveList) → solution_of member ≡ Some list → Winning list
    solution-Wins list e = let (place, at, wins, before) = solution-first list e in wins

    pub solution-Can : (list : MoveList) → solution_of member ≡ Some list → CanPrint (game_of member.heading.variant) list
    solution-Can list e =
        let (place, at, wins, before) = solution-first list e in
        member-Can variant (records_of collection) member list there (at-Contains member.contents.lists place list at)

    some_solution : (list : MoveList) → Contains member.contents.lists list
        → Winning list → is_some (solution_of member) ≡ true
    some_solution list listed wins = by (solution_of member) refl
      where
        by : (solution : Option MoveList) → solution_of member ≡ solution → is_some solution ≡ true
        by (Some found) e = refl
        by None e = absurd (true≢false (sym (Wins-passes list listed wins)
            ∙ none_found passes member.contents.lists list e listed))

-- ---- the owner

solved : (member : Member) → is_some (solution_of member) ≡ true → (list : MoveList) × (solution_of member ≡ Some list)
solved member e = by (solution_of member) refl e
  where
    by : (solution : Option MoveList) → solution_of member ≡ solution → is_some solution ≡ true → (list : MoveList) × (solution_of member ≡ Some list)
    by (Some list) is e = (list, is)
    by None is e = absurd (true≢false (sym e))

pub owner-first : (members : List Member) (owner : Member) → owner_among members ≡ Some owner
    → IsFirst (λ member. (list : MoveList) × (solution_of member ≡ Some list)) members owner
owner-first members owner e =
    let first = found (λ member. is_some (solution_of member)) members owner e in (
      first.place,
      first.at,
      solved owner first.passes,
      λ earlier other below at has. absurd (true≢false (sym (ap is_some has.1) ∙ first.before earlier other below at)),
    )

pub unchanged : (owner : Member) (list : MoveList) → solution_of owner ≡ Some list → solution_line owner (Some owner) ≡ list_line list
unchanged owner list e = rw (e, append-nil (shared_line owner owner list), eq-eqb owner.number owner.number refl)

-- ---- what the members of a group get

-- the list wins from the board, and can be printed
abbrev IsSolution : Game → Board → MoveList → Type 0
IsSolution game board list = Wins game board list × CanPrint game list

image-wins : {game : Game} {renamings : List (List ℕ)} {cells count : ℕ} {kings_only : Bool}
    → RuleLaws game renamings cells count kings_only → (board other : Board) (list : MoveList)
    → IsWellFormed game board → IsWellFormed game other → Equivalent game board other → CanPrint game list
    → Wins game board list
    → IsSolution game other (list_image (passage_product (chosen_passage renamings board) (inverse_passage (chosen_passage renamings other))) list)
image-wins {game} {renamings} laws board other list well well' equivalent can wins =
    let between = passage_product (chosen_passage renamings board) (inverse_passage (chosen_passage renamings other)) in
    let carries = chosen-between game renamings board other (chosen_passage renamings board) (chosen_passage renamings other) well well'
    (chosen_passage-Chosen laws board well) (chosen_passage-Chosen laws other well') equivalent in
    (list_wins-carried laws between board other well carries list can.0 wins, image_can game between carries.is_passage list can)

rules : (variant : Variant) (board other : Board) (list : MoveList) → IsWellFormed (game_of variant) board
    → IsWellFormed (game_of variant) other → Equivalent (game_of variant) board other
    → CanPrint (game_of variant) list → Wins (game_of variant) board list
    → IsSolution (game_of variant) other
    (list_image (passage_product (chosen_passage (renamings_of variant) board) (inverse_passage (chosen_passage (renamings_of variant) other))) list)
rules FreeCell board other list = image-wins freecell_laws board other list
rules BakersGame board other list = image-wins bakers_game_laws board other list
rules EightOff board other list = image-wins eight_off_laws board other list

end_lines : (front line : List ℕ) → front ++ (line ++ []) ≡ front ++ [] ++ line
end_lines front line = rw (append-nil line, append-nil front)

module _ (variant : Variant) (collection : List ℕ) (group : List Member) (known : Contains (groups_of (accepted variant collection)) group) where
  abbrev here : List Member
  here = accepted variant collection

  among : (member : Member) → Contains group member → Contains here member
  among member there = group-of_members here group member known there

  module _ (owner member : Member) (there : Contains group owner) (there' : Contains group member) where
    well_owner : IsWellFormed (game_of owner.heading.variant) owner.contents.board
    well_owner = well variant collection owner (among owner there)

    well_member : IsWellFormed (game_of member.heading.variant) member.contents.board
    well_member = well variant collection member (among member there')

    -- the image of the owner's solution wins from the board of a member
    wins_for : (list : MoveList) → IsSolution (game_of owner.heading.variant) owner.contents.board list
        → IsSolution (game_of member.heading.variant) member.contents.board (list_image (passage_between owner member) list)
    wins_for list (wins, can) =
        let (same, alike) =
        (together-Equivalent owner member well_owner well_member).0 (group-together here group owner member known there there') in
        let well' = rw (← same) at well_member in
        let image = λ (own : Variant). list_image
        (passage_product (passage_of owner) (inverse_passage (chosen_passage (renamings_of own) member.contents.board))) list in
        subst (λ own. IsSolution (game_of own) member.contents.board (image own)) same
        (rules owner.heading.variant owner.contents.board member.contents.board list well_owner well' alike can wins)

    gets : (list : MoveList) → solution_of owner ≡ Some list
        → (shared : MoveList) × IsSolution (game_of member.heading.variant) member.contents.board shared
        × (shared_line owner member list ≡ list_line shared)
    gets list e = by (owner.number == member.number) refl
      where
        solves : IsSolution (game_of owner.heading.variant) owner.contents.board list
        solves = (
          solution-Wins variant collection owner (among owner there) list e,
          solution-Can variant collection owner (among owner there) list e,
        )

        line_if : Bool → List ℕ
        line_if same = if same then list_line list else image_line (passage_between owner member) list

        by : (b : Bool) → (owner.number == member.number) ≡ b
            → (shared : MoveList) × IsSolution (game_of member.heading.variant) member.contents.board shared
            × (shared_line owner member list ≡ list_line shared)
        by true same =
            let numbers = eqb-true owner.number member.number same in
            let one = one_of_a_number variant collection owner member (among owner there) (among member there') numbers in
            (list, rw (← one) solves, ap line_if same)
        by false other = (list_image (passage_between owner member) list, wins_for list solves, ap line_if other)

  pub solution_for_all : (winner : Member) (winning : MoveList) → Contains group winner → Contains winner.contents.lists winning
      → Wins (game_of winner.heading.variant) winner.contents.board winning → (member : Member) → Contains group member
      → (list : MoveList) × Wins (game_of member.heading.variant) member.contents.board list
      × (member_lines (owner_among group) member ≡ member_lines None member ++ list_line list)
  solution_for_all winner winning there listed wins member there' = by (owner_among group) refl
    where
      by : (owner : Option Member) → owner_among group ≡ owner → (list : MoveList) × Wins (game_of member.heading.variant) member.contents.board list
          × (member_lines owner member ≡ member_lines None member ++ list_line list)
      by None e = absurd (true≢false (sym (some_solution variant collection winner (among winner there) winning listed wins)
          ∙ none_found (λ member. is_some (solution_of member)) group winner e there))
      by (Some owner) e =
          let (place, at, (list, is), first) = owner-first group owner e in
          let (shared, wins', same) = gets owner member (at-Contains group place owner at) there' list is in
          let front = header_text member.heading.variant (name_of_member member) ++ text_of member.contents.board in (
            shared,
            wins'.0,
            rw (is, same) (end_lines front (list_line shared)),
          )

  pub none_for_all : ((member : Member) (list : MoveList) → Contains group member → Contains member.contents.lists list
      → ¬ Wins (game_of member.heading.variant) member.contents.board list)
      → (member : Member) → Contains group member → member_lines (owner_among group) member ≡ member_lines None member
  none_for_all never member there = by (owner_among group) refl
    where
      by : (owner : Option Member) → owner_among group ≡ owner → member_lines owner member ≡ member_lines None member
      by None e = refl
      by (Some owner) e =
          let (place, at, (list, is), first) = owner-first group owner e in
          let there = at-Contains group place owner at in
          let (at_list, listed, wins, before) = solution-first variant collection owner (among owner there) list is in
          absurd (never owner list there (at-Contains owner.contents.lists at_list list listed) wins)
