-- The record that `closed` names is the first with a flaw.
use Rattle.std.proofs.Common.{◌++◌, ◌<◌, ◌==◌, ◌∙◌, ◌∷◌, ◌≡◌, [], ap, arith, Bool, cond, false, length, List, None}
use Rattle.std.proofs.Common.{Option, refl, Some, subst, suc, sym, true, true≢false, zero, ℕ}
use Rattle.std.proofs.lemmas.List.Elements.{All-contains, Contains-append_left, Contains-append_right}
use Rattle.std.specs.{List.{Contains, find}, Option.{option_map, option_or, unwrap_or}, Prelude.{slice_get}}
use Rattle.fc_board.{proofs.StepLemmas.{step_from}, specs.{Boards.{IsWellFormed}, Games.{game_of}, Play.{has_all_home}}}
use Rattle.{fc_board.specs.declared.moves.Move.{Move}, fc_bytes.specs.declared.moves.MoveBytes.{MoveBytes}}
use Rattle.fc_bytes.{proofs.LegalMoves.{all_legal}, specs.{IsAllowed, legal_moves}}
use Rattle.fc_collect.{proofs.ClosedLemmas.{home_won, won_home}, specs.Closed.{Closed, Finding, finding_of}}
use Rattle.fc_collect.specs.Closed.{first_flawed, flaw_of, Flawed, flawless, leads_out, move_out, opened, Refused}
use Rattle.fc_collect.specs.Groups.{groups_of, Member, name_of_member}
use Rattle.fc_collect.specs.declared.commands.closed.Flaw.{Flaw, TheVariants.{Open, Won}}
use Rattle.fc_collect.specs.declared.streams.faults.Summary.{Summary}
use Rattle.fc_laws.proofs.ClosedFindingLemmas.{flawless_parts, next_among, stays_exactly}
use Rattle.fc_laws.specs.Findings.{IsFirstFlawed, IsFlawIn, IsShutIn, LeadsAway}

-- ---- the first item of which a test holds

-- the item passes the test, and none before it does
abbrev Found : {X : Type 0} → (X → Bool) → List X → X → Type 0
Found {X} test xs x =
    (place : ℕ) × (slice_get xs place ≡ Some x) × Contains xs x × (test x ≡ true)
    × ((earlier : ℕ) (other : X) → earlier < place → slice_get xs earlier ≡ Some other → test other ≡ false)

found_first : {X : Type 0} (test : X → Bool) (xs : List X) (x : X) → find test xs ≡ Some x → Found test xs x
found_first test [] x e = cc
found_first {X} test (y ∷ ys) x e = by (test y) refl e (found_first test ys x)
  where
    by : (b : Bool) → test y ≡ b → cond b (Some y) (find test ys) ≡ Some x
        → (find test ys ≡ Some x → Found test ys x) → Found test (y ∷ ys) x
    by true passes e on =
        let same : y ≡ x = ap (λ found. unwrap_or found y) e in (
          zero,
          e,
          (zero, omega arith, same),
          ap test (sym same)
              ∙ passes,
          λ earlier other below. absurd (omega (arith, below)),
        )
    by false fails e on =
        let (place, at, (k, inside, is), passes, before) = on e in
        (suc place, at, (suc k, omega (arith, inside), is), passes, no_earlier place before)
      where
        no_earlier : (place : ℕ) → ((earlier : ℕ) (other : X) → earlier < place → slice_get ys earlier ≡ Some other
            → test other ≡ false)
            → (earlier : ℕ) (other : X) → earlier < suc place → slice_get (y ∷ ys) earlier ≡ Some other
            → test other ≡ false
        no_earlier place before zero other below is = let same : y ≡ other =
            ap (λ found. unwrap_or found y) is in ap test (sym same) ∙ fails
        no_earlier place before (suc earlier) other below is = before earlier other (omega (arith, below)) is

-- ---- the first member with a flaw

module _ (all : List Member) where
  -- the first of these that has a flaw has this name and this flaw
  abbrev FlawedAmong : List Member → List ℕ → Flaw → Type 0
  FlawedAmong members name flaw =
      (before : List Member) × (member : Member) × (rest : List Member) × (members ≡ before ++ member ∷ rest)
      × (name ≡ name_of_member member)
      × (flaw_of all member ≡ Some flaw) × ((other : Member) → Contains before other → flaw_of all other ≡ None)

  abbrev name_in : List ℕ → Option Finding → List ℕ
  name_in default (Some (Flawed name flaw)) = name
  name_in default found = default

  abbrev flaw_in : Flaw → Option Finding → Flaw
  flaw_in default (Some (Flawed name flaw)) = flaw
  flaw_in default found = default

  first_among : (members : List Member) (name : List ℕ) (flaw : Flaw)
      → first_flawed all members ≡ Some (Flawed name flaw) → FlawedAmong members name flaw
  first_among [] name flaw e = cc
  first_among (first ∷ members) name flaw e = by (flaw_of all first) refl e (first_among members name flaw)
    where
      by : (found : Option Flaw) → flaw_of all first ≡ found
          → option_or (option_map (Flawed (name_of_member first)) found) (first_flawed all members)
          ≡ Some (Flawed name flaw)
          → (first_flawed all members ≡ Some (Flawed name flaw) → FlawedAmong members name flaw)
          → FlawedAmong (first ∷ members) name flaw
      by None none e on =
          let (before, member, rest, whole, named, is, others) = on e in
          (first ∷ before, member, rest, ap (λ members. first ∷ members) whole, named, is, also before others)
        where
          also : (before : List Member) → ((other : Member) → Contains before other → flaw_of all other ≡ None)
              → (other : Member) → Contains (first ∷ before) other → flaw_of all other ≡ None
          also before others other (zero, below, is) = ap (flaw_of all) (sym is) ∙ none
          also before others other (suc k, below, is) = others other (k, omega (arith, below), is)
      by (Some own) found e on = (
        [],
        first,
        members,
        refl,
        sym (ap (name_in name) e),
        found ∙ ap (λ flaw. Some flaw) (ap (flaw_in flaw) e),
        λ other (k, below, is). absurd (omega (arith, below)),
      )

  -- a member is no count of refusals
  never_refused : (members : List Member) (count : ℕ) → first_flawed all members ≡ Some (Refused count) → ⊥
  never_refused [] count e = cc
  never_refused (first ∷ members) count e = by (flaw_of all first) e (never_refused members count)
    where
      by : (flaw : Option Flaw) → option_or (option_map (Flawed (name_of_member first)) flaw)
          (first_flawed all members) ≡ Some (Refused count)
          → (first_flawed all members ≡ Some (Refused count) → ⊥) → ⊥
      by None e on = on e
      by (Some flaw) e on = cc

-- ---- what is found by the members and the counts

-- what is named is the first flaw
named_first : (summary : Summary) (members : List Member) (name : List ℕ) (flaw : Flaw)
    → finding_of summary members ≡ Flawed name flaw
    → first_flawed members members ≡ Some (Flawed name flaw)
named_first summary members name flaw e = by (first_flawed members members) refl e
  where
    none : (b : Bool) → cond b (Closed summary.records (length (groups_of members))) (Refused summary.refused)
        ≡ Flawed name flaw → ⊥
    none true e = cc
    none false e = cc

    by : (found : Option Finding) → first_flawed members members ≡ found
        → unwrap_or found (flawless summary (length (groups_of members))) ≡ Flawed name flaw
        → first_flawed members members ≡ Some (Flawed name flaw)
    by None is e = absurd (none (summary.refused == 0) e)
    by (Some finding) is e = is ∙ ap (λ finding. Some finding) e

-- where refusals are counted there is no flaw
pub refused_first : (summary : Summary) (members : List Member) (count : ℕ) → finding_of summary members ≡ Refused count
    → (first_flawed members members ≡ None) × (count ≡ summary.refused) × (0 < count)
refused_first summary members count e = by (first_flawed members members) refl e
  where
    count_in : Finding → ℕ
    count_in (Refused count) = count
    count_in found = 0

    some : (b : Bool) → (summary.refused == 0) ≡ b
        → cond b (Closed summary.records (length (groups_of members))) (Refused summary.refused) ≡ Refused count
        → (count ≡ summary.refused) × (0 < count)
    some true is e = absurd (cc)
    some false is e =
        let same : count ≡ summary.refused = sym (ap count_in e) in
        (same, positive summary.refused is same)
      where
        positive : (refused : ℕ) → (refused == 0) ≡ false → count ≡ refused → 0 < count
        positive zero is same = cc
        positive (suc refused) is same = omega (arith, same)

    by : (found : Option Finding) → first_flawed members members ≡ found
        → unwrap_or found (flawless summary (length (groups_of members))) ≡ Refused count
        → (first_flawed members members ≡ None) × (count ≡ summary.refused) × (0 < count)
    by None none e = let (counted, positive) = some (summary.refused == 0) refl e in (none, counted, positive)
    by (Some finding) found e = absurd (never_refused members members count (found ∙ ap (λ finding. Some finding) e))

-- ---- what a flaw means

module _ (all : List Member) (wells : (member : Member) → Contains all member
    → IsWellFormed (game_of member.heading.variant) member.contents.board) where
  pub shut_in : (member : Member) → Contains all member → flaw_of all member ≡ None → IsShutIn all member
  shut_in member there none = record {
    not_won = λ won. true≢false (sym (won_home member.contents.board won) ∙ (flawless_parts all member none).0);
    stays = λ move (after, step, away). away (next_among all wells member there none after move step);
  }

  flaw_means : (member : Member) → Contains all member → (flaw : Flaw) → flaw_of all member ≡ Some flaw
      → IsFlawIn all member flaw
  flaw_means member there flaw e = by (has_all_home member.contents.board) refl (move_out all member) refl flaw e
    where
      -- what leads out leads to none of them
      away : (move : Move) → Contains (legal_moves (game_of member.heading.variant) member.contents.board) move
          → leads_out all member move ≡ true → LeadsAway all member move
      away move listed leads =
          let (fits, allowed) = All-contains (IsAllowed (game_of member.heading.variant) member.contents.board)
          (legal_moves (game_of member.heading.variant) member.contents.board) move
          (all_legal (game_of member.heading.variant) member.contents.board) listed in
          let (after, step) = step_from (game_of member.heading.variant) member.contents.board move fits allowed in (
            after,
            step,
            λ among. true≢false
                (sym leads ∙ (stays_exactly all wells member there move after step).1 among),
          )

      bytes_in : MoveBytes → Option Flaw → MoveBytes
      bytes_in default (Some (Open bytes)) = bytes
      bytes_in default flaw = default

      by : (home : Bool) → has_all_home member.contents.board ≡ home → (out : Option Move)
          → move_out all member ≡ out → (flaw : Flaw)
          → cond home (Some Won) (opened out) ≡ Some flaw → IsFlawIn all member flaw
      by true home out is Won e = home_won (game_of member.heading.variant) member.contents.board
          (wells member there) home
      by true home out is (Open bytes) e = absurd (cc)
      by false home None is flaw e = absurd (cc)
      by false home (Some move) is Won e = absurd (cc)
      by false home (Some move) is (Open bytes) e =
          let (place, at, listed, leads, before) =
          found_first (leads_out all member)
          (legal_moves (game_of member.heading.variant) member.contents.board) move is in (
            λ won. true≢false (sym (won_home member.contents.board won) ∙ home),
            move,
            sym (ap (bytes_in bytes) e),
            (
              place,
              at,
              away move listed leads,
              λ earlier other below is (after, step, not_among). not_among
                  ((stays_exactly all wells member there other after step).0 (before earlier other below is)),
            ),
          )

  pub first_flawed_named : (summary : Summary) (name : List ℕ) (flaw : Flaw)
      → finding_of summary all ≡ Flawed name flaw → IsFirstFlawed all name flaw
  first_flawed_named summary name flaw e =
      let (before, member, rest, whole, named, is, others) =
      first_among all all name flaw (named_first summary all name flaw e) in
      record {
        before = before;
        member = member;
        rest = rest;
        whole = whole;
        named = named;
        flawed = flaw_means member (subst (λ all. Contains all member) (sym whole)
            (Contains-append_right before (member ∷ rest) member (zero, omega arith, refl))) flaw is;
        shut = λ other there. shut_in other (subst (λ all. Contains all other) (sym whole)
            (Contains-append_left before (member ∷ rest) other there)) (others other there);
      }
