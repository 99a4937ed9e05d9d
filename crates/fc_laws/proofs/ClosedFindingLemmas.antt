-- What `closed` finds is so of all members of a collection.
use Rattle.std.proofs.Common.{◌++◌, ◌+◌, ◌==◌, ◌↔◌, ◌∙◌, ◌∷◌, ◌≡◌, [], ap, ap₂, arith, Bool, codes, cond, false}
use Rattle.std.proofs.Common.{is_some, length, List, map, None, not, Option, refl, slice_index, Some, subst, suc, sym}
use Rattle.std.proofs.{Common.{true, true≢false, zero, ℕ}, lemmas.{Bool.{eqb-true}, List.Elements.{All-contains}}}
use Rattle.std.proofs.lemmas.List.{Folds.{list_any_at}, get_or-map, length-map, Sums.{sum_by-cons}}
use Rattle.std.specs.{List.{Contains, count_by, filter, find}, Option.{option_map, option_or, unwrap_or}}
use Rattle.std.specs.Str.{bytes_eq}
use Rattle.fc_board.proofs.{DeckLemmas.{stays_well_formed}, RunPlayLemmas.{after_step}}
use Rattle.fc_board.{proofs.StepLemmas.{not_refused_at_step, step_from}, specs.Boards.{Board, IsWellFormed}}
use Rattle.fc_board.specs.Games.{game_of, variant_word}
use Rattle.fc_board.specs.{laws.RenamingTests.{bakers_game_laws, eight_off_laws, freecell_laws}, Play.{has_all_home}}
use Rattle.fc_board.specs.Steps.{Step}
use Rattle.fc_board.specs.declared.{moves.Move.{Move}, rule.Variant.TheVariants.{BakersGame, EightOff, FreeCell}}
use Rattle.fc_board.specs.declared.rule.Variant.{Variant}
use Rattle.fc_canon.{proofs.{CanonicalLemmas.{Equivalent-sym}, SymmetryLemmas.{Contains-kept}}, specs.{Equivalent}}
use Rattle.fc_bytes.{proofs.LegalMoves.{all_legal, all_listed}, specs.{IsAllowed, legal_moves}}
use Rattle.fc_closed.{proofs.ClosedLemmas.{unsolvable}, specs.{IsAmong, IsClosed, IsUnsolvable}}
use Rattle.fc_record.specs.Grammar.{Accepted, Reading, reading_of, Refused as IsRefused}
use Rattle.fc_record.specs.{Printing.{is_refused, printed_or, refusal_line, refuses}, RecordTexts.{RecordText}}
use Rattle.fc_collect.proofs.{ClosedLemmas.{all_home, won_home}, GroupLemmas.{has_one}}
use Rattle.fc_collect.proofs.{GroupNameLemmas.{together-Equivalent}, MemberLemmas.{member-IsWellFormed}}
use Rattle.fc_collect.specs.Closed.{boards_of, Closed, Finding, finding_line, finding_of, first_flawed, flaw_of, Flawed}
use Rattle.fc_collect.specs.Closed.{flawless, has_flaw, leads_out, member_after, move_out, opened, Refused}
use Rattle.fc_collect.specs.Closed.{refused_with}
use Rattle.fc_collect.specs.Groups.{belong_together, groups_of, Member, members_among, name_of_member, summary_of}
use Rattle.fc_collect.specs.Runs.{refusals}
use Rattle.fc_collect.specs.declared.commands.closed.Flaw.{Flaw, TheVariants.{Open, Won}}
use Rattle.fc_collect.specs.declared.streams.faults.Summary.{Summary}
use Rattle.fc_laws.proofs.SolutionLemmas.{any_where}

-- ---- lists

pub none_at : {X : Type 0} (test : X → Bool) (xs : List X) → find test xs ≡ None → (x : X) → Contains xs x
    → test x ≡ false
none_at test [] e x (k, below, is) = absurd (omega (arith, below))
none_at {X} test (y ∷ ys) e x there = by (test y) refl e there (λ left later. none_at test ys left x later)
  where
    by : (b : Bool) → test y ≡ b → cond b (Some y) (find test ys) ≡ None → Contains (y ∷ ys) x → (find test ys ≡ None → Contains ys x → test x ≡ false)
        → test x ≡ false
    by true passes e there on = cc
    by false fails e (zero, below, is) on = ap test (sym is) ∙ fails
    by false fails e (suc k, below, is) on = on e (k, omega (arith, below), is)

none_found : {X : Type 0} (test : X → Bool) (xs : List X) → ((x : X) → Contains xs x → test x ≡ false) → find test xs ≡ None
none_found test [] each = refl
none_found test (x ∷ xs) each =
    ap (λ b. cond b (Some x) (find test xs)) (each x (zero, omega arith, refl))
    ∙ none_found test xs (λ y (k, below, is). each y (suc k, omega (arith, below), is))

-- ---- the boards of one variant

one_word : (variant other : Variant) → bytes_eq (variant_word variant) (variant_word other) ≡ true → variant ≡ other
one_word FreeCell FreeCell e = refl
one_word FreeCell BakersGame e = cc
one_word FreeCell EightOff e = cc
one_word BakersGame FreeCell e = cc
one_word BakersGame BakersGame e = refl
one_word BakersGame EightOff e = cc
one_word EightOff FreeCell e = cc
one_word EightOff BakersGame e = cc
one_word EightOff EightOff e = refl

own_word : (variant : Variant) → bytes_eq (variant_word variant) (variant_word variant) ≡ true
own_word FreeCell = refl
own_word BakersGame = refl
own_word EightOff = refl

module _ (variant : Variant) where
  abbrev is_own : Member → Bool
  is_own member = bytes_eq (variant_word variant) (variant_word member.heading.variant)

  abbrev Owned : Board → List Member → Type 0
  Owned board members = (member : Member) × Contains members member × (variant ≡ member.heading.variant) × (member.contents.board ≡ board)

  -- the member that a board is of
  owner : (members : List Member) (board : Board) → Contains (boards_of variant members) board
      → Owned board members
  owner [] board (k, below, is) = absurd (omega (arith, below))
  owner (first ∷ members) board there = by (is_own first) refl there (owner members board)
    where
      later : Owned board members → Owned board (first ∷ members)
      later (member, (k, below, is), same, held) = (member, (suc k, omega (arith, below), is), same, held)

      by : (b : Bool) → is_own first ≡ b
          → Contains (map (λ (member : Member). member.contents.board) (cond b (first ∷ filter is_own members) (filter is_own members))) board
          → (Contains (boards_of variant members) board → Owned board members) → Owned board (first ∷ members)
      by true own (zero, below, is) on = (first, (zero, omega arith, refl), one_word variant first.heading.variant own, is)
      by true own (suc k, below, is) on = later (on (k, omega (arith, below), is))
      by false other there on = later (on there)

  owned : (members : List Member) (member : Member) → Contains members member → variant ≡ member.heading.variant
      → Contains (boards_of variant members) member.contents.board
  owned members member there same =
      let (k, below, is) = Contains-kept is_own member (ap (λ named. bytes_eq (variant_word variant) (variant_word named)) (sym same) ∙ own_word variant) members there in
      let kept = filter is_own members in
      (k, omega (arith, below, length-map kept (λ (member : Member). member.contents.board)), get_or-map (λ (member : Member). member.contents.board) kept k member member.contents.board below ∙ ap (λ (member : Member). member.contents.board) is)

-- ---- members without a flaw

module _ (all : List Member) where
  pub each_flawless : (members : List Member) → first_flawed all members ≡ None → (member : Member)
      → Contains members member → flaw_of all member ≡ None
  each_flawless [] e member (k, below, is) = absurd (omega (arith, below))
  each_flawless (first ∷ members) e member there = by (flaw_of all first) refl e there (λ left later. each_flawless members left member later)
    where
      by : (flaw : Option Flaw) → flaw_of all first ≡ flaw → option_or (option_map (Flawed (name_of_member first)) flaw) (first_flawed all members) ≡ None
          → Contains (first ∷ members) member → (first_flawed all members ≡ None → Contains members member → flaw_of all member ≡ None) → flaw_of all member ≡ None
      by None none e (zero, below, is) on = ap (flaw_of all) (sym is) ∙ none
      by None none e (suc k, below, is) on = on e (k, omega (arith, below), is)
      by (Some flaw) found e there on = cc

  all_flawless : (members : List Member) → ((member : Member) → Contains members member → flaw_of all member ≡ None) → first_flawed all members ≡ None
  all_flawless [] each = refl
  all_flawless (first ∷ members) each =
      ap (λ flaw. option_or (option_map (Flawed (name_of_member first)) flaw) (first_flawed all members)) (each first (zero, omega arith, refl))
      ∙ all_flawless members (λ member (k, below, is). each member (suc k, omega (arith, below), is))

  never_closed : (members : List Member) (records classes : ℕ) → first_flawed all members ≡ Some (Closed records classes) → ⊥
  never_closed [] records classes e = cc
  never_closed (first ∷ members) records classes e = by (flaw_of all first) e (never_closed members records classes)
    where
      by : (flaw : Option Flaw) → option_or (option_map (Flawed (name_of_member first)) flaw) (first_flawed all members) ≡ Some (Closed records classes)
          → (first_flawed all members ≡ Some (Closed records classes) → ⊥) → ⊥
      by None e on = on e
      by (Some flaw) e on = cc

  pub flawless_parts : (member : Member) → flaw_of all member ≡ None → (has_all_home member.contents.board ≡ false) × (move_out all member ≡ None)
  flawless_parts member e = by (has_all_home member.contents.board) (move_out all member) e
    where
      by : (home : Bool) (out : Option Move) → cond home (Some Won) (opened out) ≡ None → (home ≡ false) × (out ≡ None)
      by true out e = cc
      by false None e = (refl, refl)
      by false (Some move) e = cc

-- what is found where it is closed
pub closed_parts : (summary : Summary) (members : List Member) (records classes : ℕ) → finding_of summary members ≡ Closed records classes
    → (first_flawed members members ≡ None) × (summary.refused ≡ 0) × (records ≡ summary.records) × (classes ≡ length (groups_of members))
closed_parts summary members records classes e = by_first (first_flawed members members) refl e
  where
    records_in : Finding → ℕ
    records_in (Closed records classes) = records
    records_in (Flawed name flaw) = 0
    records_in (Refused records) = 0

    classes_in : Finding → ℕ
    classes_in (Closed records classes) = classes
    classes_in (Flawed name flaw) = 0
    classes_in (Refused records) = 0

    by_none : (none : Bool) → (summary.refused == 0) ≡ none → cond none (Closed summary.records (length (groups_of members))) (Refused summary.refused) ≡ Closed records classes
        → (summary.refused ≡ 0) × (records ≡ summary.records) × (classes ≡ length (groups_of members))
    by_none true is e = (eqb-true summary.refused 0 is, sym (ap records_in e), sym (ap classes_in e))
    by_none false is e = absurd (cc)

    by_first : (found : Option Finding) → first_flawed members members ≡ found → unwrap_or found (flawless summary (length (groups_of members))) ≡ Closed records classes
        → (first_flawed members members ≡ None) × (summary.refused ≡ 0) × (records ≡ summary.records) × (classes ≡ length (groups_of members))
    by_first None none e = let (refused, counted, in_classes) = by_none (summary.refused == 0) refl e in (none, refused, counted, in_classes)
    by_first (Some finding) found e = absurd (never_closed members members records classes (found ∙ ap (λ finding. Some finding) e))

-- ---- a collection whose members have boards

module _ (all : List Member) (wells : (member : Member) → Contains all member → IsWellFormed (game_of member.heading.variant) member.contents.board) where
  not_true : (b : Bool) → not b ≡ false → b ≡ true
  not_true true e = refl
  not_true false e = cc

  -- a move leads out exactly where no board of the member's game is equivalent to the one after it
  pub stays_exactly : (member : Member) → Contains all member → (move : Move) (after : Board)
      → Step (game_of member.heading.variant) member.contents.board move after
      → (leads_out all member move ≡ false) ↔ IsAmong (game_of member.heading.variant)
      (boards_of member.heading.variant all) after
  stays_exactly member there move after step = (ahead, back)
    where
      leads : (member_after member move).contents.board ≡ after
      leads = after_step (game_of member.heading.variant) member.contents.board after move step

      well : IsWellFormed (game_of member.heading.variant) (member_after member move).contents.board
      well = subst (IsWellFormed (game_of member.heading.variant)) (sym leads)
          (stays_well_formed (game_of member.heading.variant) member.contents.board after move
          (wells member there) step)

      ahead : leads_out all member move ≡ false
          → IsAmong (game_of member.heading.variant) (boards_of member.heading.variant all) after
      ahead stays =
          let next = member_after member move in
          let (other, inside, together) = any_where (λ other. belong_together other next) all
          (not_true (has_one next all) stays) in
          let (named, alike) = (together-Equivalent other next (wells other inside) well).0 together in
          let back = Equivalent-sym (game_of other.heading.variant) other.contents.board next.contents.board
          (wells other inside).piles alike in
          let own = subst
          (λ variant. Equivalent (game_of variant) next.contents.board other.contents.board) named back in (
            other.contents.board,
            owned member.heading.variant all other inside (sym named),
            subst
                (λ board. Equivalent (game_of member.heading.variant) board other.contents.board) leads own,
          )

      back : IsAmong (game_of member.heading.variant) (boards_of member.heading.variant all) after
          → leads_out all member move ≡ false
      back (held, among, alike) =
          let next = member_after member move in
          let (other, (k, below, is), same, is_held) = owner member.heading.variant all held among in
          let own = subst (λ held. Equivalent (game_of member.heading.variant) next.contents.board held)
          (sym is_held) (subst (λ board. Equivalent (game_of member.heading.variant) board held)
          (sym leads) alike) in
          let turned = Equivalent-sym
          (game_of member.heading.variant) next.contents.board other.contents.board well.piles own in
          let together = (together-Equivalent other next (wells other (k, below, is)) well).1 (
            sym same,
            subst
                (λ variant. Equivalent (game_of variant) other.contents.board next.contents.board) same turned,
          ) in
          ap not (list_any_at (λ other. belong_together other next) all k other below
          (ap (λ other. belong_together other next) is ∙ together))

  -- each move from a member without a flaw leads to a board that is equivalent to one of its game's
  pub next_among : (member : Member) → Contains all member → flaw_of all member ≡ None → (after : Board) (move : Move)
      → Step (game_of member.heading.variant) member.contents.board move after
      → IsAmong (game_of member.heading.variant) (boards_of member.heading.variant all) after
  next_among member there none after move step =
      let game = game_of member.heading.variant in
      let board = member.contents.board in
      let listed = all_listed game board move (step.fits, not_refused_at_step game board after move step) in
      (stays_exactly member there move after step).0
      (none_at (leads_out all member) (legal_moves game board) (flawless_parts all member none).1 move listed)

  pub each_game_closed : first_flawed all all ≡ None → (of : Variant) → IsClosed (game_of of) (boards_of of all)
  each_game_closed none of = record {
    none_won = λ board inside won.
        let (member, there, same, held) = owner of all board inside in
        let lost = (flawless_parts all member (each_flawless all all none member there)).0 in
        absurd (true≢false (sym (won_home board won) ∙ ap has_all_home (sym held) ∙ lost));
    stays = λ board after move inside step.
        let (member, there, same, held) = owner of all board inside in
        let step' = subst (λ variant. Step (game_of variant) member.contents.board move after) same (subst (λ board. Step (game_of of) board move after) (sym held) step) in
        subst (λ variant. IsAmong (game_of variant) (boards_of variant all) after) (sym same)
        (next_among member there (each_flawless all all none member there) after move step');
  }

  -- and where the boards of each game are closed, no member has a flaw
  pub no_flaw : ((of : Variant) → IsClosed (game_of of) (boards_of of all)) → first_flawed all all ≡ None
  no_flaw closed = all_flawless all all by_member
    where
      by_member : (member : Member) → Contains all member → flaw_of all member ≡ None
      by_member member there =
          ap₂ (λ home out. cond home (Some Won) (opened out)) lost (none_found (leads_out all member) (legal_moves (game_of member.heading.variant) member.contents.board) stays)
        where
          inside : Contains (boards_of member.heading.variant all) member.contents.board
          inside = owned member.heading.variant all member there refl

          lost : has_all_home member.contents.board ≡ false
          lost = all_home (game_of member.heading.variant) member.contents.board false (wells member there) (λ e. cc, λ won. absurd ((closed member.heading.variant).none_won member.contents.board inside won))

          stays : (move : Move) → Contains (legal_moves (game_of member.heading.variant) member.contents.board) move → leads_out all member move ≡ false
          stays move listed =
              let (fits, allowed) = All-contains (IsAllowed (game_of member.heading.variant) member.contents.board) (legal_moves (game_of member.heading.variant) member.contents.board) move (all_legal (game_of member.heading.variant) member.contents.board) listed in
              let (after, step) = step_from (game_of member.heading.variant) member.contents.board move fits allowed in
              (stays_exactly member there move after step).1
              ((closed member.heading.variant).stays member.contents.board after move inside step)

-- ---- the accepted records of a collection

pub unsolvable_in : (of : Variant) (boards : List Board) → IsClosed (game_of of) boards → (board : Board) → IsWellFormed (game_of of) board → Contains boards board → IsUnsolvable (game_of of) board
unsolvable_in FreeCell = unsolvable freecell_laws
unsolvable_in BakersGame = unsolvable bakers_game_laws
unsolvable_in EightOff = unsolvable eight_off_laws

module _ (variant : Variant) (records : List RecordText) where
  abbrev pub members : List Member
  members = members_among variant records

  pub wells : (member : Member) → Contains members member
      → IsWellFormed (game_of member.heading.variant) member.contents.board
  wells = member-IsWellFormed variant records

  pub member_unsolvable : first_flawed members members ≡ None → (member : Member) → Contains members member
      → IsUnsolvable (game_of member.heading.variant) member.contents.board
  member_unsolvable none member there =
      unsolvable_in member.heading.variant (boards_of member.heading.variant members) (each_game_closed members wells none member.heading.variant)
      member.contents.board (wells member there) (owned member.heading.variant members member there refl)

  -- the counts of the records
  abbrev pub counts : Summary
  counts = summary_of variant records

  -- it is found closed exactly where none is refused, and no member has a flaw
  pub found_where : (count_by (is_refused variant) records ≡ 0) → first_flawed members members ≡ None
      → finding_of counts members ≡ Closed (length records) (length (groups_of members))
  found_where none flawless_all =
      ap (λ found. unwrap_or found (flawless counts (length (groups_of members)))) flawless_all
      ∙ ap (λ refused. cond (refused == 0) (Closed (length records) (length (groups_of members))) (Refused refused)) none

  pub found_exactly : finding_of counts members ≡ Closed (length records) (length (groups_of members))
      ↔ ((count_by (is_refused variant) records ≡ 0) × ((of : Variant) → IsClosed (game_of of) (boards_of of members)))
  found_exactly = (
    λ e.
        let (none, refused, records, classes) = closed_parts counts members (length records) (length (groups_of members)) e in
        (refused, each_game_closed members wells none),
    λ (none, closed). found_where none (no_flaw members wells closed),
  )

-- ---- what is written

module _ (variant : Variant) where
  -- where what is written begins so, no record is refused
  none_refused : (records : List RecordText) (tail rest : List ℕ) → refusals variant records ++ tail ≡ codes "closed" ++ rest
      → (count_by (is_refused variant) records ≡ 0) × (refusals variant records ≡ [])
  none_refused [] tail rest e = (refl, refl)
  none_refused (text ∷ records) tail rest e = by (reading_of variant text.bytes) refl e (none_refused records tail rest)
    where
      counted : count_by (is_refused variant) (text ∷ records) ≡ cond (is_refused variant text) 1 0 + count_by (is_refused variant) records
      counted = sum_by-cons (λ text. cond (is_refused variant text) 1 0) text records

      by : (reading : Reading) → reading_of variant text.bytes ≡ reading
          → (printed_or refusal_line (λ number heading contents. []) text reading ++ refusals variant records) ++ tail ≡ codes "closed" ++ rest
          → (refusals variant records ++ tail ≡ codes "closed" ++ rest → (count_by (is_refused variant) records ≡ 0) × (refusals variant records ≡ []))
          → (count_by (is_refused variant) (text ∷ records) ≡ 0)
          × (printed_or refusal_line (λ number heading contents. []) text reading ++ refusals variant records ≡ [])
      by (Accepted heading contents) is e on =
          let (none, nothing) = on e in
          (counted ∙ ap₂ (λ reading n. cond (refuses reading) 1 0 + n) is none, nothing)
      by (IsRefused name fault) is e on =
          let sign : 35 ≡ 99 = ap (λ text. slice_index text 0) e in absurd (omega (arith, sign))

  -- and where none is, nothing is written of refusals
  pub no_refusals : (records : List RecordText) → count_by (is_refused variant) records ≡ 0 → refusals variant records ≡ []
  no_refusals [] e = refl
  no_refusals (text ∷ records) e =
      by (reading_of variant text.bytes) (sym (sum_by-cons (λ text. cond (is_refused variant text) 1 0) text records) ∙ e) (no_refusals records)
    where
      by : (reading : Reading) → cond (refuses reading) 1 0 + count_by (is_refused variant) records ≡ 0
          → (count_by (is_refused variant) records ≡ 0 → refusals variant records ≡ []) → printed_or refusal_line (λ number heading contents. []) text reading ++ refusals variant records ≡ []
      by (Accepted heading contents) e on = on (omega (arith, e))
      by (IsRefused name fault) e on = absurd (omega (arith, e))

  -- what is found where its line begins so
  is_closed : (finding : Finding) (rest : List ℕ) → finding_line finding ≡ codes "closed" ++ rest → (count : ℕ) × (classes : ℕ) × (finding ≡ Closed count classes)
  is_closed (Flawed name Won) rest e = let first : 119 ≡ 99 = ap (λ text. slice_index text 0) e in absurd (omega (arith, first))
  is_closed (Flawed name (Open move)) rest e = let first : 111 ≡ 99 = ap (λ text. slice_index text 0) e in absurd (omega (arith, first))
  is_closed (Refused records) rest e = let first : 114 ≡ 99 = ap (λ text. slice_index text 0) e in absurd (omega (arith, first))
  is_closed (Closed count classes) rest e = (count, classes, refl)

  pub written_closed : (records : List RecordText) (rest : List ℕ)
      → refusals variant records ++ finding_line (finding_of (summary_of variant records) (members_among variant records)) ≡ codes "closed" ++ rest
      → (count_by (is_refused variant) records ≡ 0) × (first_flawed (members_among variant records) (members_among variant records) ≡ None)
  written_closed records rest e =
      let finding = finding_of (summary_of variant records) (members_among variant records) in
      let (none, nothing) = none_refused records (finding_line finding) rest e in
      let (count, classes, is) = is_closed finding rest (ap (λ front. front ++ finding_line finding) (sym nothing) ∙ e) in
      (none, (closed_parts (summary_of variant records) (members_among variant records) count classes is).0)

  -- nothing counts as refused exactly where it is found closed
  pub none_counted : (records : List RecordText) → refused_with has_flaw variant records ≡ 0
      → (count_by (is_refused variant) records ≡ 0) × (first_flawed (members_among variant records) (members_among variant records) ≡ None)
  none_counted records e = by (first_flawed (members_among variant records) (members_among variant records)) refl e
    where
      by : (found : Option Finding) → first_flawed (members_among variant records) (members_among variant records) ≡ found
          → cond (is_some found) (count_by (is_refused variant) records + 1) (count_by (is_refused variant) records) ≡ 0
          → (count_by (is_refused variant) records ≡ 0) × (first_flawed (members_among variant records) (members_among variant records) ≡ None)
      by None found e = (e, found)
      by (Some finding) found e = absurd (omega (arith, e))

  pub counted_none : (records : List RecordText) → count_by (is_refused variant) records ≡ 0
      → first_flawed (members_among variant records) (members_among variant records) ≡ None → refused_with has_flaw variant records ≡ 0
  counted_none records none flawless_all =
      ap (λ found. cond (is_some found) (count_by (is_refused variant) records + 1) (count_by (is_refused variant) records)) flawless_all ∙ none
