-- What holds of lists of moves, whatever a move is: they lead to one board, play one after another, are legal or refused at one place, and the verdict on them is true.
use Rattle.std.proofs.Common.{◌++◌, ◌+◌, ◌<◌, ◌==◌, ◌↔◌, ◌∙◌, ◌∷◌, ◌≡◌, ◌⊎◌, [], All, ap, ap₂, arith, Bool, false}
use Rattle.std.proofs.Common.{get_or, if◌then◌else◌, inl, inr, length, List, None, Option, refl, slice_index, Some}
use Rattle.std.proofs.{Common.{subst, suc, sym, take, true, zero, ℕ}, lemmas.Bool.{eqb-true}}
use Rattle.std.proofs.lemmas.List.{Elements.{All-get_or, All-head, All-tail}, ext_get_or, Sums.{AllPass-from_list_all}}
use Rattle.std.{proofs.lemmas.{List.{take_more}, Option.{same_Some, slice_get-get_or}}, specs.List.{list_all}}
use Rattle.std.specs.Prelude.{Err, IfErr, IfOk, IsOk, Ok, Result}
use Rattle.fc_board.{proofs.WonLemmas.{won_height}, specs.{Boards.{Board, IsWellFormed}, Games.{Game}, Play.{by_first}}}
use Rattle.fc_board.specs.Play.{has_all_home, IsWon, one_later, OnlyLegal, Played, Refused, Stops, Verdict, verdict_by}
use Rattle.fc_board.specs.Play.{Won}
use Rattle.fc_board.specs.declared.fault.{PlayFault.{PlayFault}, StepFault.{StepFault}}

-- ---- one list after another
module _ {Item : Type 0} (Leads : Board → Item → Board → Type 0) where
  pub played_on : (board after : Board) (moves others : List Item) → Played Leads board (moves ++ others) after
      → (between : Board) × Played Leads board moves between × Played Leads between others after
  played_on board after [] others plays = (board, refl, plays)
  played_on board after (move ∷ moves) others (next, step, rest) =
      let (between, first, last) = played_on next after moves others rest in
      (between, (next, step, first), last)

  pub played_after : (board between after : Board) (moves others : List Item) → Played Leads board moves between → Played Leads between others after
      → Played Leads board (moves ++ others) after
  played_after board between after [] others first last = rw first at last
  played_after board between after (move ∷ moves) others (next, step, rest) last =
      (next, step, played_after next between after moves others rest last)

  -- what every move keeps, every list keeps
  pub kept_by_all : (P : Board → Type 0) → ((board after : Board) (move : Item) → P board → Leads board move after → P after)
      → (board after : Board) (moves : List Item) → P board → Played Leads board moves after → P after
  kept_by_all P kept board after [] holds plays = rw plays holds
  kept_by_all P kept board after (move ∷ moves) holds (between, step, rest) =
      kept_by_all P kept between after moves (kept board between move holds step) rest

-- what holds of one move
pub record MoveLaws {Item : Type 0} (Leads : Board → Item → Board → Type 0) (FitsGame : Item → Type 0) (reason : Board → Item → Option StepFault)
    (moved : Board → Item → Board) : Type 0 where
  pub goes : (board : Board) (move : Item) → FitsGame move → reason board move ≡ None → (after : Board) × Leads board move after
  pub not_refused : (board after : Board) (move : Item) → Leads board move after → reason board move ≡ None
  pub ends : (board after : Board) (move : Item) → Leads board move after → moved board move ≡ after
  pub foundations : (board after : Board) (move : Item) → length board.heights ≡ 4 → Leads board move after → length after.heights ≡ 4

-- ---- a board with four foundations on which all is home is won
all_thirteen : (heights : List ℕ) → length heights ≡ 4 → list_all (λ height. height == 13) heights ≡ true → heights ≡ 13 ∷ 13 ∷ 13 ∷ 13 ∷ []
all_thirteen heights four all =
    ext_get_or 0 heights (13 ∷ 13 ∷ 13 ∷ 13 ∷ []) four
    (λ suit inside. eqb-true (slice_index heights suit) 13 (AllPass-from_list_all (λ height. height == 13) heights all suit 0 inside) ∙ sym (won_height suit (omega arith)))

-- the verdict at the end of a list that is legal
abbrev at_end : Bool → Verdict
at_end home = if home then Won else OnlyLegal

after_end : (home : Bool) → one_later (at_end home) ≡ at_end home
after_end true = refl
after_end false = refl

ends_allowed : (after : Board) → length after.heights ≡ 4 → ¬ IsWon after → (home : Bool) → has_all_home after ≡ home → at_end home ≡ OnlyLegal
ends_allowed after four never true e = absurd (never (all_thirteen after.heights four e))
ends_allowed after four never false e = refl

never_refused : (home : Bool) (index : ℕ) (fault : StepFault) → at_end home ≡ Refused index fault → ⊥
never_refused true index fault e = cc
never_refused false index fault e = cc

won_at_end : (home : Bool) → at_end home ≡ Won → home ≡ true
won_at_end true e = refl
won_at_end false e = cc

-- ---- legal, or refused at one place; and the verdict
module _ {Item : Type 0} {Leads : Board → Item → Board → Type 0} {FitsGame : Item → Type 0} {reason : Board → Item → Option StepFault}
    {moved : Board → Item → Board} (laws : MoveLaws Leads FitsGame reason moved) where
  one_after : (board between other : Board) (move : Item) → Leads board move between → Leads board move other → between ≡ other
  one_after board between other move step step' = sym (laws.ends board between move step) ∙ laws.ends board other move step'

  pub one_end : (board after other : Board) (moves : List Item) → Played Leads board moves after → Played Leads board moves other → after ≡ other
  one_end board after other [] a b = a ∙ sym b
  one_end board after other (move ∷ moves) (between, step, rest) (between', step', rest') =
      one_end between after other moves rest
      (rw (one_after board between' between move step' step) at rest')

  refused_later : (board between : Board) (move : Item) (moves : List Item) (index : ℕ) (fault : StepFault) → Leads board move between
      → Stops Leads FitsGame reason between moves index fault → Stops Leads FitsGame reason board (move ∷ moves) (suc index) fault
  refused_later board between move moves index fault step at =
      record { before = at.before; played = (between, step, at.played); move = at.move; there = at.there; fits = at.fits; refused = at.refused }

  abbrev IsRefused : Board → List Item → Type 0
  IsRefused board moves = (index : ℕ) × (fault : StepFault) × Stops Leads FitsGame reason board moves index fault

  abbrev IsLegal : Board → List Item → Type 0
  IsLegal board moves = (after : Board) × Played Leads board moves after

  legal_from : (board : Board) (move : Item) (moves : List Item) → FitsGame move
      → ((between : Board) → Leads board move between → IsLegal between moves ⊎ IsRefused between moves)
      → (refused : Option StepFault) → reason board move ≡ refused → IsLegal board (move ∷ moves) ⊎ IsRefused board (move ∷ moves)
  legal_from board move moves fits rest (Some fault) e =
      inr (0, fault, record { before = board; played = refl; move = move; there = refl; fits = fits; refused = e })
  legal_from board move moves fits rest None e =
      let (between, step) = laws.goes board move fits e in
      elim (rest between step) [
        | inl legal ↦ inl (legal.0, (between, step, legal.1))
        | inr refused ↦ inr (suc refused.0, refused.1, refused_later board between move moves refused.0 refused.1 step refused.2)
      ]

  pub legal_or_refused : (board : Board) (moves : List Item) → All FitsGame moves → IsLegal board moves ⊎ IsRefused board moves
  legal_or_refused board [] fits = inl (board, refl)
  legal_or_refused board (move ∷ moves) fits =
      legal_from board move moves (All-head FitsGame move moves fits)
      (λ between step. legal_or_refused between moves (All-tail FitsGame move moves fits)) (reason board move) refl

  -- what is refused at the head does not lead on there
  no_step_there : (board before between : Board) (move other : Item) (fault : StepFault) → before ≡ board → Some move ≡ Some other
      → reason before other ≡ Some fault → Leads board move between → ⊥
  no_step_there board before between move other fault here same refused step =
      let none : reason before other ≡ None = ap₂ reason here (sym (same_Some move other same)) ∙ laws.not_refused board between move step in
      cc

  at_tail : (board between : Board) (move : Item) (moves : List Item) (index : ℕ) (fault : StepFault) → Leads board move between
      → Stops Leads FitsGame reason board (move ∷ moves) (suc index) fault → Stops Leads FitsGame reason between moves index fault
  at_tail board between move moves index fault step at =
      let (next, step', rest) = at.played in
      record {
        before = at.before;
        played = rw (one_after board next between move step' step) at rest;
        move = at.move;
        there = at.there;
        fits = at.fits;
        refused = at.refused;
      }

  pub legal_not_refused : (board after : Board) (moves : List Item) → Played Leads board moves after
      → (index : ℕ) (fault : StepFault) → Stops Leads FitsGame reason board moves index fault → ⊥
  legal_not_refused board after [] plays index fault at = cc (at.there)
  legal_not_refused board after (move ∷ moves) (between, step, rest) zero fault at =
      no_step_there board at.before between move at.move fault at.played at.there at.refused step
  legal_not_refused board after (move ∷ moves) (between, step, rest) (suc index) fault at =
      legal_not_refused between after moves rest index fault (at_tail board between move moves index fault step at)

  -- what answers by playing the list or by where it stops answers well exactly where the list is legal
  pub played-exactly : (board after : Board) (moves : List Item) (answer : Result Unit PlayFault) → IfOk answer (λ _. Played Leads board moves after)
      → IfErr answer (λ fault. Stops Leads FitsGame reason board moves fault.index fault.fault) → IsOk answer ↔ IsLegal board moves
  played-exactly board after moves (Ok done) plays stops = (λ ok. (after, plays), λ legal. refl)
  played-exactly board after moves (Err fault) plays stops =
      (λ ok. cc, λ legal. absurd (legal_not_refused board legal.0 moves legal.1 fault.index fault.fault stops))

  pub one_refusal : (board : Board) (moves : List Item) (index other : ℕ) (fault why : StepFault) →
      Stops Leads FitsGame reason board moves index fault
      → Stops Leads FitsGame reason board moves other why → (index ≡ other) × (fault ≡ why)
  one_refusal board [] index other fault why a b = cc (a.there)
  one_refusal board (move ∷ moves) zero zero fault why a b =
      let here = a.played ∙ sym b.played in
      let same = same_Some a.move b.move (sym a.there ∙ b.there) in
      (refl, same_Some fault why (sym a.refused ∙ ap₂ reason here same ∙ b.refused))
  one_refusal board (move ∷ moves) zero (suc other) fault why a b =
      let (between, step, rest) = b.played in
      absurd (no_step_there board a.before between move a.move fault a.played a.there a.refused step)
  one_refusal board (move ∷ moves) (suc index) zero fault why a b =
      let (between, step, rest) = a.played in
      absurd (no_step_there board b.before between move b.move why b.played b.there b.refused step)
  one_refusal board (move ∷ moves) (suc index) (suc other) fault why a b =
      let (between, step, rest) = a.played in
      let same = one_refusal between moves index other fault why
      (at_tail board between move moves index fault step a) (at_tail board between move moves other why step b) in
      (ap suc same.0, same.1)

  -- ---- the verdict
  verdict-after : (board between : Board) (move : Item) (moves : List Item) → Leads board move between
      → verdict_by reason moved board (move ∷ moves) ≡ one_later (verdict_by reason moved between moves)
  verdict-after board between move moves step =
      ap (λ refused. by_first refused (verdict_by reason moved (moved board move) moves)) (laws.not_refused board between move step)
      ∙ ap (λ after. one_later (verdict_by reason moved after moves)) (laws.ends board between move step)

  verdict-Played : (board after : Board) (moves : List Item) → Played Leads board moves after →
      verdict_by reason moved board moves ≡ at_end (has_all_home after)
  verdict-Played board after [] plays = rw (← plays)
  verdict-Played board after (move ∷ moves) (between, step, rest) =
      verdict-after board between move moves step ∙ ap one_later (verdict-Played between after moves rest) ∙ after_end (has_all_home after)

  pub verdict-Wins : (board after : Board) (moves : List Item) → Played Leads board moves after → IsWon after →
      verdict_by reason moved board moves ≡ Won
  verdict-Wins board after moves plays won =
      verdict-Played board after moves plays ∙ ap (λ heights. at_end (list_all (λ height. height == 13) heights)) won

  still_four : (board after : Board) (moves : List Item) → length board.heights ≡ 4 → Played Leads board moves after → length after.heights ≡ 4
  still_four = kept_by_all Leads (λ board. length board.heights ≡ 4) laws.foundations

  pub verdict-OnlyLegal : (board after : Board) (moves : List Item) → length board.heights ≡ 4 → Played Leads board moves after → ¬ IsWon after
      → verdict_by reason moved board moves ≡ OnlyLegal
  verdict-OnlyLegal board after moves four plays never =
      verdict-Played board after moves plays ∙ ends_allowed after (still_four board after moves four plays) never (has_all_home after) refl

  pub verdict-Stops : (board : Board) (moves : List Item) (index : ℕ) (fault : StepFault) → Stops Leads FitsGame reason board moves index fault
      → verdict_by reason moved board moves ≡ Refused index fault
  verdict-Stops board [] index fault at = cc (at.there)
  verdict-Stops board (move ∷ moves) zero fault at =
      let here : reason board move ≡ Some fault = ap₂ reason (sym at.played) (same_Some move at.move at.there) ∙ at.refused in
      rw here
  verdict-Stops board (move ∷ moves) (suc index) fault at =
      let (between, step, rest) = at.played in
      verdict-after board between move moves step
      ∙ ap one_later (verdict-Stops between moves index fault (at_tail board between move moves index fault step at)) ∙ ap (λ place. Refused place fault) (omega arith)

  -- ---- the ways back
  refused_so : (board : Board) (moves : List Item) (index other : ℕ) (fault why : StepFault) → Stops Leads FitsGame reason board moves index fault
      → Refused index fault ≡ Refused other why → Stops Leads FitsGame reason board moves other why
  refused_so board moves index other fault why at same =
      subst (λ place. Stops Leads FitsGame reason board moves place.0 place.1) (ap place_of same) at
    where
      place_of : Verdict → ℕ × StepFault
      place_of (Refused place cause) = (place, cause)
      place_of Won = (index, fault)
      place_of OnlyLegal = (index, fault)

  refused_from : (board : Board) (moves : List Item) (index : ℕ) (fault : StepFault) → IsLegal board moves ⊎ IsRefused board moves
      → verdict_by reason moved board moves ≡ Refused index fault → Stops Leads FitsGame reason board moves index fault
  refused_from board moves index fault (inl (after, plays)) is =
      absurd (never_refused (has_all_home after) index fault (sym (verdict-Played board after moves plays) ∙ is))
  refused_from board moves index fault (inr (other, why, at)) is =
      refused_so board moves other index why fault at (sym (verdict-Stops board moves other why at) ∙ is)

  -- a list whose verdict is no refusal is legal
  legal_unless : (board : Board) (moves : List Item) → IsLegal board moves ⊎ IsRefused board moves
      → ((index : ℕ) (fault : StepFault) → verdict_by reason moved board moves ≡ Refused index fault → ⊥) → IsLegal board moves
  legal_unless board moves (inl legal) never = legal
  legal_unless board moves (inr (index, fault, at)) never = absurd (never index fault (verdict-Stops board moves index fault at))

  won_from : (board : Board) (moves : List Item) → length board.heights ≡ 4 → IsLegal board moves → verdict_by reason moved board moves ≡ Won
      → (after : Board) × Played Leads board moves after × IsWon after
  won_from board moves four (after, plays) is =
      let home = won_at_end (has_all_home after) (sym (verdict-Played board after moves plays) ∙ is) in
      (after, plays, all_thirteen after.heights (still_four board after moves four plays) home)

  pub refused-exactly : (board : Board) (moves : List Item) (index : ℕ) (fault : StepFault) → All FitsGame moves
      → verdict_by reason moved board moves ≡ Refused index fault ↔ Stops Leads FitsGame reason board moves index fault
  refused-exactly board moves index fault fits =
      (refused_from board moves index fault (legal_or_refused board moves fits), verdict-Stops board moves index fault)

  pub won-exactly : (board : Board) (moves : List Item) → All FitsGame moves → length board.heights ≡ 4
      → verdict_by reason moved board moves ≡ Won ↔ ((after : Board) × Played Leads board moves after × IsWon after)
  won-exactly board moves fits four = (
    λ is. won_from board moves four (legal_unless board moves (legal_or_refused board moves fits) (λ index fault refused. cc)) is,
    λ (after, plays, won). verdict-Wins board after moves plays won,
  )

  pub allowed-exactly : (board : Board) (moves : List Item) → All FitsGame moves → length board.heights ≡ 4
      → verdict_by reason moved board moves ≡ OnlyLegal
      ↔ (IsLegal board moves × (((after : Board) × Played Leads board moves after × IsWon after) → ⊥))
  allowed-exactly board moves fits four = (
    λ is. (
      legal_unless board moves (legal_or_refused board moves fits) (λ index fault refused. cc),
      λ (after, plays, home). let won = verdict-Wins board after moves plays home in cc,
    ),
    λ ends. verdict-OnlyLegal board ends.0.0 moves four ends.0.1 (λ won. ends.1 (ends.0.0, ends.0.1, won)),
  )

-- ---- a list is played move by move

-- the moves were played, and the board after them is well formed
pub record HasPlayed {Item : Type 0} (Leads : Board → Item → Board → Type 0) (game : Game) (board : Board) (moves : List Item) (after : Board) : Type 0 where
  pub plays : Played Leads board moves after
  pub well_formed : IsWellFormed game after

-- one more move was played
pub HasPlayed-more : {Item : Type 0} (Leads : Board → Item → Board → Type 0) (game : Game) (board before after : Board) (moves : List Item) (index : ℕ) (blank : Item)
    → index < length moves → HasPlayed Leads game board (take index moves) before → Leads before (get_or moves index blank) after → IsWellFormed game after
    → HasPlayed Leads game board (take (index + 1) moves) after
HasPlayed-more Leads game board before after moves index blank inside played step well = record {
  plays = subst (λ these. Played Leads board these after) (sym (take_more moves index blank inside))
      (played_after Leads board before after (take index moves) (get_or moves index blank ∷ []) played.plays (after, step, refl));
  well_formed = well;
}

-- the next move is refused
pub refused_next : {Item : Type 0} (Leads : Board → Item → Board → Type 0) (FitsGame : Item → Type 0) (reason : Board → Item → Option StepFault)
    (board before : Board) (moves : List Item) (index : ℕ) (blank : Item) (fault : StepFault) → index < length moves → All FitsGame moves
    → Played Leads board (take index moves) before → reason before (get_or moves index blank) ≡ Some fault → Stops Leads FitsGame reason board moves index fault
refused_next Leads FitsGame reason board before moves index blank fault inside fits played refused = record {
  before = before;
  played = played;
  move = get_or moves index blank;
  there = slice_get-get_or moves index blank inside;
  fits = All-get_or FitsGame moves index blank inside fits;
  refused = refused;
}
