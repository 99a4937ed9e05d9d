-- The listed moves of several cards are all that the game allows.
use Rattle.std.proofs.Common.{◌++◌, ◌+◌, ◌-◌, ◌<◌, ◌↔◌, ◌∙◌, ◌∷◌, ◌≡◌, ◌≢◌, ◌⊎◌, [], All, ap, ap₂, arith, Bool, cond}
use Rattle.std.proofs.Common.{drop, false, inl, inr, length, List, map, not, Option, refl, Some, subst, suc, sym, true}
use Rattle.std.proofs.{Common.{zero, ℕ}, lemmas.{Bool.{cases_lt, eq-eqb, eqb-true}, List.Elements.{All-contains}}}
use Rattle.std.{proofs.lemmas.{List.{length-map}, Option.{same_Some}}, specs.List.{Contains, filter, flat_map}}
use Rattle.std.specs.Option.{is_none}
use Rattle.{fc_bytes.specs.declared.runs.RunBytes.{RunBytes}, fc_card.specs.{places, rank_of}}
use Rattle.fc_board.{proofs.RunStepLemmas.{not_refused_exactly}, specs.{Boards.{Board}, Games.{Game}, Moves.{RunFits}}}
use Rattle.fc_board.specs.Steps.{column_at, fault_or, last_card, longest_run, onto, run_count, run_refusal}
use Rattle.fc_board.specs.declared.{fault.StepFault.{StepFault, TheVariants.{SamePile}}, run_move.RunMove.{RunMove}}
use Rattle.fc_board.specs.declared.run_move.RunMove.TheVariants.{Run}
use Rattle.fc_bytes.proofs.ChildrenLemmas.{none_of, none_pass, rest_fails, source_more, tried_more}
use Rattle.fc_bytes.proofs.LegalMoves.{all_sourced, all_tried, sourced_all, tried_all}
use Rattle.fc_bytes.specs.{IsAllowedRun, legal_runs, legal_runs_between, legal_runs_from, run_bytes}

-- more cards than are a run do not go
pub refused_past : (game : Game) (board : Board) (from to count : ℕ) → RunFits game (Run from to (Some count)) →
    longest_run game (column_at board from) < count → is_none (run_refusal game board (Run from to (Some count))) ≡ false
refused_past game board from to count fits past = either (is_none (run_refusal game board (Run from to (Some count)))) refl
  where
    either : (test : Bool) → is_none (run_refusal game board (Run from to (Some count))) ≡ test → test ≡ false
    either false says = refl
    either true says =
        let (after, step) = (not_refused_exactly game board (Run from to (Some count)) fits).0 (none_of _ says) in
        let same : count ≡ step.1.count = eqb-true count step.1.count step.1.said_so in
        let few = step.1.is_run in
        absurd (omega arith)

-- and none from a column to itself
pub nothing_between : (game : Game) (board : Board) (column : ℕ) → legal_runs_between game board column column ≡ []
nothing_between game board column =
    none_pass (λ run. is_none (run_refusal game board run)) (λ more. Run column column (Some (more + 2)))
    (λ more. ap (λ same. is_none (fault_or (not same) SamePile (rest more))) (eq-eqb column column refl)) (places 12)
  where
    rest : ℕ → Option StepFault
    rest more = onto game board column column (Some (more + 2)) (last_card (column_at board column)) (last_card (column_at board column))

-- no run that is long enough
pub none_between : (game : Game) (board : Board) (from to : ℕ) → from < 8 → to < 8 → longest_run game (column_at board from) < 2 → legal_runs_between game board from to ≡ []
none_between game board from to from_fits to_fits short =
    rest_fails (λ run. is_none (run_refusal game board run)) (λ more. Run from to (Some (more + 2))) 0 12 (λ more past below.
    refused_past game board from to (more + 2) (from_fits, to_fits, (omega arith, omega (arith, below))) (omega (arith, short)))

pub none_from : (game : Game) (board : Board) (from : ℕ) → from < 8 → longest_run game (column_at board from) < 2 → legal_runs_from game board from ≡ []
none_from game board from fits short =
    no_pieces (legal_runs_between game board from) 8 (λ to below. none_between game board from to fits below short)
  where
    no_pieces : {X : Type 0} (f : ℕ → List X) (count : ℕ) → ((k : ℕ) → k < count → f k ≡ []) → flat_map f (places count) ≡ []
    no_pieces f zero none = refl
    no_pieces {X} f (suc count) none =
        let next : count + 1 ≡ suc count = omega arith in
        subst (λ n. flat_map f (places n) ≡ []) next
        (source_more f count ∙ ap₂ (λ front back. front ++ back) (no_pieces f count (λ k below. none k (omega (arith, below)))) (none count (omega arith)))

-- ---- onto a card go as many cards as it is ranks higher, or none
module _ (game : Game) (board : Board) (from to : ℕ) (from_fits : from < 8) (to_fits : to < 8) (card last : ℕ)
    (found : last_card (column_at board from) ≡ Some card) (target : last_card (column_at board to) ≡ Some last) where
  abbrev tried : ℕ → RunMove
  tried more = Run from to (Some (more + 2))

  abbrev passes : RunMove → Bool
  passes run = is_none (run_refusal game board run)

  counted_so : (more : ℕ) → more < 12 → passes (tried more) ≡ true → more + 2 ≡ rank_of last - rank_of card
  counted_so more below says =
      let (after, step) = (not_refused_exactly game board (tried more) (from_fits, to_fits, (omega arith, omega (arith, below)))).0 (none_of _ says) in
      let same = same_Some card step.1.card (sym found ∙ step.1.found) in
      eqb-true (more + 2) step.1.count step.1.said_so ∙ step.1.counted
      ∙ ap₂ (λ card last. run_count game board from to (Some (more + 2)) card last) (sym same) target

  other_fails : (more : ℕ) → more < 12 → more + 2 ≢ rank_of last - rank_of card → passes (tried more) ≡ false
  other_fails more below other = either (passes (tried more)) (λ says. other (counted_so more below says))
    where
      either : (test : Bool) → (test ≡ true → ⊥) → test ≡ false
      either false never = refl
      either true never = absurd (never refl)

  pub none_onto : (rank_of last - rank_of card < 2) ⊎ (longest_run game (column_at board from) < rank_of last - rank_of card) →
      legal_runs_between game board from to ≡ []
  none_onto out = rest_fails passes tried 0 12 (λ more past below. elim (cases_lt (longest_run game (column_at board from)) (more + 2)) [
    | inl long ↦ refused_past game board from to (more + 2) (from_fits, to_fits, (omega arith, omega (arith, below))) long
    | inr few ↦ other_fails more (omega (arith, below)) (λ same. elim out [ inl one ↦ omega (arith, one, same) | inr many ↦ omega (arith, many, few, same) ])
  ])

  pub one_onto : (more : ℕ) → more < 12 → more + 2 ≡ rank_of last - rank_of card →
      legal_runs_between game board from to ≡ cond (passes (tried more)) (tried more ∷ []) []
  one_onto more below is =
      let all : more + 1 + (11 - more) ≡ 12 = omega (arith, below) in
      let front : more ≡ 0 + more = omega arith in
      ap (λ n. filter passes (map tried (places n))) (sym all)
      ∙ rest_fails passes tried (more + 1) (11 - more) (λ k past inside. other_fails k (omega (arith, inside, below)) (λ same. omega (arith, past, is, same)))
      ∙ tried_more passes tried more
      ∙ ap (λ listed. listed ++ cond (passes (tried more)) (tried more ∷ []) [])
      (ap (λ n. filter passes (map tried (places n))) front ∙ rest_fails passes tried 0 more (λ k past inside. other_fails k (omega (arith, inside, below)) (λ same. omega (arith, inside, is, same))))

-- ---- the list has the moves that the game allows
all_allowed : (game : Game) (board : Board) → All (IsAllowedRun game board) (legal_runs game board)
all_allowed game board =
    all_sourced (IsAllowedRun game board) (legal_runs_from game board) 8 (λ from from_fits.
    all_sourced (IsAllowedRun game board) (legal_runs_between game board from) 8 (λ to to_fits.
    all_tried (IsAllowedRun game board) (λ run. is_none (run_refusal game board run)) (λ more. Run from to (Some (more + 2))) 12 (λ more few says.
    (from, to, more + 2, refl, omega arith, (from_fits, to_fits, (omega arith, omega (arith, few))), none_of _ says))))

all_there : (game : Game) (board : Board) (run : RunMove) → IsAllowedRun game board run → Contains (legal_runs game board) run
all_there game board run (from, to, count, is, several, fits, allowed) =
    let (from_fits, to_fits, counted) = subst (RunFits game) is fits in
    let test : RunMove → Bool = λ run. is_none (run_refusal game board run) in
    let number : count - 2 + 2 ≡ count = omega (arith, several) in
    let here : Run from to (Some (count - 2 + 2)) ≡ run = ap (λ n. Run from to (Some n)) number ∙ sym is in
    sourced_all (legal_runs_from game board) 8 from run from_fits
    (sourced_all (legal_runs_between game board from) 8 to run to_fits
    (subst (Contains (legal_runs_between game board from to)) here
    (tried_all test (λ more. Run from to (Some (more + 2))) 12 (count - 2) (omega (arith, several, counted.1)) (ap test here ∙ ap is_none allowed))))

pub exactly : (game : Game) (board : Board) (run : RunMove) → Contains (legal_runs game board) run ↔ IsAllowedRun game board run
exactly game board run =
    (All-contains (IsAllowedRun game board) (legal_runs game board) run (all_allowed game board), all_there game board run)

-- ---- so many bytes as moves
pub counted : (runs : List RunMove) (items : List RunBytes) → items ≡ map run_bytes runs → length items ≡ length runs
counted runs items is = ap length is ∙ length-map runs run_bytes

pub put_there : (runs : List RunMove) (items room after : List RunBytes) → items ≡ map run_bytes runs → after ≡ items ++ drop (length items) room →
    after ≡ map run_bytes runs ++ drop (length runs) room
put_there runs items room after is put =
    put ∙ ap (λ items. items ++ drop (length items) room) is ∙ ap (λ n. map run_bytes runs ++ drop n room) (length-map runs run_bytes)
