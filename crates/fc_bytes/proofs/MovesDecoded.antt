-- What is read of a move's two characters is the move.
use Rattle.std.proofs.Common.{◌==◌, ◌∙◌, ◌≡◌, ◌≤◌, ap, ap₂, arith, Bool, cond, false, IfSome, IsNone, nat_le, None}
use Rattle.std.proofs.{Common.{Option, refl, Some, subst, suc, sym, true, zero, ℕ}, lemmas.Bool.Decides.{nat_tests}}
use Rattle.std.{proofs.lemmas.{Bool.{eqb-true, leb-true}, Option.{cond_some, same_Some}}, specs.Option.{unwrap_or}}
use Rattle.fc_board.specs.{Games.{Game}, Moves.{both_columns, IsCount, move_between, PlaceFits, RunFits, SourceFits}}
use Rattle.fc_board.specs.declared.moves.{Move.{Move}, Place.{Place}}
use Rattle.fc_board.specs.declared.moves.{Place.TheVariants.{Cell as ToCell, Column as ToColumn, Home}, Source.{Source}}
use Rattle.fc_board.specs.declared.moves.Source.TheVariants.{Cell as FromCell, Column as FromColumn}
use Rattle.fc_board.specs.declared.run_move.RunMove.{RunMove, TheVariants.{One, Run}}
use Rattle.fc_text.proofs.TokenLemmas.{source_named-fits, source_read, target_named-fits, target_read}
use Rattle.fc_text.specs.{Notation.{source_character, target_character}, reader.{source_named, target_named}}
use Rattle.fc_bytes.specs.{HoldsMove, HoldsRun, inside.{count_decoded, run_decoded}, run_bytes}
use Rattle.fc_bytes.specs.declared.{moves.MoveBytes.{MoveBytes}, runs.RunBytes.{RunBytes}}

pub named_source : (game : Game) (bytes : MoveBytes) (move : Move) → game.cells ≤ 8 → HoldsMove game bytes move → source_named game bytes.from ≡ Some move.from
named_source game bytes move few holds = ap (λ (bytes : MoveBytes). source_named game bytes.from) holds.1 ∙ source_read game few move.from holds.0.0

pub named_target : (game : Game) (bytes : MoveBytes) (move : Move) → game.cells ≤ 8 → HoldsMove game bytes move → target_named game bytes.to ≡ Some move.to
named_target game bytes move few holds = ap (λ (bytes : MoveBytes). target_named game bytes.to) holds.1 ∙ target_read game few move.to holds.0.1

pub named_move : (game : Game) (bytes : MoveBytes) (from : Source) (to : Place) → source_named game bytes.from ≡ Some from → target_named game bytes.to ≡ Some to →
    HoldsMove game bytes (move_between from to)
named_move game bytes from to of_source of_target =
    let source = source_named-fits game bytes.from from of_source in
    let target = target_named-fits game bytes.to to of_target in
    let of_two : ℕ → ℕ → MoveBytes = λ from to. record { from = from; to = to } in
    ((source.0, target.0), ap₂ of_two (sym source.1) (sym target.1))

-- equal bytes hold equal moves
pub one_move : (game : Game) (bytes : MoveBytes) (move other : Move) → game.cells ≤ 8 → HoldsMove game bytes move → HoldsMove game bytes other → move ≡ other
one_move game bytes move other few holds holds' =
    ap₂ move_between
    (same_Some move.from other.from (sym (named_source game bytes move few holds) ∙ named_source game bytes other few holds'))
    (same_Some move.to other.to (sym (named_target game bytes move few holds) ∙ named_target game bytes other few holds'))

-- ---- what is read of the bytes of a move of several cards is the move
abbrev three : ℕ → ℕ → ℕ → RunBytes
three from to count = record { from = from; to = to; count = count }

-- ---- the number of cards
not_zero : (before : ℕ) → (suc before == 0) ≡ false
not_zero before = grind (arith, nat_tests)

number_said : (before : ℕ) → count_decoded (suc before) ≡ Some (suc before)
number_said before = ap (λ test. cond test None (Some (suc before))) (not_zero before)

is_number : (count : ℕ) → count ≤ 13 → IsCount (count_decoded count)
is_number zero few = tt
is_number (suc before) few = subst IsCount (sym (number_said before)) (omega arith, few)

number_back : (count : ℕ) → unwrap_or (count_decoded count) 0 ≡ count
number_back zero = refl
number_back (suc before) = ap (λ count. unwrap_or count 0) (number_said before)

number_read : (count : Option ℕ) → IsCount count → (count_decoded (unwrap_or count 0) ≡ count) × (unwrap_or count 0 ≤ 13)
number_read None is = (refl, omega arith)
number_read (Some zero) is = absurd (omega (arith, is.0))
number_read (Some (suc before)) is = (number_said before, is.1)

-- ---- what is read fits, and has these bytes
abbrev IsOf : Game → ℕ → ℕ → ℕ → RunMove → Type 0
IsOf game from to count run = RunFits game run × (three from to count ≡ run_bytes run)

one_fits : (game : Game) (from : Source) (to : Place) (count : ℕ) (run : RunMove) → SourceFits game from → PlaceFits game to → both_columns from to ≡ false →
    cond (count == 0) (Some (One (move_between from to))) None ≡ Some run → IsOf game (source_character from) (target_character to) count run
one_fits game from to count run source target apart e =
    let (none, same) = cond_some (count == 0) (One (move_between from to)) run e in
    subst (IsOf game (source_character from) (target_character to) count) same
    (((source, target), apart), ap (three (source_character from) (target_character to)) (eqb-true count 0 none))

decoded_fits : (game : Game) (from : Source) (to : Place) (count : ℕ) (run : RunMove) → SourceFits game from → PlaceFits game to →
    run_decoded from to count ≡ Some run → IsOf game (source_character from) (target_character to) count run
decoded_fits game (FromColumn from) (ToColumn to) count run source target e =
    let (few, same) = cond_some (nat_le count 13) (Run from to (count_decoded count)) run e in
    subst (IsOf game (source_character (FromColumn from)) (target_character (ToColumn to)) count) same (
      (source, target, is_number count (leb-true count 13 few)),
      ap (three (source_character (FromColumn from)) (target_character (ToColumn to))) (sym (number_back count)),
    )
decoded_fits game (FromColumn from) (ToCell to) count run source target e = one_fits game (FromColumn from) (ToCell to) count run source target refl e
decoded_fits game (FromColumn from) Home count run source target e = one_fits game (FromColumn from) Home count run source target refl e
decoded_fits game (FromCell from) (ToColumn to) count run source target e = one_fits game (FromCell from) (ToColumn to) count run source target refl e
decoded_fits game (FromCell from) (ToCell to) count run source target e = one_fits game (FromCell from) (ToCell to) count run source target refl e
decoded_fits game (FromCell from) Home count run source target e = one_fits game (FromCell from) Home count run source target refl e

pub decoded_run : (game : Game) (bytes : RunBytes) (from : Source) (to : Place) (run : RunMove) → source_named game bytes.from ≡ Some from → target_named game bytes.to ≡ Some to →
    run_decoded from to bytes.count ≡ Some run → HoldsRun game bytes run
decoded_run game bytes from to run of_source of_target e =
    let source = source_named-fits game bytes.from from of_source in
    let target = target_named-fits game bytes.to to of_target in
    let (fits, is) = decoded_fits game from to bytes.count run source.0 target.0 e in
    (fits, ap₂ (λ from to. three from to bytes.count) (sym source.1) (sym target.1) ∙ is)

-- ---- what bytes of a run are read as
-- between these piles the move is read
pub record IsRead (game : Game) (bytes : RunBytes) (run : RunMove) : Type 0 where
  pub from : Source
  pub to : Place
  pub source : source_named game bytes.from ≡ Some from
  pub target : target_named game bytes.to ≡ Some to
  pub read : run_decoded from to bytes.count ≡ Some run

one_decoded : (from : Source) (to : Place) → both_columns from to ≡ false → run_decoded from to 0 ≡ Some (One (move_between from to))
one_decoded (FromColumn from) (ToColumn to) e = absurd (cc)
one_decoded (FromColumn from) (ToCell to) e = refl
one_decoded (FromColumn from) Home e = refl
one_decoded (FromCell from) (ToColumn to) e = refl
one_decoded (FromCell from) (ToCell to) e = refl
one_decoded (FromCell from) Home e = refl

few_decoded : (from to : ℕ) (count : ℕ) (test : Bool) → nat_le count 13 ≡ test → count ≤ 13 → run_decoded (FromColumn from) (ToColumn to) count ≡ Some (Run from to (count_decoded count))
few_decoded from to count true e few = ap (λ test. cond test (Some (Run from to (count_decoded count))) None) e
few_decoded from to count false e few = absurd (grind (arith, nat_tests))

bytes_read : (game : Game) → game.cells ≤ 8 → (run : RunMove) → RunFits game run → IsRead game (run_bytes run) run
bytes_read game few (One move) ((from, to), apart) = record {
  from = move.from;
  to = move.to;
  source = source_read game few move.from from;
  target = target_read game few move.to to;
  read = one_decoded move.from move.to apart;
}
bytes_read game few (Run from to count) (source, target, is) =
    let (back, small) = number_read count is in record {
      from = FromColumn from;
      to = ToColumn to;
      source = source_read game few (FromColumn from) source;
      target = target_read game few (ToColumn to) target;
      read = few_decoded from to (unwrap_or count 0) (nat_le (unwrap_or count 0) 13) refl small ∙ ap (λ count. Some (Run from to count)) back;
    }

pub run_read : (game : Game) (bytes : RunBytes) (run : RunMove) → game.cells ≤ 8 → HoldsRun game bytes run → IsRead game bytes run
run_read game bytes run few (fits, is) = subst (λ bytes. IsRead game bytes run) (sym is) (bytes_read game few run fits)

-- equal bytes hold equal moves
pub one_run : (game : Game) (bytes : RunBytes) (run other : RunMove) → game.cells ≤ 8 → HoldsRun game bytes run → HoldsRun game bytes other → run ≡ other
one_run game bytes run other few holds holds' =
    let here = run_read game bytes run few holds in
    let there = run_read game bytes other few holds' in
    let source = same_Some here.from there.from (sym here.source ∙ there.source) in
    let target = same_Some here.to there.to (sym here.target ∙ there.target) in
    same_Some run other (sym here.read ∙ ap₂ (λ from to. run_decoded from to bytes.count) source target ∙ there.read)

-- ---- answers
module _ (game : Game) (bytes : RunBytes) (from : Source) (to : Place) (of_source : source_named game bytes.from ≡ Some from) (of_target : target_named game bytes.to ≡ Some to) where
  pub answered_some : (answer : Option RunMove) → answer ≡ run_decoded from to bytes.count → IfSome answer (HoldsRun game bytes)
  answered_some (Some run) e = decoded_run game bytes from to run of_source of_target (sym e)
  answered_some None e = tt

  pub answered_none : game.cells ≤ 8 → (answer : Option RunMove) → answer ≡ run_decoded from to bytes.count → IsNone answer → (run : RunMove) → ¬ HoldsRun game bytes run
  answered_none few (Some other) e none run holds = absurd (cc)
  answered_none few None e none run holds =
      let here = run_read game bytes run few holds in
      let source = same_Some here.from from (sym here.source ∙ of_source) in
      let target = same_Some here.to to (sym here.target ∙ of_target) in
      let there = e ∙ sym (ap₂ (λ from to. run_decoded from to bytes.count) source target) ∙ here.read in
      absurd (cc)
