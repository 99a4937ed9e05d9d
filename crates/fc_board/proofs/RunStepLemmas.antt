-- A run goes exactly where nothing refuses it, and then its expansion is played.
use Rattle.{arrayvec.specs.ArrayVec.{ArrayVec}, fc_card.specs.{IsCard, places, rank_of}}
use Rattle.std.proofs.Common.{◌*◌, ◌++◌, ◌+◌, ◌-◌, ◌<◌, ◌^◌, ◌||◌, ◌↔◌, ◌∙◌, ◌∷◌, ◌≡◌, ◌≢◌, ◌≤◌, [], All, ap, arith}
use Rattle.std.proofs.Common.{Bool, cond, eqb, false, inl, inr, leb, length, List, ltb, min, None, not, Option, refl}
use Rattle.std.proofs.{Common.{slice_index, Some, subst, suc, sym, true, ℕ}, lemmas.Bool.{cases_lt}}
use Rattle.std.proofs.lemmas.Bool.{Decides.{nat_tests}, eq-eqb, leb-true}
use Rattle.std.proofs.lemmas.List.{Elements.{All-cons, All-get_or, All-head, All-nil}, FromFn.{length-range_with_len}}
use Rattle.std.proofs.lemmas.{List.{length-append, Sums.{count_by-le-length, length-filter}}, Option.{same_Some}}
use Rattle.std.specs.Prelude.{Err, IfOk, Ok, Result}
use Rattle.fc_board.proofs.{BoardLemmas.{All-right, in_columns}, CapacityLemmas.{ranks_below}}
use Rattle.fc_board.proofs.{ExactLemmas.{both, goes_over, other_test}, ExpansionLemmas.{pow_some}}
use Rattle.fc_board.proofs.{RunLemmas.{BuildsByRank, run_tail}, ShortLemmas.{short}}
use Rattle.fc_board.{proofs.StepLemmas.{not_refused_at_step, one_after, step_from}, specs.Boards.{Board, IsWellFormed}}
use Rattle.fc_board.specs.{Games.{Builds, Fills, Game, is_king}, laws.ListWords.{IsRun, MovesPlay}}
use Rattle.fc_board.specs.{Moves.{expansion, Fits, IsCount, RunFits}, Play.{Expands, expansion_of}, Steps.{capacity}}
use Rattle.fc_board.specs.Steps.{column_at, counted_by, fault_or, first_of_last, free_cells, is_helper, is_run}
use Rattle.fc_board.specs.Steps.{last_card, longest_run, matches_stated, MayFollow, moved_count, onto, onto_card}
use Rattle.fc_board.specs.Steps.{onto_nothing, run_count, run_moved, run_refusal, RunGoes, RunStep, spare_columns}
use Rattle.fc_board.specs.Steps.{takes_every_card}
use Rattle.fc_board.specs.declared.fault.StepFault.{StepFault, TheVariants.{KingsOnly, NoRun, NotBuilding}}
use Rattle.fc_board.specs.declared.{fault.StepFault.TheVariants.{OverCapacity, SamePile, WrongCount}, moves.Move.{Move}}
use Rattle.fc_board.specs.declared.run_move.RunMove.{RunMove, TheVariants.{One, Run}}

-- ---- the longest run

pub tested_run : (game : Game) (cards : List ℕ) → is_run game cards ≡ true → IsRun game cards
tested_run game [] e = tt
tested_run game (card ∷ []) e = tt
tested_run game (card ∷ next ∷ cards) e =
    let (a, b) = both (game.builds next card) (is_run game (next ∷ cards)) e in (a, tested_run game (next ∷ cards) b)

-- the last cards of a list
pub record Ends (game : Game) (column : List ℕ) (count : ℕ) : Type 0 where
  pub under : List ℕ
  pub cards : List ℕ
  pub parts : column ≡ under ++ cards
  pub size : length cards ≡ count
  pub run : IsRun game cards

ends_of_run : (game : Game) (cards : List ℕ) (count : ℕ) → IsRun game cards → count ≤ length cards → Ends game cards count
ends_of_run game [] count run few = record { under = []; cards = []; parts = refl; size = omega arith; run = run }
ends_of_run game (card ∷ cards) count run few = elim (cases_lt (length cards) count) [
  | inl all ↦ record { under = []; cards = card ∷ cards; parts = refl; size = omega arith; run = run }
  | inr part ↦
      let rest = ends_of_run game cards count (run_tail game card cards run) part in
      record { under = card ∷ rest.under; cards = rest.cards; parts = ap (λ l. card ∷ l) rest.parts; size = rest.size; run = rest.run }
]

pub ends_in_run : (game : Game) (column : List ℕ) (count : ℕ) → count ≤ longest_run game column → Ends game column count
ends_in_run game [] count few = record { under = []; cards = []; parts = refl; size = omega arith; run = tt }
ends_in_run game (card ∷ cards) count few = by_test (is_run game (card ∷ cards)) refl few (ends_in_run game cards count)
  where
    by_test : (t : Bool) → is_run game (card ∷ cards) ≡ t → count ≤ cond t (length (card ∷ cards)) (longest_run game cards) →
        (count ≤ longest_run game cards → Ends game cards count) → Ends game (card ∷ cards) count
    by_test true e h later = ends_of_run game (card ∷ cards) count (tested_run game (card ∷ cards) e) h
    by_test false e h later =
        let rest = later h in
        record { under = card ∷ rest.under; cards = rest.cards; parts = ap (λ l. card ∷ l) rest.parts; size = rest.size; run = rest.run }

pub some_run : (game : Game) (card : ℕ) (column : List ℕ) → 1 ≤ longest_run game (card ∷ column)
some_run game card [] = omega arith
some_run game card (next ∷ column) =
    by_test (is_run game (card ∷ next ∷ column)) (length column) (longest_run game (next ∷ column)) (some_run game next column)
  where
    by_test : (t : Bool) (n m : ℕ) → 1 ≤ m → 1 ≤ cond t (suc (suc n)) m
    by_test true n m h = omega arith
    by_test false n m h = h

first_there : (under : List ℕ) (first : ℕ) (later : List ℕ) → slice_index (under ++ first ∷ later) (length under) ≡ first
first_there [] first later = refl
first_there (x ∷ under) first later = first_there under first later

pub first_is : (column under : List ℕ) (first : ℕ) (later : List ℕ) (count : ℕ) → column ≡ under ++ first ∷ later → length (first ∷ later) ≡ count →
    first_of_last count column ≡ first
first_is column under first later count e size =
    rw e (ap (slice_index (under ++ first ∷ later)) (let n = length-append under (first ∷ later) in omega arith) ∙ first_there under first later)

pub some_capacity : (game : Game) (board : Board) (to : ℕ) → 1 ≤ capacity game board to
some_capacity game board to = by_test (takes_every_card game) (length (free_cells game board)) (length (spare_columns board to))
  where
    by_test : (t : Bool) (c e : ℕ) → 1 ≤ (c + 1) * cond t (2 ^ e) 1
    by_test true c e = omega (arith, pow_some (c + 1) e)
    by_test false c e = omega arith

-- ---- faults in their order

passes : (t : Bool) (fault : StepFault) (rest : Option StepFault) → fault_or t fault rest ≡ None → (t ≡ true) × (rest ≡ None)
passes true fault rest e = (refl, e)
passes false fault rest e = cc

pub pass : (t : Bool) (fault : StepFault) (rest : Option StepFault) → t ≡ true → rest ≡ None → fault_or t fault rest ≡ None
pass t fault rest a b = rw a b

less_test : (m n : ℕ) → m < n → ltb m n ≡ true
less_test m n h = grind (arith, nat_tests)

pub more_test : (m n : ℕ) → ltb m n ≡ true → m < n
more_test m n h = grind (arith, nat_tests)

up_to_test : (m n : ℕ) → m ≤ n → leb m n ≡ true
up_to_test m n h = grind (arith, nat_tests)

apart_test : (m n : ℕ) → m ≢ n → not (eqb m n) ≡ true
apart_test m n h = grind (arith, nat_tests)

module _ (game : Game) (board : Board) (from to : ℕ) where
  abbrev Goes : Option ℕ → Type 0
  Goes said = (after : Board) × RunGoes game board from to said after

  goes_onto_card : (said : Option ℕ) (card last : ℕ) → from ≢ to → last_card (column_at board from) ≡ Some card →
      last_card (column_at board to) ≡ Some last → onto_card game board from to said card last ≡ None → Goes said
  goes_onto_card said card last apart found target e =
      let count = rank_of last - rank_of card in
      let column = column_at board from in
      let p = passes (ltb (rank_of card) (rank_of last)) NotBuilding _ e in
      let q = passes (matches_stated said count) WrongCount _ p.1 in
      let r = passes (leb count (longest_run game column)) NoRun _ q.1 in
      let s = passes (game.builds (first_of_last count column) last) NotBuilding _ r.1 in
      let t = passes (leb count (capacity game board to)) OverCapacity None s.1 in (
        run_moved board from to count,
        record {
          apart = apart;
          card = card;
          found = found;
          count = count;
          counted = ap (run_count game board from to said card) (sym target);
          some = let l = more_test (rank_of card) (rank_of last) p.0 in omega arith;
          said_so = q.0;
          is_run = leb-true count (longest_run game column) r.0;
          goes = rw target s.0;
          within = leb-true count (capacity game board to) t.0;
          moved = refl;
        },
      )

  goes_with_count : (count card : ℕ) → from ≢ to → 1 ≤ count → last_card (column_at board from) ≡ Some card → last_card (column_at board to) ≡ None →
      onto_nothing game board from to (Some count) ≡ None → Goes (Some count)
  goes_with_count count card apart some found target e =
      let column = column_at board from in
      let p = passes (leb count (longest_run game column)) NoRun _ e in
      let q = passes (leb count (capacity game board to)) OverCapacity _ p.1 in
      let r = passes (game.fills (first_of_last count column)) KingsOnly None q.1 in (
        run_moved board from to count,
        record {
          apart = apart;
          card = card;
          found = found;
          count = count;
          counted = ap (run_count game board from to (Some count) card) (sym target);
          some = some;
          said_so = eq-eqb count count refl;
          is_run = leb-true count (longest_run game column) p.0;
          goes = rw target r.0;
          within = leb-true count (capacity game board to) q.0;
          moved = refl;
        },
      )

  some_in : (column : List ℕ) (card : ℕ) → last_card column ≡ Some card → 1 ≤ longest_run game column
  some_in [] card e = cc
  some_in (x ∷ column) card e = some_run game x column

  goes_as_can : (card : ℕ) → from ≢ to → last_card (column_at board from) ≡ Some card → last_card (column_at board to) ≡ None →
      onto_nothing game board from to None ≡ None → Goes None
  goes_as_can card apart found target e =
      let column = column_at board from in
      let count = min (longest_run game column) (capacity game board to) in
      let r = passes (game.fills (first_of_last count column)) KingsOnly None e in (
        run_moved board from to count,
        record {
          apart = apart;
          card = card;
          found = found;
          count = count;
          counted = ap (run_count game board from to None card) (sym target);
          some = let a = some_in column card found in let b = some_capacity game board to in omega arith;
          said_so = refl;
          is_run = omega arith;
          goes = rw target r.0;
          within = omega arith;
          moved = refl;
        },
      )

  goes_onto : (said source target : Option ℕ) → IsCount said → from ≢ to → last_card (column_at board from) ≡ source →
      last_card (column_at board to) ≡ target → onto game board from to said source target ≡ None → Goes said
  goes_onto said None target is apart found there e = cc
  goes_onto said (Some card) (Some last) is apart found there e = goes_onto_card said card last apart found there e
  goes_onto (Some count) (Some card) None is apart found there e = goes_with_count count card apart is.0 found there e
  goes_onto None (Some card) None is apart found there e = goes_as_can card apart found there e

  pub not_refused_goes : (said : Option ℕ) → RunFits game (Run from to said) → run_refusal game board (Run from to said) ≡ None →
      (after : Board) × RunStep game board (Run from to said) after
  not_refused_goes said fits e =
      let p = passes (not (eqb from to)) SamePile _ e in
      let (after, goes) = goes_onto said (last_card (column_at board from)) (last_card (column_at board to)) fits.2 (other_test from to p.0) refl refl
      p.1 in
      (after, (fits, goes))

  unrefused : (said : Option ℕ) (after : Board) (h : RunGoes game board from to said after) (target : Option ℕ) →
      last_card (column_at board to) ≡ target → onto game board from to said (Some h.card) target ≡ None
  unrefused said after h (Some last) there =
      let count = rank_of last - rank_of h.card in
      let column = column_at board from in
      let same : h.count ≡ count = h.counted ∙ ap (run_count game board from to said h.card) there in
      let goes : Builds game (first_of_last h.count column) last = rw there at h.goes in
      let some = h.some in
      let long = h.is_run in
      let within = h.within in
      pass (ltb (rank_of h.card) (rank_of last)) NotBuilding _ (less_test (rank_of h.card) (rank_of last) (omega arith))
      (pass (matches_stated said count) WrongCount _ (rw same at h.said_so)
      (pass (leb count (longest_run game column)) NoRun _ (up_to_test count (longest_run game column) (omega arith))
      (pass (game.builds (first_of_last count column) last) NotBuilding _ (rw same at goes)
      (pass (leb count (capacity game board to)) OverCapacity None (up_to_test count (capacity game board to) (omega arith)) refl))))
  unrefused said after h None there =
      by_said said h.count h.card (h.counted ∙ ap (run_count game board from to said h.card) there) h.is_run h.within
      (rw there at h.goes)
    where
      by_said : (other : Option ℕ) (count card : ℕ) → count ≡ run_count game board from to other card None →
          count ≤ longest_run game (column_at board from) → count ≤ capacity game board to →
          Fills game (first_of_last count (column_at board from)) → onto_nothing game board from to other ≡ None
      by_said (Some n) count card same long within fills =
          pass (leb n (longest_run game (column_at board from))) NoRun _ (up_to_test n (longest_run game (column_at board from)) (omega arith))
          (pass (leb n (capacity game board to)) OverCapacity _ (up_to_test n (capacity game board to) (omega arith))
          (pass (game.fills (first_of_last n (column_at board from))) KingsOnly None
          (rw same at fills) refl))
      by_said None count card same long within fills =
          pass (game.fills (first_of_last (min (longest_run game (column_at board from)) (capacity game board to)) (column_at board from))) KingsOnly
          None
          (rw same at fills) refl

  pub goes_not_refused : (said : Option ℕ) (after : Board) → RunStep game board (Run from to said) after →
      run_refusal game board (Run from to said) ≡ None
  goes_not_refused said after step =
      let h = step.1 in
      pass (not (eqb from to)) SamePile _ (apart_test from to h.apart)
      (ap (λ l. onto game board from to said l (last_card (column_at board to))) h.found ∙ unrefused said after h (last_card (column_at board to))
      refl)

  pub one_run_after : (said : Option ℕ) (after other : Board) → RunStep game board (Run from to said) after →
      RunStep game board (Run from to said) other → after ≡ other
  one_run_after said after other a b =
      let card : a.1.card ≡ b.1.card = same_Some a.1.card b.1.card (sym a.1.found ∙ b.1.found) in
      let count = a.1.counted ∙ ap (λ c. run_count game board from to said c (last_card (column_at board to))) card ∙ sym b.1.counted in
      a.1.moved ∙ ap (run_moved board from to) count ∙ sym b.1.moved

-- ---- the expansion of a move that is allowed

pub run_played : (game : Game) (kings_only : Bool) → BuildsByRank game → ((card : ℕ) → game.fills card ≡ (not kings_only || is_king card)) →
    (board : Board) (from to : ℕ) (said : Option ℕ) (after : Board) →
    IsWellFormed game board → (step : RunStep game board (Run from to said) after) →
    MovesPlay game board (expansion (free_cells game board) step.1.count from to (spare_columns board to)) after
run_played game kings_only by_rank by_fill board from to said after well (fits, h) =
    let column = column_at board from in
    let ends = ends_in_run game column h.count h.is_run in
    by_cards ends.under ends.cards ends.parts ends.size ends.run
  where
    by_cards : (under cards : List ℕ) → column_at board from ≡ under ++ cards → length cards ≡ h.count → IsRun game cards →
        MovesPlay game board (expansion (free_cells game board) h.count from to (spare_columns board to)) after
    by_cards under [] parts size run = absurd (let s = h.some in omega arith)
    by_cards under (first ∷ later) parts size run =
        let goes = subst (λ c. MayFollow game c (last_card (column_at board to)))
        (first_is (column_at board from) under first later h.count parts size) h.goes in
        let few : length (first ∷ later) ≤ capacity game board to = rw size h.within in
        let plays = (goes_over game kings_only by_rank by_fill board from to first under later well h.apart fits.0 fits.1 parts run goes few).0 in
        subst (MovesPlay game board (expansion (free_cells game board) h.count from to (spare_columns board to))) (sym h.moved)
        (rw size at plays)

-- ---- tokens of both forms

pub not_refused_exactly : (game : Game) (board : Board) (token : RunMove) → RunFits game token →
    (run_refusal game board token ≡ None) ↔ ((after : Board) × RunStep game board token after)
not_refused_exactly game board (One move) fits = (
  λ none. let (after, step) = step_from game board move fits.0 none in (after, (fits.1, step)),
  λ (after, step). not_refused_at_step game board after move step.1,
)
not_refused_exactly game board (Run from to said) fits =
    (not_refused_goes game board from to said fits, λ (after, step). goes_not_refused game board from to said after step)

pub one_board : (game : Game) (board after other : Board) (token : RunMove) → RunStep game board token after → RunStep game board token other →
    after ≡ other
one_board game board after other (One move) a b = one_after game board after other move a.1 b.1
one_board game board after other (Run from to said) a b = one_run_after game board from to said after other a b

-- ---- expansions of tokens

pub token_counted : (game : Game) (board : Board) (from to : ℕ) (said : Option ℕ) (after : Board) → (h : RunGoes game board from to said after) →
    h.count ≡ moved_count game board from to said
token_counted game board from to said after h =
    h.counted ∙ sym (ap (λ found. counted_by game board from to said found (last_card (column_at board to))) h.found)

pub expansion_played : (game : Game) (kings_only : Bool) → BuildsByRank game → ((card : ℕ) → game.fills card ≡ (not kings_only || is_king card)) →
    (board after : Board) (token : RunMove) →
    IsWellFormed game board → RunStep game board token after → MovesPlay game board (expansion_of game board token) after
expansion_played game kings_only by_rank by_fill board after (One move) well step = (after, step.1, refl)
expansion_played game kings_only by_rank by_fill board after (Run from to said) well step =
    subst (λ n. MovesPlay game board (expansion (free_cells game board) n from to (spare_columns board to)) after)
    (token_counted game board from to said after step.1)
    (run_played game kings_only by_rank by_fill board from to said after well step)

at_most_suit : (game : Game) → BuildsByRank game → (board : Board) (from count : ℕ) → IsWellFormed game board → from < 8 →
    count ≤ longest_run game (column_at board from) → count ≤ 13
at_most_suit game by_rank board from count well inside few =
    let ends = ends_in_run game (column_at board from) count few in
    let eight = well.piles.eight_columns in
    let cards : All IsCard (column_at board from) = All-get_or (All IsCard) board.columns from [] (omega arith) (in_columns game board well) in
    by_cards ends.under ends.cards ends.size ends.run (rw ends.parts at cards)
  where
    by_cards : (under cards : List ℕ) → length cards ≡ count → IsRun game cards → All IsCard (under ++ cards) → count ≤ 13
    by_cards under [] size run are = omega arith
    by_cards under (first ∷ later) size run are =
        let is : IsCard first = All-head IsCard first later (All-right IsCard under (first ∷ later) are) in
        omega (arith, ranks_below game by_rank first later run)

few_helpers : (board : Board) (to : ℕ) → length (spare_columns board to) ≤ 8
few_helpers board to =
    omega (arith, length-filter (is_helper board to) (places 8), count_by-le-length (is_helper board to) (places 8), length-range_with_len 0 8)

pub expansion_short : (game : Game) → BuildsByRank game → (board after : Board) (token : RunMove) → IsWellFormed game board →
    RunStep game board token after → length (expansion_of game board token) ≤ 49
expansion_short game by_rank board after (One move) well step = omega arith
expansion_short game by_rank board after (Run from to said) well step =
    short (free_cells game board) (spare_columns board to) (moved_count game board from to said) from to
    (subst (λ n. n ≤ 13) (token_counted game board from to said after step.1)
    (at_most_suit game by_rank board from step.1.count well step.0.0 step.1.is_run)) (few_helpers board to)

-- ---- as the code counts

pub longest_few : (game : Game) (column : List ℕ) → longest_run game column ≤ length column
longest_few game [] = omega arith
longest_few game (card ∷ column) = by_test (is_run game (card ∷ column)) (length column) (longest_run game column) (longest_few game column)
  where
    by_test : (t : Bool) (n m : ℕ) → m ≤ n → cond t (suc n) m ≤ suc n
    by_test true n m h = omega arith
    by_test false n m h = omega arith

pub longest_some : (game : Game) (column : List ℕ) → 1 ≤ length column → 1 ≤ longest_run game column
longest_some game [] some = absurd (omega arith)
longest_some game (card ∷ column) some = some_run game card column

pub some_said : (said : Option ℕ) (count : ℕ) → said ≡ Some count → IsCount said → 1 ≤ count
some_said said count e is = by_said (rw e at is)
  where
    by_said : IsCount (Some count) → 1 ≤ count
    by_said h = h.0

-- ---- where nothing refuses the token

module _ (game : Game) (kings_only : Bool) (by_rank : BuildsByRank game)
    (by_fill : (card : ℕ) → game.fills card ≡ (not kings_only || is_king card)) where
  pub expands_there : (board : Board) (token : RunMove) → IsWellFormed game board → RunFits game token → run_refusal game board token ≡ None →
      Expands game board token (expansion_of game board token)
  expands_there board token well fits none =
      let (after, step) = (not_refused_exactly game board token fits).0 none in
      (after, step, expansion_played game kings_only by_rank by_fill board after token well step)

  pub room_there : (board : Board) (from to count : ℕ) (said : Option ℕ) → IsWellFormed game board → RunFits game (Run from to said) →
      run_refusal game board (Run from to said) ≡ None → count ≡ moved_count game board from to said →
      (1 ≤ count) × (count ≤ 13) × (length (expansion (free_cells game board) count from to (spare_columns board to)) ≤ 49)
  room_there board from to count said well fits none e =
      let (after, step) = (not_refused_exactly game board (Run from to said) fits).0 none in
      let same = e ∙ sym (token_counted game board from to said after step.1) in
      let some = step.1.some in
      let few = at_most_suit game by_rank board from step.1.count well step.0.0 step.1.is_run in (
        omega arith,
        omega arith,
        subst (λ n. length (expansion (free_cells game board) n from to (spare_columns board to)) ≤ 49) (sym e)
            (expansion_short game by_rank board after (Run from to said) well step),
      )

pub all_fit : (game : Game) (board after : Board) (moves : List Move) → MovesPlay game board moves after → All (Fits game) moves
all_fit game board after [] plays = All-nil (Fits game)
all_fit game board after (move ∷ moves) (between, step, rest) = All-cons (Fits game) move moves step.fits (all_fit game between after moves rest)

pub expanded_fit : (game : Game) (board : Board) (token : RunMove) (moves : List Move) → Expands game board token moves → All (Fits game) moves
expanded_fit game board token moves (after, step, plays) = all_fit game board after moves plays

pub expanded_ok : {E : Type 0} (game : Game) (kings_only : Bool) → BuildsByRank game →
    ((card : ℕ) → game.fills card ≡ (not kings_only || is_king card)) → (board : Board) (token other : RunMove) (result : Result (ArrayVec Move) E) →
    IsWellFormed game board → RunFits game token → token ≡ other → IfOk result (λ moves. moves.items ≡ expansion_of game board other) →
    IfOk result (λ moves. run_refusal game board other ≡ None) →
    IfOk result (λ moves. Expands game board token moves.items)
expanded_ok game kings_only by_rank by_fill board token other (Ok moves) well fits same items none =
    subst (Expands game board token) (sym (items ∙ ap (expansion_of game board) (sym same)))
    (expands_there game kings_only by_rank by_fill board token well fits (rw same none))
expanded_ok game kings_only by_rank by_fill board token other (Err fault) well fits same items none = tt

pub room_by : (cells cells' columns columns' : List ℕ) (count from to start : ℕ) → cells ≡ cells' → columns ≡ columns' → start ≡ 0 →
    length (expansion cells' count from to columns') ≤ 49 → start + length (expansion cells count from to columns) ≤ 49
room_by cells cells' columns columns' count from to start p q e few =
    let a = ap (λ l. length (expansion l count from to columns)) p in
    let b = ap (λ l. length (expansion cells' count from to l)) q in
    omega arith
