-- Capacity is exact: up to it the expansion takes the run over, and beyond it no confined list does.
use Rattle.std.proofs.Common.{◌&&◌, ◌*◌, ◌++◌, ◌+◌, ◌-◌, ◌<◌, ◌^◌, ◌||◌, ◌↔◌, ◌∙◌, ◌∷◌, ◌≡◌, ◌≢◌, ◌≤◌, [], ap, arith}
use Rattle.std.proofs.Common.{Bool, cond, drop, eqb, false, inl, inr, length, List, not, refl, set, Some, subst, suc}
use Rattle.std.proofs.{Common.{sym, take, true, zero, ℕ}, lemmas.Bool.{cases_eq, cases_lt, Decides.{nat_tests}}}
use Rattle.std.proofs.lemmas.{Bool.{eqb-true}, List.{drop_at, ext_get_or, get_or-set_other, get_or-set_same}}
use Rattle.std.{proofs.lemmas.List.{length-append, length-set, take_at}, specs.List.{filter, range_with_len}}
use Rattle.std.specs.Option.{is_none}
use Rattle.{fc_board.specs.declared.moves.Move.{Move}, fc_card.specs.{places}}
use Rattle.fc_board.proofs.{BoardLemmas.{parts_same}, CapacityLemmas.{first_stays_put}}
use Rattle.fc_board.proofs.{ExpansionLemmas.{AreApart, expands, IsEnough}, ExpansionSteps.{Moved}}
use Rattle.fc_board.proofs.{RunLemmas.{BuildsByRank, not_empty}, StepLemmas.{nothing_there}}
use Rattle.fc_board.specs.{Boards.{Board, IsWellFormed}, Games.{Builds, Fills, Game, is_king}}
use Rattle.fc_board.specs.{laws.ListWords.{IsRun, MovesPlay}, Moves.{expansion}, Steps.{Among, capacity, cell_at}}
use Rattle.fc_board.specs.Steps.{column_at, Confined, free_cells, is_helper, last_card, MayFollow, run_moved}
use Rattle.fc_board.specs.Steps.{spare_columns}

-- ---- what is filtered from the places

filtered : (p : ℕ → Bool) (x : ℕ) (xs : List ℕ) → Among x (filter p xs) → Among x xs × (p x ≡ true)
filtered p x [] among = absurd among
filtered p x (y ∷ xs) among = by_test p x y xs (p y) refl among (filtered p x xs)
  where
    by_test : (p : ℕ → Bool) (x y : ℕ) (xs : List ℕ) (test : Bool) → p y ≡ test → Among x (cond test (y ∷ filter p xs) (filter p xs)) →
        (Among x (filter p xs) → Among x xs × (p x ≡ true)) → Among x (y ∷ xs) × (p x ≡ true)
    by_test p x y xs true e (inl same) later = (inl same, ap p same ∙ e)
    by_test p x y xs true e (inr rest) later = let (a, b) = later rest in (inr a, b)
    by_test p x y xs false e rest later = let (a, b) = later rest in (inr a, b)

filter_apart : (p : ℕ → Bool) (xs : List ℕ) → AreApart xs → AreApart (filter p xs)
filter_apart p [] apart = tt
filter_apart p (y ∷ xs) apart = by_test (p y) (filter_apart p xs apart.1) (λ among. apart.0 (filtered p y xs among).0)
  where
    by_test : (test : Bool) → AreApart (filter p xs) → (Among y (filter p xs) → ⊥) → AreApart (cond test (y ∷ filter p xs) (filter p xs))
    by_test true rest apart = (apart, rest)
    by_test false rest apart = rest

pub within : (x from count : ℕ) → Among x (range_with_len from count) → (from ≤ x) × (x < from + count)
within x from zero among = absurd among
within x from (suc count) (inl same) = (omega arith, omega arith)
within x from (suc count) (inr rest) = let (a, b) = within x (from + 1) count rest in (omega arith, omega arith)

pub range_apart : (from count : ℕ) → AreApart (range_with_len from count)
range_apart from zero = tt
range_apart from (suc count) = (λ among. let (a, b) = within from (from + 1) count among in omega arith, range_apart (from + 1) count)

pub both : (a b : Bool) → (a && b) ≡ true → (a ≡ true) × (b ≡ true)
both true true e = (refl, refl)
both true false e = cc
both false b e = cc

no_length : (xs : List ℕ) → length xs ≡ 0 → xs ≡ []
no_length [] e = refl
no_length (x ∷ xs) e = absurd (omega arith)

pub other_test : (a b : ℕ) → not (eqb a b) ≡ true → a ≢ b
other_test a b e same = grind (arith, nat_tests)

-- ---- the board that a run leaves

module _ (game : Game) (board : Board) (from to : ℕ) (under run : List ℕ) (well : IsWellFormed game board)
    (here : column_at board from ≡ under ++ run) (inside : from < 8) (inside' : to < 8) where
  cut_off : take (length (column_at board from) - length run) (column_at board from) ≡ under
  cut_off =
      rw here (take_at under run (length (under ++ run) - length run) (let e = length-append under run in omega arith))

  pub cut_out : drop (length (column_at board from) - length run) (column_at board from) ≡ run
  cut_out =
      rw here (drop_at under run (length (under ++ run) - length run) (let e = length-append under run in omega arith))

  left_there : from ≢ to → column_at (run_moved board from to (length run)) from ≡ under
  left_there apart =
      let eight = well.piles.eight_columns in
      let rest = take (length (column_at board from) - length run) (column_at board from) in
      get_or-set_other (set board.columns from rest) to from
      (column_at board to ++ drop (length (column_at board from) - length run) (column_at board from)) [] apart ∙
      get_or-set_same board.columns from rest [] (omega arith) ∙ cut_off

  moved_is : from ≢ to → (after : Board) → Moved game board from to under (column_at board to ++ run) after →
      after ≡ run_moved board from to (length run)
  moved_is apart after moved =
      let eight = well.piles.eight_columns in
      let eight' = moved.well.piles.eight_columns in
      let rest = take (length (column_at board from) - length run) (column_at board from) in
      let full = column_at board to ++ drop (length (column_at board from) - length run) (column_at board from) in
      let first = set board.columns from rest in
      let size = length-set board.columns from rest in
      parts_same after (run_moved board from to (length run)) moved.heights moved.cells
      (ext_get_or [] after.columns (set first to full) (let s = length-set first to full in omega arith) (λ k k_in. elim (cases_eq k to) [
        | inl same ↦ rw (same, moved.goes, get_or-set_same first to full [] (omega arith), cut_out)
        | inr other ↦ elim (cases_eq k from) [
          | inl same ↦ rw (same, moved.left, left_there apart)
          | inr beside ↦ moved.others k beside other
              ∙ sym (get_or-set_other first to k full [] other ∙ get_or-set_other board.columns from k rest [] beside)
        ]
      ]))

-- ---- the expansion of a run

module _ (game : Game) (kings_only : Bool) (by_rank : BuildsByRank game)
    (by_fill : (card : ℕ) → game.fills card ≡ (not kings_only || is_king card)) where
  fills_each : (every : Bool) → game.fills 0 ≡ every → every ≡ true → (card : ℕ) → Fills game card
  fills_each every e true_is card = by_fill card ∙ open_to kings_only (is_king card) (sym (by_fill 0) ∙ e ∙ true_is)
    where
      open_to : (kings king : Bool) → (not kings || false) ≡ true → (not kings || king) ≡ true
      open_to true king h = cc
      open_to false king h = refl

  enough_by : (cells : List ℕ) (count : ℕ) (more : List ℕ) (every : Bool) → game.fills 0 ≡ every → (board : Board) (from to : ℕ) (run : List ℕ) →
      count ≤ (length cells + 1) * cond every (2 ^ length more) 1 →
      IsEnough game board from to run cells count more
  enough_by cells count more true e board from to run few = inr (fills_each true e refl, few)
  enough_by cells count more false e board from to run few = inl (omega arith)

  pub goes_over : (board : Board) (from to first : ℕ) (under later : List ℕ) → IsWellFormed game board → from ≢ to → from < 8 → to < 8 →
      column_at board from ≡ under ++ first ∷ later → IsRun game (first ∷ later) →
      MayFollow game first (last_card (column_at board to)) → length (first ∷ later) ≤ capacity game board to →
      MovesPlay game board (expansion (free_cells game board) (length (first ∷ later)) from to (spare_columns board to))
      (run_moved board from to (length (first ∷ later))) ×
      Confined board from to (first ∷ later) board (expansion (free_cells game board) (length (first ∷ later)) from to (spare_columns board to))
  goes_over board from to first under later well apart inside inside' here run goes few =
      let cells = free_cells game board in
      let more = spare_columns board to in
      let (after, route, moved) =
      expands game board from to (first ∷ later) more cells (length (first ∷ later)) board from to under first later (column_at board to) well apart
      inside inside'
      (inl (inl refl)) (inl (inr refl)) here (omega arith) run (λ x among. among) refl goes
      (λ cell among.
      let (a, b) = filtered (λ c. is_none (cell_at board c)) cell (places game.cells) among in
      let free = nothing_there (cell_at board cell) b in
      (subst (λ n. cell < n) (omega arith) (within cell 0 game.cells a).1, free, free))
      (filter_apart (λ c. is_none (cell_at board c)) (places game.cells) (range_apart 0 game.cells))
      (λ column among.
      let (a, b) = filtered (is_helper board to) column (places 8) among in
      let (c, d) = both (eqb (length (column_at board column)) 0) (not (eqb column to)) b in
      let empty = no_length (column_at board column) (eqb-true (length (column_at board column)) 0 c) in (
        subst (λ n. column < n) (omega arith) (within column 0 8 a).1,
        empty,
        empty,
        λ same. not_empty under first later
            (sym here ∙ ap (column_at board) (sym same) ∙ empty),
        other_test column to d,
      ))
      (filter_apart (is_helper board to) (places 8) (range_apart 0 8))
      (enough_by cells (length (first ∷ later)) more (game.fills 0) refl board from to (first ∷ later) few) in (
        subst (MovesPlay game board (expansion cells (length (first ∷ later)) from to more))
            (moved_is game board from to under (first ∷ later) well here inside inside' apart after moved) route.plays,
        route.confined,
      )

  pub exact : (board : Board) (from to first last : ℕ) (under later : List ℕ) → IsWellFormed game board → from ≢ to → from < 8 → to < 8 →
      column_at board from ≡ under ++ first ∷ later → IsRun game (first ∷ later) →
      last_card (column_at board to) ≡ Some last → Builds game first last →
      (capacity game board to < length (first ∷ later)) ↔
      (¬ ((moves : List Move) × Confined board from to (first ∷ later) board moves × MovesPlay game board moves
      (run_moved board from to (length (first ∷ later)))))
  exact board from to first last under later well apart inside inside' here run found goes = (
    λ over (moves, confined, plays).
        let (rest, e) = first_stays_put game kings_only by_rank by_fill board (run_moved board from to (length (first ∷ later))) from to first last
        under later moves well here run found goes over confined plays in
        let left = sym (left_there game board from to under (first ∷ later) well here inside inside' apart) ∙ e in
        let sizes = ap length left ∙ length-append under (first ∷ rest) in
        omega arith,
    λ none. elim (cases_lt (capacity game board to) (length (first ∷ later))) [
      | inl over ↦ over
      | inr few ↦
          let (plays, confined) = goes_over board from to first under later well apart inside inside' here run
          (rw found goes) few in
          absurd (none (expansion (free_cells game board) (length (first ∷ later)) from to (spare_columns board to), confined, plays))
    ],
  )
