-- An expansion is legal and confined, and takes the run over.
use Rattle.std.proofs.Common.{◌*◌, ◌++◌, ◌+◌, ◌-◌, ◌<◌, ◌^◌, ◌∙◌, ◌∷◌, ◌≡◌, ◌≢◌, ◌≤◌, ◌⊎◌, [], ap, arith, cond, drop}
use Rattle.std.proofs.Common.{get_or, inl, inr, leb, length, List, None, refl, set, Some, subst, suc, sym, take, zero}
use Rattle.std.proofs.{Common.{ℕ}, lemmas.{Bool.{cases_eq, cases_lt, Decides.{nat_tests}}, List.{append_assoc}}}
use Rattle.std.proofs.lemmas.List.{get_or-set_other, get_or-set_same, length-append, length-take, set-get_or, set-set}
use Rattle.std.proofs.{lemmas.List.{take_all}, Math.Nat.{mul_assoc, mul_comm, pow-succ'}}
use Rattle.fc_board.proofs.AmongLemmas.{AllAmong, among_left, among_right}
use Rattle.fc_board.proofs.ExpansionSteps.{across, away, back, last_pushed, Moved, Route, route_of, route_then}
use Rattle.fc_board.{proofs.RunLemmas.{run_after}, specs.{Boards.{Board, IsWellFormed}, Games.{Builds, Fills, Game}}}
use Rattle.fc_board.specs.{laws.ListWords.{IsRun}, Moves.{expansion, half, move_between, over_cells}}
use Rattle.fc_board.specs.Steps.{Among, cell_at, column_at, IsOpenColumn, last_card, MayFollow}
use Rattle.fc_board.specs.declared.moves.{Move.{Move}, Place.TheVariants.{Cell as ToCell, Column as ToColumn}}
use Rattle.fc_board.specs.declared.moves.Source.TheVariants.{Cell as FromCell, Column as FromColumn}

-- ---- lists from their ends

-- some cards have a last one
snoc_view : (x : ℕ) (xs : List ℕ) → (front : List ℕ) × (last : ℕ) × (x ∷ xs ≡ front ++ last ∷ [])
snoc_view x [] = ([], x, refl)
snoc_view x (y ∷ xs) = let (front, last, e) = snoc_view y xs in (x ∷ front, last, ap (λ l. x ∷ l) e)

-- a list longer than this, cut after so many
cut : (n : ℕ) (xs : List ℕ) → n < length xs → (front : List ℕ) × (x : ℕ) × (rest : List ℕ) × (xs ≡ front ++ x ∷ rest) × (length front ≡ n)
cut n [] short = absurd (omega arith)
cut zero (x ∷ xs) short = ([], x, xs, refl, refl)
cut (suc n) (x ∷ xs) short =
    let (front, y, rest, e, size) = cut n xs (omega arith) in (x ∷ front, y, rest, ap (λ l. x ∷ l) e, let s = size in omega arith)

run_front : (game : Game) (cards follows : List ℕ) → IsRun game (cards ++ follows) → IsRun game cards
run_front game [] follows run = tt
run_front game (card ∷ []) follows run = tt
run_front game (card ∷ next ∷ cards) follows run = (run.0, run_front game (next ∷ cards) follows run.1)

-- the card after a run goes on its last one
follows_run : (game : Game) (first : ℕ) (cards : List ℕ) (next : ℕ) (follows base : List ℕ) → IsRun game (first ∷ (cards ++ next ∷ follows)) →
    MayFollow game next (last_card (base ++ first ∷ cards))
follows_run game first cards next follows base run =
    let (front, last, e) = snoc_view first cards in
    let whole : first ∷ (cards ++ next ∷ follows) ≡ front ++ last ∷ next ∷ follows = ap (λ l. l ++ next ∷ follows) e
    ∙ append_assoc front (last ∷ []) (next ∷ follows) in
    let builds : Builds game next last = (run_after game front (last ∷ next ∷ follows) (rw whole at run)).0 in
    subst (MayFollow game next)
    (sym (ap (λ l. last_card (base ++ l)) e ∙ ap last_card (sym (append_assoc base front (last ∷ []))) ∙ last_pushed (base ++ front) last)) builds

-- ---- different places

abbrev pub AreApart : List ℕ → Type 0
AreApart [] = Unit {0}
AreApart (x ∷ xs) = (Among x xs → ⊥) × AreApart xs

among_take : (n x : ℕ) (xs : List ℕ) → Among x (take n xs) → Among x xs
among_take zero x [] among = among
among_take zero x (y ∷ xs) among = absurd among
among_take (suc n) x [] among = among
among_take (suc n) x (y ∷ xs) (inl same) = inl same
among_take (suc n) x (y ∷ xs) (inr rest) = inr (among_take n x xs rest)

apart_take : (n : ℕ) (xs : List ℕ) → AreApart xs → AreApart (take n xs)
apart_take zero [] apart = tt
apart_take zero (y ∷ xs) apart = tt
apart_take (suc n) [] apart = tt
apart_take (suc n) (y ∷ xs) apart = (λ among. apart.0 (among_take n y xs among), apart_take n xs apart.1)

-- ---- how many go in two parts

pub double_pow : (reach n : ℕ) → reach * 2 ^ suc n ≡ (2 * reach) * 2 ^ n
double_pow reach n = rw (pow-succ' 2 n) (sym (mul_assoc reach 2 (2 ^ n)) ∙ ap (λ k. k * 2 ^ n) (mul_comm reach 2))

pub pow_some : (reach n : ℕ) → reach ≤ reach * 2 ^ n
pow_some reach zero = omega arith
pow_some reach (suc n) = omega (arith, pow_some (2 * reach) n, double_pow reach n)

pub half_when : (reach count helper : ℕ) (spare_columns : List ℕ) → count ≤ 2 * reach → half reach count (helper ∷ spare_columns) ≡ reach
half_when reach count helper spare_columns few = grind (arith, nat_tests)

pub half_else : (reach count helper : ℕ) (spare_columns : List ℕ) → 2 * reach < count →
    half reach count (helper ∷ spare_columns) ≡ half (2 * reach) count spare_columns
half_else reach count helper spare_columns many = grind (arith, nat_tests)

pub half_is : (reach count : ℕ) (spare_columns : List ℕ) → reach < count → count ≤ 2 * (reach * 2 ^ length spare_columns) →
    (half reach count spare_columns < count) × (count ≤ 2 * half reach count spare_columns) × (half reach count spare_columns ≤ reach * 2 ^ length spare_columns)
half_is reach count [] more most = (more, omega arith, omega arith)
half_is reach count (helper ∷ spare_columns) more most = elim (cases_lt (2 * reach) count) [
  | inl many ↦
      let e = half_else reach count helper spare_columns many in
      let d = double_pow reach (length spare_columns) in
      let (a, b, c) = half_is (2 * reach) count spare_columns many (omega arith) in
      (omega arith, omega arith, omega arith)
  | inr few ↦
      let e = half_when reach count helper spare_columns few in
      let p = pow_some reach (suc (length spare_columns)) in
      (omega arith, omega arith, omega arith)
]

pub half_below : (reach count : ℕ) (spare_columns : List ℕ) → reach < count → half reach count spare_columns < count
half_below reach count [] more = more
half_below reach count (helper ∷ spare_columns) more = elim (cases_lt (2 * reach) count) [
  | inl many ↦ let e = half_else reach count helper spare_columns many in omega (arith, half_below (2 * reach) count spare_columns many)
  | inr few ↦ let e = half_when reach count helper spare_columns few in omega arith
]

pub half_some : (reach count : ℕ) (spare_columns : List ℕ) → reach ≤ half reach count spare_columns
half_some reach count [] = omega arith
half_some reach count (helper ∷ spare_columns) = elim (cases_lt (2 * reach) count) [
  | inl many ↦ let e = half_else reach count helper spare_columns many in omega (arith, half_some (2 * reach) count spare_columns)
  | inr few ↦ let e = half_when reach count helper spare_columns few in omega arith
]

-- ---- what an expansion is

expansion_few : (cells : List ℕ) (count from to helper : ℕ) (spare_columns : List ℕ) → count ≤ length cells + 1 →
    over_cells from to (take (count - 1) cells) ≡ expansion cells count from to (helper ∷ spare_columns)
expansion_few cells count from to helper spare_columns few = grind (arith, nat_tests)

cond_else : (m n : ℕ) (a b : List Move) → n < m → b ≡ cond (leb m n) a b
cond_else m n a b above = grind (arith, nat_tests)

expansion_many : (cells : List ℕ) (count from to helper : ℕ) (spare_columns : List ℕ) → length cells + 1 < count →
    expansion cells (count - half (length cells + 1) count spare_columns) from helper spare_columns ++
    (expansion cells (half (length cells + 1) count spare_columns) from to spare_columns ++
    expansion cells (count - half (length cells + 1) count spare_columns) helper to spare_columns) ≡
    expansion cells count from to (helper ∷ spare_columns)
expansion_many cells count from to helper spare_columns many = cond_else count (length cells + 1) (over_cells from to (take (count - 1) cells)) _ many

-- ---- over cells

module _ (game : Game) (start : Board) (source target : ℕ) (cards : List ℕ) where
  abbrev pub RouteTo : Board → List Move → ℕ → ℕ → List ℕ → List ℕ → Type 0
  RouteTo board moves from to under full =
      (after : Board) × Route game start source target cards board moves after × Moved game board from to under full after

  abbrev pub AreFree : Board → List ℕ → Type 0
  AreFree board cells = (cell : ℕ) → Among cell cells → (cell < game.cells) × (cell_at board cell ≡ None) × (cell_at start cell ≡ None)

  pub goes_over_cells : (cells : List ℕ) (board : Board) (from to : ℕ) (under : List ℕ) (first : ℕ) (later base : List ℕ) → IsWellFormed game board →
      from ≢ to → from < 8 → to < 8 →
      IsOpenColumn start source target from → IsOpenColumn start source target to → column_at board from ≡ under ++ first ∷ later →
      length later ≡ length cells → IsRun game (first ∷ later) → AllAmong (first ∷ later) cards →
      column_at board to ≡ base → MayFollow game first (last_card base) → AreFree board cells → AreApart cells →
      RouteTo board (over_cells from to cells) from to under (base ++ first ∷ later)
  goes_over_cells [] board from to under first (x ∷ later) base well apart inside inside' opened opened' here size run all there goes free different =
      absurd (omega arith)
  goes_over_cells [] board from to under first [] base well apart inside inside' opened opened' here size run all there goes free different =
      let (after, step, same, moved) = across game board well from to under first base apart inside inside' here there goes in (
        after,
        route_of game start source target cards board after (move_between (FromColumn from) (ToColumn to)) step opened opened'
            (rw same (all first (inl refl))),
        moved,
      )
  goes_over_cells (cell ∷ cells) board from to under first [] base well apart inside inside' opened opened' here size run all there goes free different =
      absurd (omega arith)
  goes_over_cells (cell ∷ cells) board from to under first (x ∷ later) base well apart inside inside' opened opened' here size run all there goes free different =
      let (front, last, ends) = snoc_view x later in
      let whole : first ∷ x ∷ later ≡ (first ∷ front) ++ last ∷ [] = ap (λ l. first ∷ l) ends in
      let (in_range, empty, was_empty) = free cell (inl refl) in
      let is_last : Among last cards = all last (subst (Among last) (sym whole) (among_right last (first ∷ front) (last ∷ []) (inl refl))) in
      let run_whole : IsRun game (first ∷ (front ++ last ∷ [])) = subst (IsRun game) whole run in
      let (one, step, same, well_one, heights_one, cells_one, left_one, others_one) =
      away game board well from cell (under ++ first ∷ front) last inside in_range
      (here ∙ ap (λ l. under ++ l) whole ∙ sym (append_assoc under (first ∷ front) (last ∷ []))) empty in
      let (two, route, moved) = goes_over_cells cells one from to under first front base well_one apart inside inside' opened opened' left_one
      (let a = ap length ends in let b = length-append front (last ∷ []) in omega arith)
      (run_front game (first ∷ front) (last ∷ []) run_whole)
      (λ y among. all y (subst (Among y) (sym whole) (among_left y (first ∷ front) (last ∷ []) among)))
      (others_one to (λ e. apart (sym e)) ∙ there) goes
      (λ c among. (
        (free c (inr among)).0,
        ap (λ l. get_or l c None) cells_one
            ∙ get_or-set_other board.cells cell c (Some last) None (λ e. different.0 (rw e at among)) ∙ (free c (inr among)).1,
        (free c (inr among)).2,
      ))
      different.1 in
      let held : cell_at two cell ≡ Some last =
      ap (λ l. get_or l cell None) (moved.cells ∙ cells_one) ∙
      get_or-set_same board.cells cell (Some last) None (let n = well.piles.all_cells in omega arith) in
      let (three, step', same', well_three, heights_three, cells_three, won, others_three) =
      back game two moved.well cell to last in_range inside' held
      (rw moved.goes (follows_run game first front last [] base run_whole)) in
      let out = route_of game start source target cards board one (move_between (FromColumn from) (ToCell cell)) step opened was_empty
      (rw same is_last) in
      let home = route_of game start source target cards two three (move_between (FromCell cell) (ToColumn to)) step' was_empty opened'
      (rw same' is_last) in (
        three,
        route_then game start source target cards board one three (move_between (FromColumn from) (ToCell cell) ∷ [])
            (over_cells from to cells ++ move_between (FromCell cell) (ToColumn to) ∷ []) out
            (route_then game start source target cards one two three (over_cells from to cells) (move_between (FromCell cell) (ToColumn to) ∷ [])
            route home),
        record {
          well = well_three;
          heights = heights_three ∙ moved.heights ∙ heights_one;
          cells =
              cells_three ∙ ap (λ l. set l cell None) (moved.cells ∙ cells_one) ∙ set-set board.cells cell (Some last) None
              ∙ ap (set board.cells cell) (sym empty) ∙ set-get_or board.cells cell None;
          left = others_three from apart ∙ moved.left;
          goes = won ∙ ap (λ l. l ++ last ∷ []) moved.goes ∙ append_assoc base (first ∷ front) (last ∷ []) ∙ ap (λ l. base ++ l) (sym whole);
          others = λ column a b. others_three column b ∙ moved.others column a b ∙ others_one column a;
        },
      )

  abbrev pub AreHelpers : Board → ℕ → ℕ → List ℕ → Type 0
  AreHelpers board from to spare_columns =
      (helper : ℕ) → Among helper spare_columns →
      (helper < 8) × (column_at board helper ≡ []) × (column_at start helper ≡ []) × (helper ≢ from) × (helper ≢ to)

  -- the cells are enough, or every card may fill an empty column and all are enough
  abbrev pub IsEnough : List ℕ → ℕ → List ℕ → Type 0
  IsEnough cells count spare_columns =
      (count ≤ length cells + 1) ⊎ (((card : ℕ) → Fills game card) × (count ≤ (length cells + 1) * 2 ^ length spare_columns))

  directly : (cells : List ℕ) (count : ℕ) (board : Board) (from to : ℕ) (under : List ℕ) (first : ℕ) (later base : List ℕ) → IsWellFormed game board →
      from ≢ to → from < 8 → to < 8 →
      IsOpenColumn start source target from → IsOpenColumn start source target to → column_at board from ≡ under ++ first ∷ later →
      count ≡ length later + 1 → IsRun game (first ∷ later) → AllAmong (first ∷ later) cards →
      column_at board to ≡ base → MayFollow game first (last_card base) → AreFree board cells → AreApart cells → count ≤ length cells + 1 →
      RouteTo board (over_cells from to (take (count - 1) cells)) from to under (base ++ first ∷ later)
  directly cells count board from to under first later base well apart inside inside' opened opened' here size run all there goes free different few =
      goes_over_cells (take (count - 1) cells) board from to under first later base well apart inside inside' opened opened' here
      (let n = length-take (count - 1) cells in omega arith) run all there goes
      (λ c among. free c (among_take (count - 1) c cells among)) (apart_take (count - 1) cells different)

  -- what holds of an expansion over these helpers
  abbrev pub ExpandsOver : List ℕ → Type 0
  ExpandsOver spare_columns =
      (cells : List ℕ) (count : ℕ) (board : Board) (from to : ℕ) (under : List ℕ) (first : ℕ) (later base : List ℕ) → IsWellFormed game board →
      from ≢ to → from < 8 → to < 8 →
      IsOpenColumn start source target from → IsOpenColumn start source target to → column_at board from ≡ under ++ first ∷ later →
      count ≡ length later + 1 → IsRun game (first ∷ later) → AllAmong (first ∷ later) cards →
      column_at board to ≡ base → MayFollow game first (last_card base) → AreFree board cells → AreApart cells →
      AreHelpers board from to spare_columns → AreApart spare_columns →
      IsEnough cells count spare_columns →
      RouteTo board (expansion cells count from to spare_columns) from to under (base ++ first ∷ later)

  -- the run over one helper more
  module _ (helper : ℕ) (spare_columns : List ℕ) (over : ExpandsOver spare_columns)
      (cells : List ℕ) (count : ℕ) (board : Board) (from to : ℕ) (under : List ℕ) (first : ℕ) (later base : List ℕ)
      (well : IsWellFormed game board) (apart : from ≢ to) (inside : from < 8) (inside' : to < 8)
      (opened : IsOpenColumn start source target from) (opened' : IsOpenColumn start source target to)
      (here : column_at board from ≡ under ++ first ∷ later) (size : count ≡ length later + 1)
      (run : IsRun game (first ∷ later)) (all : AllAmong (first ∷ later) cards)
      (there : column_at board to ≡ base) (goes : MayFollow game first (last_card base)) (free : AreFree board cells) (different : AreApart cells)
      (help : AreHelpers board from to (helper ∷ spare_columns)) (differ : AreApart (helper ∷ spare_columns)) where
    -- the last cards wait in the first helper column
    in_three : (high low : ℕ) (upper : List ℕ) (next : ℕ) (lower : List ℕ) → later ≡ upper ++ next ∷ lower →
        high ≡ length upper + 1 → low ≡ length lower + 1 → ((card : ℕ) → Fills game card) →
        high ≤ (length cells + 1) * 2 ^ length spare_columns → low ≤ (length cells + 1) * 2 ^ length spare_columns →
        RouteTo board
        (expansion cells low from helper spare_columns ++ (expansion cells high from to spare_columns ++ expansion cells low helper to spare_columns))
        from to under (base ++ first ∷ later)
    in_three high low upper next lower e high_is low_is every enough enough' =
        let here' : column_at board from ≡ under ++ first ∷ (upper ++ next ∷ lower) = rw e at here in
        let run' : IsRun game (first ∷ (upper ++ next ∷ lower)) = rw e at run in
        let all' : AllAmong (first ∷ (upper ++ next ∷ lower)) cards = rw e at all in
        let (in_range, empty, was_empty, not_from, not_to) = help helper (inl refl) in
        let run_low = run_after game (first ∷ upper) (next ∷ lower) run' in
        let (one, route_one, moved_one) =
        over cells low board from helper (under ++ first ∷ upper) next lower [] well (λ e. not_from (sym e)) inside in_range opened (inr was_empty)
        (here' ∙ sym (append_assoc under (first ∷ upper) (next ∷ lower))) low_is run_low
        (λ y among. all' y (among_right y (first ∷ upper) (next ∷ lower) among)) empty (every next) free different
        (λ h among. let (a, b, c, d, e) = help h (inr among) in (a, b, c, d, λ same. differ.0 (rw same at among))) differ.1
        (inr (every, enough')) in
        let (two, route_two, moved_two) =
        over cells high one from to under first upper base moved_one.well apart inside inside' opened opened' moved_one.left high_is
        (run_front game (first ∷ upper) (next ∷ lower) run')
        (λ y among. all' y (among_left y (first ∷ upper) (next ∷ lower) among)) (moved_one.others to (λ e. apart (sym e)) (λ e. not_to (sym e)) ∙ there)
        goes
        (λ c among. let (a, b, d) = free c among in (a, ap (λ l. get_or l c None) moved_one.cells ∙ b, d)) different
        (λ h among. let (a, b, c, d, e) = help h (inr among) in
        (a, moved_one.others h d (λ same. differ.0 (rw same at among)) ∙ b, c, d, e)) differ.1 (inr (every, enough)) in
        let (three, route_three, moved_three) =
        over cells low two helper to [] next lower (base ++ first ∷ upper) moved_two.well not_to in_range inside' (inr was_empty) opened'
        (moved_two.others helper not_from not_to ∙ moved_one.goes) low_is run_low
        (λ y among. all' y (among_right y (first ∷ upper) (next ∷ lower) among)) moved_two.goes (follows_run game first upper next lower base run')
        (λ c among. let (a, b, d) = free c among in (a, ap (λ l. get_or l c None) (moved_two.cells ∙ moved_one.cells) ∙ b, d)) different
        (λ h among. let (a, b, c, d, e) = help h (inr among) in let other : h ≢ helper = (λ same. differ.0 (rw same at among)) in
        (a, moved_two.others h d e ∙ moved_one.others h d other ∙ b, c, other, e)) differ.1 (inr (every, enough')) in
        rw e (
          three,
          route_then game start source target cards board one three (expansion cells low from helper spare_columns)
              (expansion cells high from to spare_columns ++ expansion cells low helper to spare_columns) route_one
              (route_then game start source target cards one two three (expansion cells high from to spare_columns) (expansion cells low helper to spare_columns)
              route_two route_three),
          record {
            well = moved_three.well;
            heights = moved_three.heights ∙ moved_two.heights ∙ moved_one.heights;
            cells = moved_three.cells ∙ moved_two.cells ∙ moved_one.cells;
            left = moved_three.others from (λ e. not_from (sym e)) apart ∙ moved_two.left;
            goes = moved_three.goes ∙ append_assoc base (first ∷ upper) (next ∷ lower);
            others = λ column a b. elim (cases_eq column helper) [
              | inl same ↦ rw same (moved_three.left ∙ sym empty)
              | inr other ↦ moved_three.others column other b ∙ moved_two.others column a b ∙ moved_one.others column a other
            ];
          },
        )

    parted : (high : ℕ) → ((card : ℕ) → Fills game card) → high < count → count ≤ 2 * high →
        high ≤ (length cells + 1) * 2 ^ length spare_columns → 1 ≤ high →
        RouteTo board
        (expansion cells (count - high) from helper spare_columns ++
        (expansion cells high from to spare_columns ++ expansion cells (count - high) helper to spare_columns)) from to under (base ++ first ∷ later)
    parted high every below twice within some =
        let (upper, next, lower, e, long) = cut (high - 1) later (omega arith) in
        let sizes = ap length e ∙ length-append upper (next ∷ lower) in
        in_three high (count - high) upper next lower e (omega arith) (omega arith) every within (omega arith)

    expands_more : IsEnough cells count (helper ∷ spare_columns) →
        RouteTo board (expansion cells count from to (helper ∷ spare_columns)) from to under (base ++ first ∷ later)
    expands_more enough =
        elim (cases_lt (length cells + 1) count) [
          | inr few ↦
              rw (← expansion_few cells count from to helper spare_columns few)
              (directly cells count board from to under first later base well apart inside inside' opened opened' here
              size run all there goes free different few)
          | inl many ↦ elim enough [
            | inl few ↦ absurd (omega arith)
            | inr (every, most) ↦
                let sizes = half_is (length cells + 1) count spare_columns many
                (let d = double_pow (length cells + 1) (length spare_columns) in
                let a = mul_assoc 2 (length cells + 1) (2 ^ length spare_columns) in omega arith) in
                rw (← expansion_many cells count from to helper spare_columns many)
                (parted (half (length cells + 1) count spare_columns) every sizes.0 sizes.1 sizes.2
                (let p = pow_some (length cells + 1) (length spare_columns) in let h = half_some (length cells + 1) count spare_columns in omega arith))
          ]
        ]

  expands_none : ExpandsOver []
  expands_none cells count board from to under first later base well apart inside inside' opened opened' here size run all there goes free different help differ enough =
      directly cells count board from to under first later base well apart inside inside' opened opened' here size run
      all there goes free different
      (elim enough [ inl few ↦ few | inr many ↦ let m = many.1 in omega arith ])

  pub expands : (spare_columns : List ℕ) → ExpandsOver spare_columns
  expands [] = expands_none
  expands (helper ∷ spare_columns) = expands_more helper spare_columns (expands spare_columns)

-- ---- as the code calls itself

same_rest : (helper : ℕ) (spare_columns : List ℕ) → take (length (helper ∷ spare_columns) - 1) (drop 1 (helper ∷ spare_columns)) ≡ spare_columns
same_rest helper spare_columns = take_all (length (helper ∷ spare_columns) - 1) spare_columns (omega arith)

-- the three parts of an expansion
pub record Parts (cells spare_columns : List ℕ) (count from to high : ℕ) : Type 0 where
  pub below : high < count
  pub some : 1 ≤ high
  pub whole : expansion cells (count - high) from (get_or spare_columns 0 0) (take (length spare_columns - 1) (drop 1 spare_columns)) ++
      (expansion cells high from to (take (length spare_columns - 1) (drop 1 spare_columns)) ++ expansion cells (count - high) (get_or spare_columns 0 0) to
      (take (length spare_columns - 1) (drop 1 spare_columns))) ≡
      expansion cells count from to spare_columns

pub in_parts : (cells spare_columns : List ℕ) (count from to high : ℕ) → 1 ≤ length spare_columns → length cells + 1 < count →
    high ≡ half (length cells + 1) count (take (length spare_columns - 1) (drop 1 spare_columns)) → Parts cells spare_columns count from to high
in_parts cells [] count from to high some many e = absurd (omega arith)
in_parts cells (helper ∷ spare_columns) count from to high some many e =
    let rest = take (length (helper ∷ spare_columns) - 1) (drop 1 (helper ∷ spare_columns)) in
    let same = same_rest helper spare_columns in
    let is : high ≡ half (length cells + 1) count spare_columns = e ∙ ap (half (length cells + 1) count) same in
    let low = half_below (length cells + 1) count spare_columns many in
    let least = half_some (length cells + 1) count spare_columns in
    record {
      below = omega arith;
      some = omega arith;
      whole =
          ap (λ l. expansion cells (count - high) from helper l ++ (expansion cells high from to l ++ expansion cells (count - high) helper to l))
          same ∙
          ap (λ h. expansion cells (count - h) from helper
          spare_columns ++ (expansion cells h from to spare_columns ++ expansion cells (count - h) helper to spare_columns)) is ∙ expansion_many cells count from to
          helper spare_columns many;
    }

pub part_sizes : (cells spare_columns : List ℕ) (count from to high : ℕ) → Parts cells spare_columns count from to high →
    length (expansion cells (count - high) from (get_or spare_columns 0 0) (take (length spare_columns - 1) (drop 1 spare_columns))) +
    (length (expansion cells high from to (take (length spare_columns - 1) (drop 1 spare_columns))) + length
    (expansion cells (count - high) (get_or spare_columns 0 0) to (take (length spare_columns - 1) (drop 1 spare_columns)))) ≡
    length (expansion cells count from to spare_columns)
part_sizes cells spare_columns count from to high parts =
    let rest = take (length spare_columns - 1) (drop 1 spare_columns) in
    let a = expansion cells (count - high) from (get_or spare_columns 0 0) rest in
    let b = expansion cells high from to rest in
    let c = expansion cells (count - high) (get_or spare_columns 0 0) to rest in
    sym (length-append a (b ++ c) ∙ ap (λ n. length a + n) (length-append b c)) ∙ ap length parts.whole
