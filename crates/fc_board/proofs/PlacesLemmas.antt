-- The places that pass a test, found one by one.
use Rattle.std.proofs.Common.{◌%◌, ◌&&◌, ◌*◌, ◌++◌, ◌+◌, ◌<◌, ◌^◌, ◌||◌, ◌∙◌, ◌∷◌, ◌≡◌, ◌≤◌, [], ap, arith, Bool, cond}
use Rattle.std.proofs.Common.{eqb, false, inl, inr, length, List, None, not, Option, refl, Some, suc, sym, true, zero}
use Rattle.std.proofs.{Common.{ℕ}, lemmas.{Bool.{cases_eq, Decides.{nat_tests}}, List.Elements.{filter-append}}}
use Rattle.std.proofs.lemmas.List.FromFn.{length-range_with_len}
use Rattle.std.proofs.lemmas.List.Sums.{count_by-le-length, length-filter, sum_by-cons}
use Rattle.std.{proofs.Math.Nat.{mul-le-mul, pow-le-pow_right}, specs.List.{count_by, filter, range_with_len}}
use Rattle.std.specs.Option.{is_none, is_some}
use Rattle.fc_card.{proofs.OrderLemmas.{places-more}, specs.{places}}
use Rattle.fc_board.specs.{Boards.{Board}, Games.{Game, is_king}}
use Rattle.fc_board.specs.Steps.{Among, capacity, cell_at, column_at, free_cells, is_helper, spare_columns}

pub filter_places_more : (p : ℕ → Bool) (n : ℕ) → filter p (places (n + 1)) ≡ filter p (places n) ++ cond (p n) (n ∷ []) []
filter_places_more p n = ap (filter p) (places-more n) ∙ filter-append p (places n) (n ∷ [])

pub place_passes : (p : ℕ → Bool) (n : ℕ) → p n ≡ true → filter p (places (n + 1)) ≡ filter p (places n) ++ n ∷ []
place_passes p n e = filter_places_more p n ∙ ap (λ t. filter p (places n) ++ cond t (n ∷ []) []) e

pub place_fails : (p : ℕ → Bool) (n : ℕ) → p n ≡ false → filter p (places (n + 1)) ≡ filter p (places n)
place_fails p n e = filter_places_more p n ∙ ap (λ t. filter p (places n) ++ cond t (n ∷ []) []) e ∙ none (filter p (places n))
  where
    none : (xs : List ℕ) → xs ++ [] ≡ xs
    none [] = refl
    none (x ∷ xs) = rw (none xs)

pub few_places : (p : ℕ → Bool) (n : ℕ) → length (filter p (places n)) ≤ n
few_places p n = omega (arith, length-filter p (places n), count_by-le-length p (places n), length-range_with_len 0 n)

pub room_left : (p : ℕ → Bool) (items : List ℕ) (n bound : ℕ) → items ≡ filter p (places n) → n < bound → bound ≤ 8 → length items < 8
room_left p items n bound e inside few = let size = ap length e in omega (arith, few_places p n)

pub found_place : (p : ℕ → Bool) (items more : List ℕ) (n : ℕ) → items ≡ filter p (places n) → p n ≡ true → more ≡ items ++ n ∷ [] →
    more ≡ filter p (places (n + 1))
found_place p items more n e yes' pushed = pushed ∙ ap (λ l. l ++ n ∷ []) e ∙ sym (place_passes p n yes')

pub left_place : (p : ℕ → Bool) (items more : List ℕ) (n : ℕ) → items ≡ filter p (places n) → p n ≡ false → more ≡ items →
    more ≡ filter p (places (n + 1))
left_place p items more n e no' same = same ∙ e ∙ sym (place_fails p n no')

-- what `is_none` and `is_empty` say
pub nothing_held : (held other : Option ℕ) (test answer : Bool) → is_some held ≡ not test → test ≡ answer → held ≡ other → is_none other ≡ answer
nothing_held held other test answer says is e = ap is_none (sym e) ∙ by_held held test says ∙ is
  where
    by_held : (h : Option ℕ) (t : Bool) → is_some h ≡ not t → is_none h ≡ t
    by_held None true s = refl
    by_held None false s = cc
    by_held (Some card) true s = cc
    by_held (Some card) false s = refl

-- ---- helper columns, found one by one

other_column : (column to : ℕ) → (column ≡ to → ⊥) → not (eqb column to) ≡ true
other_column column to apart = grind (arith, nat_tests)

same_column : (column to : ℕ) → column ≡ to → not (eqb column to) ≡ false
same_column column to same = grind (arith, nat_tests)

never : (a : Bool) → (a && false) ≡ false
never true = refl
never false = refl

module _ (board : Board) (to column place : ℕ) (cards : List ℕ) (empty : Bool) (here : cards ≡ column_at board place) (there : place ≡ column)
    (says : empty ≡ eqb (length cards) 0) where
  is_empty_there : empty ≡ eqb (length (column_at board column)) 0
  is_empty_there = says ∙ ap (λ l. eqb (length l) 0) (here ∙ ap (column_at board) there)

  pub a_helper : empty ≡ true → (column ≡ to → ⊥) → is_helper board to column ≡ true
  a_helper yes' apart = rw (sym is_empty_there ∙ yes') (other_column column to apart)

  pub no_helper : empty ≡ false → is_helper board to column ≡ false
  no_helper no' = rw (sym is_empty_there ∙ no')

pub target_no_helper : (board : Board) (to column : ℕ) → column ≡ to → is_helper board to column ≡ false
target_no_helper board to column same =
    rw (same_column column to same) (never (eqb (length (column_at board column)) 0))

-- ---- the capacity as a shifted number

pow_256 : (n : ℕ) → n ≤ 8 → 2 ^ n ≤ 256
pow_256 n few = pow-le-pow_right {n = 2} (omega arith) few

pub shifted : (c e n m : ℕ) → c ≡ n → e ≡ m → n ≤ 8 → m ≤ 8 → ((c + 1) * 2 ^ e) % 65536 ≡ (n + 1) * 2 ^ m
shifted c e n m p q few few' =
    let most : (n + 1) * 2 ^ m ≤ 9 * 256 = mul-le-mul {n₁ = n + 1} {m₁ = 2 ^ m} {n₂ = 9} {m₂ = 256} (omega arith) (pow_256 m few') in
    rw (p, q) (omega arith)

-- where every card fills an empty column
pub capacity_there : (game : Game) (kings_only : Bool) → ((card : ℕ) → game.fills card ≡ (not kings_only || is_king card)) →
    (board : Board) (to limit : ℕ) → kings_only ≡ false → game.cells ≡ limit → limit ≤ 8 →
    (cells columns : List ℕ) (c e : ℕ) → cells ≡ free_cells game board → columns ≡ spare_columns board to → c ≡ length cells → e ≡ length columns →
    ((c + 1) * 2 ^ e) % 65536 ≡ capacity game board to
capacity_there game kings_only by_fill board to limit every same few cells columns c e p q p' q' =
    let open_to : game.fills 0 ≡ true = by_fill 0 ∙ ap (λ k. not k || is_king 0) every in
    shifted c e (length (free_cells game board)) (length (spare_columns board to)) (p' ∙ ap length p) (q' ∙ ap length q)
    (omega (arith, few_places (λ cell. is_none (cell_at board cell)) game.cells)) (few_places (is_helper board to) 8) ∙
    sym (ap (λ t. (length (free_cells game board) + 1) * cond t (2 ^ length (spare_columns board to)) 1) open_to)

pub in_range : (count from place : ℕ) → from ≤ place → place < from + count → Among place (range_with_len from count)
in_range zero from place low high = absurd (omega arith)
in_range (suc count) from place low high = elim (cases_eq place from) [
  | inl same ↦ inl same
  | inr apart ↦ inr (in_range count (from + 1) place (omega arith) (omega arith))
]

-- ---- the capacity is at most 640

fewer_than_all : (p : ℕ → Bool) (place : ℕ) (xs : List ℕ) → p place ≡ false → Among place xs → count_by p xs < length xs
fewer_than_all p place [] no' among = absurd among
fewer_than_all p place (x ∷ xs) no' (inl same) =
    let here : cond (p x) (suc zero) zero ≡ zero = ap (λ t. cond t (suc zero) zero) (ap p (sym same) ∙ no') in
    omega (arith, sum_by-cons (λ y. cond (p y) 1 0) x xs, count_by-le-length p xs)
fewer_than_all p place (x ∷ xs) no' (inr rest) =
    omega (arith, sum_by-cons (λ y. cond (p y) 1 0) x xs, one_at_most (p x), fewer_than_all p place xs no' rest)
  where
    one_at_most : (t : Bool) → cond t (suc zero) zero ≤ 1
    one_at_most true = omega arith
    one_at_most false = omega arith

pub few_beside : (board : Board) (to : ℕ) → to < 8 → length (spare_columns board to) ≤ 7
few_beside board to inside =
    omega (
      arith,
      length-filter (is_helper board to) (places 8),
      fewer_than_all (is_helper board to) to (places 8) (target_no_helper board to to refl)
          (in_range 8 0 to (omega arith) (omega arith)),
    )

pub capacity_small : (game : Game) (kings_only : Bool) (limit : ℕ) → ((card : ℕ) → game.fills card ≡ (not kings_only || is_king card)) →
    game.cells ≡ limit → limit ≤ 8 →
    (kings_only ≡ false → limit ≤ 4) → (board : Board) (to : ℕ) → to < 8 → capacity game board to ≤ 640
capacity_small game true limit by_fill same few four board to inside =
    let closed_to : game.fills 0 ≡ false = by_fill 0 in
    let cells = few_places (λ cell. is_none (cell_at board cell)) game.cells in
    rw closed_to (omega arith)
capacity_small game false limit by_fill same few four board to inside =
    let cells = few_places (λ cell. is_none (cell_at board cell)) game.cells in
    let small = four refl in
    mul-le-mul {n₁ = length (free_cells game board) + 1} {m₁ = cond (game.fills 0) (2 ^ length (spare_columns board to)) 1} {n₂ = 5} {m₂ = 128} (omega arith)
    (by_test (game.fills 0) (length (spare_columns board to)) (few_beside board to inside))
  where
    by_test : (t : Bool) (n : ℕ) → n ≤ 7 → cond t (2 ^ n) 1 ≤ 128
    by_test true n h = pow-le-pow_right {n = 2} (omega arith) h
    by_test false n h = omega arith

-- where kings alone fill an empty column
pub capacity_of_kings : (game : Game) (kings_only : Bool) → ((card : ℕ) → game.fills card ≡ (not kings_only || is_king card)) →
    (board : Board) (to : ℕ) → kings_only ≡ true →
    (cells : List ℕ) (c : ℕ) → cells ≡ free_cells game board → c ≡ length cells → c + 1 ≡ capacity game board to
capacity_of_kings game kings_only by_fill board to alone cells c p q =
    let closed_to : game.fills 0 ≡ false = by_fill 0 ∙ ap (λ k. not k || is_king 0) alone in
    let size = q ∙ ap length p in
    ap (λ n. n + 1) size ∙ times_one (length (free_cells game board) + 1)
    ∙ sym (ap (λ t. (length (free_cells game board) + 1) * cond t (2 ^ length (spare_columns board to)) 1) closed_to)
  where
    times_one : (n : ℕ) → n ≡ n * 1
    times_one n = omega arith
