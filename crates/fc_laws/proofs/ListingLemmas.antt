-- Listed moves come in the order of their piles.
use Rattle.std.proofs.Common.{◌*◌, ◌++◌, ◌+◌, ◌-◌, ◌<◌, ◌∙◌, ◌∷◌, ◌≡◌, ◌≤◌, [], ap, ap₂, arith, Bool, cond, inl, inr}
use Rattle.std.proofs.Common.{List, map, nat_lt, Some, subst, suc, sym, zero, ℕ}
use Rattle.std.{proofs.lemmas.{Bool.{cases_lt, le-ltb, lt-ltb}, List.{map-append}}, specs.List.{filter, flat_map}}
use Rattle.std.specs.{List.Sorted.{IsStrictlyIncreasing}, Option.{is_none}, Prelude.{false, slice_index, true}}
use Rattle.{fc_card.specs.{places}, fc_laws.specs.Listings.{move_order, run_order, source_place, target_place}}
use Rattle.fc_board.specs.{Boards.{Board}, Games.{Game}, Moves.{move_between}, Steps.{refusal, run_refusal}}
use Rattle.fc_board.specs.declared.moves.Place.TheVariants.{Cell as ToCell, Column as ToColumn, Home}
use Rattle.fc_board.specs.declared.moves.Source.TheVariants.{Cell as FromCell, Column as FromColumn}
use Rattle.fc_board.specs.declared.run_move.RunMove.TheVariants.{Run}
use Rattle.fc_bytes.{proofs.ChildrenLemmas.{source_more, tried_more}, specs.{legal_moves, legal_moves_from, legal_runs}}
use Rattle.fc_bytes.specs.{legal_runs_between, legal_runs_from, source_numbered, target_numbered}

-- ---- numbers that rise, each once, from the one bound to below the other

abbrev Rises : ℕ → List ℕ → ℕ → Type 0
Rises low [] high = low ≤ high
Rises low (x ∷ xs) high = (low ≤ x) × Rises (x + 1) xs high

-- wider bounds hold too
from_below : (lower low high : ℕ) (xs : List ℕ) → lower ≤ low → Rises low xs high → Rises lower xs high
from_below lower low high [] below up = omega (arith, below, up)
from_below lower low high (x ∷ xs) below (least, up) = (omega (arith, below, least), up)

to_above : (low high higher : ℕ) (xs : List ℕ) → high ≤ higher → Rises low xs high → Rises low xs higher
to_above low high higher [] above up = omega (arith, above, up)
to_above low high higher (x ∷ xs) above (least, up) = (least, to_above (x + 1) high higher xs above up)

-- lists that rise one after the other
on_and_on : (low middle high : ℕ) (xs ys : List ℕ) → Rises low xs middle → Rises middle ys high
    → Rises low (xs ++ ys) high
on_and_on low middle high [] ys up more = from_below low middle high ys up more
on_and_on low middle high (x ∷ xs) ys (least, up) more = (least, on_and_on (x + 1) middle high xs ys up more)

increasing : (low high : ℕ) (xs : List ℕ) → Rises low xs high → IsStrictlyIncreasing xs
increasing low high [] up k below = absurd (omega (arith, below))
increasing low high (x ∷ []) up k below = absurd (omega (arith, below))
increasing low high (x ∷ y ∷ ys) (least, (next, up)) zero below = omega (arith, next)
increasing low high (x ∷ y ∷ ys) (least, (next, up)) (suc k) below =
    let step : suc k + 1 ≡ suc (k + 1) = omega arith in
    subst (λ n. slice_index (y ∷ ys) k < slice_index (x ∷ y ∷ ys) n) (sym step)
    (increasing (x + 1) high (y ∷ ys) (next, up) k (omega (arith, below)))

-- ---- lists of what passes a test, and of pieces

passed_rise : {X : Type 0} (p : X → Bool) (number : X → ℕ) (f : ℕ → X) (base count : ℕ)
    → ((k : ℕ) → k < count → number (f k) ≡ base + k)
    → Rises base (map number (filter p (map f (places count)))) (base + count)
passed_rise p number f base zero each = omega arith
passed_rise p number f base (suc count) each =
    let next : count + 1 ≡ suc count = omega arith in
    subst (λ n. Rises base (map number (filter p (map f (places n)))) (base + n)) next
    (subst (λ passed. Rises base (map number passed) (base + (count + 1))) (sym (tried_more p f count))
    (subst (λ numbers. Rises base numbers (base + (count + 1)))
    (sym (map-append number (filter p (map f (places count))) (cond (p (f count)) (f count ∷ []) [])))
    (on_and_on base (base + count) (base + (count + 1)) (map number (filter p (map f (places count))))
    (map number (cond (p (f count)) (f count ∷ []) []))
    (passed_rise p number f base count (λ k below. each k (omega (arith, below)))) (last (p (f count))))))
  where
    last : (test : Bool) → Rises (base + count) (map number (cond test (f count ∷ []) [])) (base + (count + 1))
    last true = let is = each count (omega arith) in (omega (arith, is), omega (arith, is))
    last false = omega arith

pieces_rise : {X : Type 0} (number : X → ℕ) (f : ℕ → List X) (bound : ℕ → ℕ) (count : ℕ)
    → ((k : ℕ) → k < count → Rises (bound k) (map number (f k)) (bound (k + 1)))
    → Rises (bound 0) (map number (flat_map f (places count))) (bound count)
pieces_rise number f bound zero each = omega arith
pieces_rise number f bound (suc count) each =
    let next : count + 1 ≡ suc count = omega arith in
    subst (λ n. Rises (bound 0) (map number (flat_map f (places n))) (bound n)) next
    (subst (λ all. Rises (bound 0) (map number all) (bound (count + 1))) (sym (source_more f count))
    (subst (λ numbers. Rises (bound 0) numbers (bound (count + 1)))
    (sym (map-append number (flat_map f (places count)) (f count)))
    (on_and_on (bound 0) (bound count) (bound (count + 1)) (map number (flat_map f (places count)))
    (map number (f count))
    (pieces_rise number f bound count (λ k below. each k (omega (arith, below)))) (each count (omega arith)))))

-- ---- moves of one card

-- the number of a pile is its place
source_at : (k : ℕ) → source_place (source_numbered k) ≡ k
source_at k = elim (cases_lt k 8) [
  | inl column ↦ ap (λ test. source_place (cond test (FromColumn k) (FromCell (k - 8)))) (lt-ltb k 8 column)
  | inr past ↦
      let back : 8 + (k - 8) ≡ k = omega (arith, past) in
      ap (λ test. source_place (cond test (FromColumn k) (FromCell (k - 8)))) (le-ltb k 8 past) ∙ back
]

target_at : (game : Game) (k : ℕ) → k < 9 + game.cells → target_place game (target_numbered game k) ≡ k
target_at game k below = elim (cases_lt k 8) [
  | inl column ↦
      ap (λ test. target_place game (cond test (ToColumn k)
      (cond (nat_lt k (8 + game.cells)) (ToCell (k - 8)) Home))) (lt-ltb k 8 column)
  | inr past ↦
      ap (λ test. target_place game (cond test (ToColumn k)
      (cond (nat_lt k (8 + game.cells)) (ToCell (k - 8)) Home))) (le-ltb k 8 past)
      ∙ elim (cases_lt k (8 + game.cells)) [
        | inl cell ↦
            let back : 8 + (k - 8) ≡ k = omega (arith, past) in
            ap (λ test. target_place game (cond test (ToCell (k - 8)) Home)) (lt-ltb k (8 + game.cells) cell) ∙ back
        | inr home ↦
            let last : 8 + game.cells ≡ k = omega (arith, home, below) in
            ap (λ test. target_place game (cond test (ToCell (k - 8)) Home)) (le-ltb k (8 + game.cells) home) ∙ last
      ]
]

pub moves_in_order : (game : Game) (board : Board) → game.cells ≤ 8
    → IsStrictlyIncreasing (map (move_order game) (legal_moves game board))
moves_in_order game board few =
    increasing 0 (100 * (8 + game.cells)) (map (move_order game) (legal_moves game board))
    (pieces_rise (move_order game) (legal_moves_from game board) (λ from. 100 * from) (8 + game.cells) (λ from below.
    to_above (100 * from) (100 * from + (9 + game.cells)) (100 * (from + 1))
    (map (move_order game) (legal_moves_from game board from)) (omega (arith, few))
    (passed_rise (λ move. is_none (refusal game board move)) (move_order game)
    (λ to. move_between (source_numbered from) (target_numbered game to)) (100 * from) (9 + game.cells)
    (λ to inside.
    ap₂ (λ from to. 100 * from + to) (source_at from) (target_at game to inside)))))

-- ---- moves of several cards

between_rise : (game : Game) (board : Board) (from to : ℕ)
    → Rises (10000 * from + 100 * to) (map run_order (legal_runs_between game board from to))
    (10000 * from + 100 * (to + 1))
between_rise game board from to =
    let runs = map run_order (legal_runs_between game board from to) in
    from_below (10000 * from + 100 * to) (10000 * from + 100 * to + 2) (10000 * from + 100 * (to + 1)) runs
    (omega arith)
    (to_above (10000 * from + 100 * to + 2) (10000 * from + 100 * to + 2 + 12) (10000 * from + 100 * (to + 1)) runs
    (omega arith)
    (passed_rise (λ run. is_none (run_refusal game board run)) run_order (λ more. Run from to (Some (more + 2)))
    (10000 * from + 100 * to + 2) 12 (λ more few. omega arith)))

pub runs_in_order : (game : Game) (board : Board) → IsStrictlyIncreasing (map run_order (legal_runs game board))
runs_in_order game board =
    increasing 0 (10000 * 8) (map run_order (legal_runs game board))
    (pieces_rise run_order (legal_runs_from game board) (λ from. 10000 * from) 8 (λ from below.
    to_above (10000 * from) (10000 * from + 100 * 8) (10000 * (from + 1))
    (map run_order (legal_runs_from game board from)) (omega arith)
    (from_below (10000 * from) (10000 * from + 100 * 0) (10000 * from + 100 * 8)
    (map run_order (legal_runs_from game board from)) (omega arith)
    (pieces_rise run_order (legal_runs_between game board from) (λ to. 10000 * from + 100 * to) 8
    (λ to inside. between_rise game board from to)))))
