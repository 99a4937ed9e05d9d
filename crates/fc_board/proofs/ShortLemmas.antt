-- How long an expansion is, by the numbers of cells, cards and helper columns.
use Rattle.std.proofs.Common.{◌%◌, ◌*◌, ◌++◌, ◌+◌, ◌-◌, ◌/◌, ◌<◌, ◌∙◌, ◌∷◌, ◌≡◌, ◌≤◌, [], ap, arith, Bool, cond, false}
use Rattle.std.proofs.Common.{inl, inr, leb, length, List, min, refl, subst, suc, sym, take, true, zero, ℕ}
use Rattle.std.proofs.lemmas.Bool.{agree_below, agree_below_at, cases_lt, Decides.{nat_tests}, leb-true}
use Rattle.std.proofs.lemmas.List.{length-append, length-take}
use Rattle.fc_board.specs.Moves.{expansion, half, move_between, over_cells}
use Rattle.fc_board.specs.declared.moves.{Place.TheVariants.{Column as ToColumn}, Source.TheVariants.{Cell as FromCell}}

-- `half` by the number of helpers
abbrev half_by : ℕ → ℕ → ℕ → ℕ
half_by reach count zero = reach
half_by reach count (suc more) = elim (leb count (2 * reach)) [ true ↦ reach | false ↦ half_by (2 * reach) count more ]

-- the length over so many helpers, where the cells and the target take `reach` cards
abbrev size : ℕ → ℕ → ℕ → ℕ
size zero reach count = 2 * min (count - 1) (reach - 1) + 1
size (suc more) reach count = elim (leb count reach) [
  | true ↦ 2 * min (count - 1) (reach - 1) + 1
  | false ↦ let high = half_by reach count more in size more reach (count - high) + (size more reach high + size more reach (count - high))
]

half_size : (reach count : ℕ) (spare_columns : List ℕ) → half reach count spare_columns ≡ half_by reach count (length spare_columns)
half_size reach count [] = refl
half_size reach count (helper ∷ spare_columns) =
    elim (leb count (2 * reach)) as
    (λ t. cond t reach (half (2 * reach) count spare_columns) ≡ elim t [ true ↦ reach | false ↦ half_by (2 * reach) count (length spare_columns) ]) [
      | true ↦ refl
      | false ↦ half_size (2 * reach) count spare_columns
    ]

over_size : (from to : ℕ) (cells : List ℕ) → length (over_cells from to cells) ≡ 2 * length cells + 1
over_size from to [] = refl
over_size from to (cell ∷ cells) =
    let n = over_size from to cells in omega (arith, length-append (over_cells from to cells) (move_between (FromCell cell) (ToColumn to) ∷ []))

direct_size : (from to count : ℕ) (cells : List ℕ) →
    length (over_cells from to (take (count - 1) cells)) ≡ 2 * min (count - 1) (length cells + 1 - 1) + 1
direct_size from to count cells = over_size from to (take (count - 1) cells) ∙ (let n = length-take (count - 1) cells in omega arith)

expansion_size : (spare_columns cells : List ℕ) (count from to : ℕ) →
    length (expansion cells count from to spare_columns) ≡ size (length spare_columns) (length cells + 1) count
expansion_size [] cells count from to = direct_size from to count cells
expansion_size (helper ∷ spare_columns) cells count from to =
    by_test (leb count (length cells + 1)) (half (length cells + 1) count spare_columns) (half_by (length cells + 1) count (length spare_columns))
    (half_size (length cells + 1) count spare_columns)
    (expansion_size spare_columns cells (count - half (length cells + 1) count spare_columns) from helper)
    (expansion_size spare_columns cells (half (length cells + 1) count spare_columns) from to)
    (expansion_size spare_columns cells (count - half (length cells + 1) count spare_columns) helper to)
  where
    by_test : (t : Bool) (high other : ℕ) → high ≡ other →
        length (expansion cells (count - high) from helper spare_columns) ≡ size (length spare_columns) (length cells + 1) (count - high) →
        length (expansion cells high from to spare_columns) ≡ size (length spare_columns) (length cells + 1) high →
        length (expansion cells (count - high) helper to spare_columns) ≡ size (length spare_columns) (length cells + 1) (count - high) →
        length (cond t (over_cells from to (take (count - 1) cells))
        (expansion cells (count - high) from helper
        spare_columns ++ (expansion cells high from to spare_columns ++ expansion cells (count - high) helper to spare_columns))) ≡
        elim t [
          | true ↦ 2 * min (count - 1) (length cells + 1 - 1) + 1
          | false ↦ size (length spare_columns) (length cells + 1)
              (count - other) + (size (length spare_columns) (length cells + 1) other + size (length spare_columns) (length cells + 1) (count - other))
        ]
    by_test true high other e a b c = direct_size from to count cells
    by_test false high other e a b c =
        length-append (expansion cells (count - high) from helper spare_columns)
        (expansion cells high from to spare_columns ++ expansion cells (count - high) helper to spare_columns) ∙
        ap (λ n. length (expansion cells (count - high) from helper spare_columns) + n)
        (length-append (expansion cells high from to spare_columns) (expansion cells (count - high) helper to spare_columns)) ∙
        (let x = ap (λ h. size (length spare_columns) (length cells + 1) (count - h)) e in let y = ap (size (length spare_columns) (length cells + 1)) e in omega
        arith)

few_over_cells : (more reach count : ℕ) → count ≤ reach → size (suc more) reach count ≡ 2 * min (count - 1) (reach - 1) + 1
few_over_cells more reach count few = grind (arith, nat_tests)

is_short : ℕ → Bool
is_short k = leb (size (k / 196) ((k / 14) % 14 + 1) (k % 14)) 49

all_short : agree_below is_short (λ _. true) 1764 ≡ true
unfolding is_short
all_short = refl

one_short : (k : ℕ) → k < 1764 → size (k / 196) ((k / 14) % 14 + 1) (k % 14) ≤ 49
unfolding is_short
one_short k small =
    omega (arith, leb-true (size (k / 196) ((k / 14) % 14 + 1) (k % 14)) 49 (agree_below_at is_short (λ _. true) 1764 k all_short small))

size_short : (more reach count : ℕ) → more ≤ 8 → 1 ≤ reach → reach ≤ 13 → count ≤ 13 → size more reach count ≤ 49
size_short more reach count a some b c =
    let k = more * 196 + (reach - 1) * 14 + count in
    let x : k / 196 ≡ more = omega arith in
    let y : (k / 14) % 14 + 1 ≡ reach = omega arith in
    let z : k % 14 ≡ count = omega arith in
    subst (λ n. size n reach count ≤ 49) x
    (subst (λ n. size (k / 196) n count ≤ 49) y (rw z at (one_short k (omega arith))))

size_small : (more reach count : ℕ) → more ≤ 8 → 1 ≤ reach → count ≤ 13 → size more reach count ≤ 49
size_small more reach count a some c = elim (cases_lt 13 reach) [
  | inl many ↦ over_many more reach count c many
  | inr few ↦ size_short more reach count a some few c
]
  where
    over_many : (m r n : ℕ) → n ≤ 13 → 13 < r → size m r n ≤ 49
    over_many zero r n c many = omega arith
    over_many (suc m) r n c many = let e = few_over_cells m r n (omega arith) in omega arith

pub short : (cells spare_columns : List ℕ) (count from to : ℕ) → count ≤ 13 → length spare_columns ≤ 8 →
    length (expansion cells count from to spare_columns) ≤ 49
short cells spare_columns count from to few eight =
    subst (λ n. n ≤ 49) (sym (expansion_size spare_columns cells count from to))
    (size_small (length spare_columns) (length cells + 1) count eight (omega arith) few)
