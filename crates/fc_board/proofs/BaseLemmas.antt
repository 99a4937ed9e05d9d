-- Bases stay low: what is above a boundary was put up over what is below it, and what is below it cannot go while it stays.
use Rattle.std.proofs.Common.{◌*◌, ◌++◌, ◌+◌, ◌<◌, ◌^◌, ◌∙◌, ◌∷◌, ◌≡◌, ◌≤◌, ◌⊎◌, [], ap, arith, cond, inl, inr, leb}
use Rattle.std.proofs.{Common.{length, List, refl, subst, suc, sym, zero, ℕ}, lemmas.Bool.{cases_lt}}
use Rattle.std.proofs.{lemmas.Bool.Decides.{nat_tests}, Math.Nat.{mul_assoc, pow-suc}}
use Rattle.fc_board.proofs.AmongLemmas.{Changes, Clears, Clears.{changed, cleared}, highest, IsInReach}
use Rattle.fc_board.specs.Steps.{Among}

-- ---- the bases up to a boundary, and those above it

abbrev low_part : ℕ → List ℕ → List ℕ
low_part edge [] = []
low_part edge (base ∷ bases) = cond (leb base edge) (base ∷ low_part edge bases) (low_part edge bases)

abbrev high_part : ℕ → List ℕ → List ℕ
high_part edge [] = []
high_part edge (base ∷ bases) = cond (leb base edge) (high_part edge bases) (base ∷ high_part edge bases)

low_kept : (edge base : ℕ) (bases : List ℕ) → base ≤ edge → low_part edge (base ∷ bases) ≡ base ∷ low_part edge bases
low_kept edge base bases low = grind (arith, nat_tests)

low_left : (edge base : ℕ) (bases : List ℕ) → edge < base → low_part edge (base ∷ bases) ≡ low_part edge bases
low_left edge base bases high = grind (arith, nat_tests)

high_kept : (edge base : ℕ) (bases : List ℕ) → edge < base → high_part edge (base ∷ bases) ≡ base ∷ high_part edge bases
high_kept edge base bases high = grind (arith, nat_tests)

high_left : (edge base : ℕ) (bases : List ℕ) → base ≤ edge → high_part edge (base ∷ bases) ≡ high_part edge bases
high_left edge base bases low = grind (arith, nat_tests)

low-append : (edge : ℕ) (xs ys : List ℕ) → low_part edge (xs ++ ys) ≡ low_part edge xs ++ low_part edge ys
low-append edge [] ys = refl
low-append edge (x ∷ xs) ys = elim (cases_lt edge x) [
  | inl above ↦ rw (low_left edge x (xs ++ ys) above, low_left edge x xs above, low-append edge xs ys)
  | inr below ↦ rw (low_kept edge x (xs ++ ys) below, low_kept edge x xs below, low-append edge xs ys)
]

high-append : (edge : ℕ) (xs ys : List ℕ) → high_part edge (xs ++ ys) ≡ high_part edge xs ++ high_part edge ys
high-append edge [] ys = refl
high-append edge (x ∷ xs) ys = elim (cases_lt edge x) [
  | inl above ↦ rw (high_kept edge x (xs ++ ys) above, high_kept edge x xs above, high-append edge xs ys)
  | inr below ↦ rw (high_left edge x (xs ++ ys) below, high_left edge x xs below, high-append edge xs ys)
]

both_parts : (edge : ℕ) (xs : List ℕ) → length (low_part edge xs) + length (high_part edge xs) ≡ length xs
both_parts edge [] = refl
both_parts edge (x ∷ xs) = elim (cases_lt edge x) [
  | inl above ↦ let a = ap length (low_left edge x xs above) in let b = ap length (high_kept edge x xs above) in omega (arith, both_parts edge xs)
  | inr below ↦ let a = ap length (low_kept edge x xs below) in let b = ap length (high_left edge x xs below) in omega (arith, both_parts edge xs)
]

among_low : (edge low : ℕ) (xs : List ℕ) → low ≤ edge → Among low xs → Among low (low_part edge xs)
among_low edge low [] inside among = among
among_low edge low (x ∷ xs) inside (inl same) = rw (low_kept edge x xs (rw same at inside)) (inl same)
among_low edge low (x ∷ xs) inside (inr rest) = elim (cases_lt edge x) [
  | inl above ↦ rw (low_left edge x xs above) (among_low edge low xs inside rest)
  | inr below ↦ rw (low_kept edge x xs below) (inr (among_low edge low xs inside rest))
]

among_high : (edge high : ℕ) (xs : List ℕ) → edge < high → Among high xs → Among high (high_part edge xs)
among_high edge high [] above among = among
among_high edge high (x ∷ xs) above (inl same) = rw (high_kept edge x xs (rw same at above)) (inl same)
among_high edge high (x ∷ xs) above (inr rest) = elim (cases_lt edge x) [
  | inl higher ↦ rw (high_kept edge x xs higher) (inr (among_high edge high xs above rest))
  | inr below ↦ rw (high_left edge x xs below) (among_high edge high xs above rest)
]

-- ---- a change is one of the part to which its base belongs

module _ (edge : ℕ) (before after : List ℕ) (base : ℕ) where
  low_without : low_part edge (before ++ after) ≡ low_part edge before ++ low_part edge after
  low_without = low-append edge before after

  low_with : base ≤ edge → low_part edge (before ++ base ∷ after) ≡ low_part edge before ++ base ∷ low_part edge after
  low_with below = rw (low-append edge before (base ∷ after), low_kept edge base after below)

  low_same : edge < base → low_part edge (before ++ base ∷ after) ≡ low_part edge (before ++ after)
  low_same above = rw (low-append edge before (base ∷ after), low_left edge base after above, low_without)

  high_without : high_part edge (before ++ after) ≡ high_part edge before ++ high_part edge after
  high_without = high-append edge before after

  high_with : edge < base → high_part edge (before ++ base ∷ after) ≡ high_part edge before ++ base ∷ high_part edge after
  high_with above = rw (high-append edge before (base ∷ after), high_kept edge base after above)

  high_same : base ≤ edge → high_part edge (before ++ base ∷ after) ≡ high_part edge (before ++ after)
  high_same below = rw (high-append edge before (base ∷ after), high_left edge base after below, high_without)

  -- a change at or below the edge is one of the low part
  low_change : (reach floor : ℕ) (bases others : List ℕ) → base ≤ edge → IsInReach reach floor (before ++ after) base →
      ((bases ≡ before ++ after) × (others ≡ before ++ base ∷ after)) ⊎ ((bases ≡ before ++ base ∷ after) × (others ≡ before ++ after)) →
      Changes reach floor (low_part edge bases) (low_part edge others)
  low_change reach floor bases others below (low, among, lower, near) way = record {
    before = low_part edge before;
    base = base;
    after = low_part edge after;
    in_reach = (
      low,
      elim among [
        | inl same ↦ inl same
        | inr there ↦ inr (rw low_without at (among_low edge low (before ++ after) (omega arith) there))
      ],
      lower,
      near,
    );
    come_or_gone = elim way [
      | inl come ↦ inl (ap (low_part edge) come.0 ∙ low_without, ap (low_part edge) come.1 ∙ low_with below)
      | inr gone ↦ inr (ap (low_part edge) gone.0 ∙ low_with below, ap (low_part edge) gone.1 ∙ low_without)
    ];
  }

  -- a change above the edge is one of the high part, whose floor is the edge
  high_change : (reach floor : ℕ) (bases others : List ℕ) → floor ≤ edge → edge < base → IsInReach reach floor (before ++ after) base →
      ((bases ≡ before ++ after) × (others ≡ before ++ base ∷ after)) ⊎ ((bases ≡ before ++ base ∷ after) × (others ≡ before ++ after)) →
      Changes reach edge (high_part edge bases) (high_part edge others)
  high_change reach floor bases others under above (low, among, lower, near) way = record {
    before = high_part edge before;
    base = base;
    after = high_part edge after;
    in_reach = elim (cases_lt edge low) [
      | inl high ↦ (
        low,
        elim among [
          | inl same ↦ absurd (omega arith)
          | inr there ↦ inr (rw high_without at (among_high edge low (before ++ after) high there))
        ],
        lower,
        near,
      )
      | inr small ↦ (edge, inl refl, above, omega arith)
    ];
    come_or_gone = elim way [
      | inl come ↦ inl (ap (high_part edge) come.0 ∙ high_without, ap (high_part edge) come.1 ∙ high_with above)
      | inr gone ↦ inr (ap (high_part edge) gone.0 ∙ high_with above, ap (high_part edge) gone.1 ∙ high_without)
    ];
  }

  low_unchanged : (bases others : List ℕ) → edge < base →
      ((bases ≡ before ++ after) × (others ≡ before ++ base ∷ after)) ⊎ ((bases ≡ before ++ base ∷ after) × (others ≡ before ++ after)) →
      low_part edge bases ≡ low_part edge others
  low_unchanged bases others above (inl come) = ap (low_part edge) come.0 ∙ sym (ap (low_part edge) come.1 ∙ low_same above)
  low_unchanged bases others above (inr gone) = ap (low_part edge) gone.0 ∙ low_same above ∙ sym (ap (low_part edge) gone.1)

  high_unchanged : (bases others : List ℕ) → base ≤ edge →
      ((bases ≡ before ++ after) × (others ≡ before ++ base ∷ after)) ⊎ ((bases ≡ before ++ base ∷ after) × (others ≡ before ++ after)) →
      high_part edge bases ≡ high_part edge others
  high_unchanged bases others below (inl come) = ap (high_part edge) come.0 ∙ sym (ap (high_part edge) come.1 ∙ high_same below)
  high_unchanged bases others below (inr gone) = ap (high_part edge) gone.0 ∙ high_same below ∙ sym (ap (high_part edge) gone.1)

-- a change can be taken back
pub taken_back : (reach floor : ℕ) (bases others : List ℕ) → Changes reach floor bases others → Changes reach floor others bases
taken_back reach floor bases others change = record {
  before = change.before;
  base = change.base;
  after = change.after;
  in_reach = change.in_reach;
  come_or_gone = elim change.come_or_gone [ inl come ↦ inr (come.1, come.0) | inr gone ↦ inl (gone.1, gone.0) ];
}

pub at_most : (reach most floor : ℕ) (bases : List ℕ) → Clears reach most floor bases → length bases ≤ most
at_most reach most floor bases cleared = omega arith
at_most reach most floor bases (changed few change rest) = few

empty_or_not : (xs : List ℕ) → (xs ≡ []) ⊎ (1 ≤ length xs)
empty_or_not [] = inl refl
empty_or_not (x ∷ xs) = inr (omega arith)

in_middle : (x : ℕ) (xs ys : List ℕ) → Among x (xs ++ x ∷ ys)
in_middle x [] ys = inl refl
in_middle x (y ∷ xs) ys = inr (in_middle x xs ys)

some_among : (x : ℕ) (xs : List ℕ) → Among x xs → 1 ≤ length xs
some_among x [] among = absurd among
some_among x (y ∷ ys) among = omega arith

-- ---- with one base more

module _ (reach most floor edge : ℕ) (at_edge : edge ≡ floor + highest reach most + reach)
    (fewer_stay_low : (bases : List ℕ) → Clears reach most floor bases → (base : ℕ) → Among base bases → base ≤ floor + highest reach most) where
  -- the low part leads to bases of which one is higher than it could be if it led to none
  abbrev HoldsUp : List ℕ → Type 0
  HoldsUp low =
      (others : List ℕ) × (high : ℕ) × Among high
      others × (floor + highest reach most < high) × (Clears reach most floor low → Clears reach most floor others)

  not_without : (low : List ℕ) → HoldsUp low → low ≡ [] → ⊥
  not_without low (others, high, among, above, leads) none =
      let clears = leads (rw none cleared) in
      omega (arith, fewer_stay_low others clears high among)

  abbrev IsHeldUp : List ℕ → Type 0
  IsHeldUp bases = (high_part edge bases ≡ []) ⊎ HoldsUp (low_part edge bases)

  few_above : (bases : List ℕ) → length bases ≤ suc most → IsHeldUp bases → length (high_part edge bases) ≤ most
  few_above bases few (inl none) = let e = ap length none in omega arith
  few_above bases few (inr held) = elim (empty_or_not (low_part edge bases)) [
    | inl none ↦ absurd (not_without (low_part edge bases) held none)
    | inr some ↦ omega (arith, both_parts edge bases)
  ]

  record Stands (bases : List ℕ) : Type 0 where
    above : Clears reach most edge (high_part edge bases)
    held_up : IsHeldUp bases

  low_step : (bases others : List ℕ) → length others ≤ suc most → (change : Changes reach floor bases others) → change.base ≤ edge → Stands others →
      Stands bases
  low_step bases others few change below stands =
      let same = high_unchanged edge change.before change.after change.base bases others below change.come_or_gone in
      let back = low_change edge change.before change.after change.base reach floor bases others below change.in_reach change.come_or_gone in
      record {
        above = rw same stands.above;
        held_up = elim stands.held_up [
          | inl none ↦ inl (same ∙ none)
          | inr held ↦ elim (empty_or_not (high_part edge others)) [
            | inl none ↦ inl (same ∙ none)
            | inr some ↦ inr (
              held.0,
              held.1,
              held.2,
              held.3,
              λ clears. held.4
                  (changed (omega (arith, both_parts edge others)) (taken_back reach floor (low_part edge bases) (low_part edge others) back) clears),
            )
          ]
        ];
      }

  not_in_none : (x : ℕ) (xs : List ℕ) → xs ≡ [] → Among x xs → ⊥
  not_in_none x xs none among = rw none at among

  first_above_by : (bases others before after : List ℕ) (base : ℕ) → edge < base → high_part edge others ≡ [] →
      IsInReach reach floor (before ++ after) base →
      ((bases ≡ before ++ after) × (others ≡ before ++ base ∷ after)) ⊎ ((bases ≡ before ++ base ∷ after) × (others ≡ before ++ after)) →
      HoldsUp (low_part edge bases)
  first_above_by bases others before after base above none in_reach (inl come) =
      absurd (not_in_none base (high_part edge others) none
      (rw come.1 (among_high edge base (before ++ base ∷ after) above (in_middle base before after))))
  first_above_by bases others before after base above none (low, inl same, lower, near) (inr gone) = absurd (omega arith)
  first_above_by bases others before after base above none (low, inr among, lower, near) (inr gone) = elim (cases_lt edge low) [
    | inl high ↦ absurd (not_in_none low (high_part edge others) none
        (rw gone.1 (among_high edge low (before ++ after) high among)))
    | inr small ↦ (
      low_part edge bases,
      low,
      subst (Among low) (sym (ap (low_part edge) gone.0 ∙ low_same edge before after base above))
          (among_low edge low (before ++ after) small among),
      omega arith,
      λ clears. clears,
    )
  ]

  -- the first base above the edge is over a high one of the low part
  first_above : (bases others : List ℕ) → (change : Changes reach floor bases others) → edge < change.base → high_part edge others ≡ [] →
      1 ≤ length (high_part edge bases) → HoldsUp (low_part edge bases)
  first_above bases others change above none some =
      first_above_by bases others change.before change.after change.base above none change.in_reach change.come_or_gone

  high_step : (bases others : List ℕ) → length bases ≤ suc most → (change : Changes reach floor bases others) → edge < change.base → Stands others →
      Stands bases
  high_step bases others few change above stands =
      let same = low_unchanged edge change.before change.after change.base bases others above change.come_or_gone in
      let up = high_change edge change.before change.after change.base reach floor bases others (omega arith) above change.in_reach
      change.come_or_gone in
      let held : IsHeldUp bases = elim (empty_or_not (high_part edge bases)) [
        | inl none ↦ inl none
        | inr some ↦ elim stands.held_up [
          | inl none ↦ inr (first_above bases others change above none some)
          | inr held ↦ inr (rw same held)
        ]
      ] in
      record {
        above = changed (few_above bases few held) up stands.above;
        held_up = held;
      }

  stands : (bases : List ℕ) → Clears reach (suc most) floor bases → Stands bases
  stands bases cleared = record { above = cleared; held_up = inl refl }
  stands bases (changed {bases = b} {others = others} few change rest) = elim (cases_lt edge change.base) [
    | inl above ↦ high_step bases others few change above (stands others rest)
    | inr below ↦ low_step bases others (at_most reach (suc most) floor others rest) change below (stands others rest)
  ]

pub stays_low : (reach most floor : ℕ) (bases : List ℕ) → Clears reach most floor bases → (base : ℕ) → Among base bases →
    base ≤ floor + highest reach most
stays_low reach zero floor bases clear base among = absurd (omega (arith, at_most reach 0 floor bases clear, some_among base bases among))
stays_low reach (suc most) floor bases clears base among =
    let edge = floor + highest reach most + reach in
    let stand : Stands reach most floor edge refl (stays_low reach most floor) bases = stands reach most floor edge refl (stays_low reach most floor)
    bases clears in
    elim (cases_lt edge base) [
      | inl above ↦ omega (arith, stays_low reach most edge (high_part edge bases) stand.above base (among_high edge base bases above among))
      | inr below ↦ omega arith
    ]

-- ---- a list with every number between two others

pub holds_all : (high low : ℕ) (xs : List ℕ) → ((x : ℕ) → low < x → x < high → Among x xs) → high ≤ low + 1 + length xs
holds_all zero low xs all = omega arith
holds_all (suc zero) low xs all = omega arith
holds_all (suc (suc e)) low xs all = elim (cases_lt low (suc e)) [
  | inl inside ↦
      let rest = holds_all (suc e) low (low_part e xs) (λ x a b. among_low e x xs (omega arith) (all x a (omega arith))) in
      let top = some_among (suc e) (high_part e xs) (among_high e (suc e) xs (omega arith) (all (suc e) inside (omega arith))) in
      omega (arith, both_parts e xs)
  | inr past ↦ omega arith
]

-- ---- what the highest base is

pub highest-pow : (reach most : ℕ) → highest reach most + reach ≡ reach * 2 ^ most
highest-pow reach zero = omega arith
highest-pow reach (suc most) =
    let half = highest-pow reach most in
    let double : reach * 2 ^ suc most ≡ reach * 2 ^ most + reach * 2 ^ most = ap (λ n. reach * n) (pow-suc 2 most)
    ∙ sym (mul_assoc reach (2 ^ most) 2) ∙ mul_two (reach * 2 ^ most) in
    omega arith
  where
    mul_two : (n : ℕ) → n * 2 ≡ n + n
    mul_two n = omega arith
