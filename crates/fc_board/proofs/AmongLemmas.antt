-- How far up the first cards of helper columns can come. A base is a card that is first in a helper column, known by its rank. From: this project; the rule for moving several cards at once in solitaire.
use Rattle.std.proofs.Common.{ap, arith, cond, get_or, inl, inr, map, None, Option, refl, set, Some}
use Rattle.std.{proofs.lemmas.List.Sums.{sum_by-cons}, specs.{List.{count_by}, Option.{is_none, option_to_list}}}
use Rattle.std.specs.Prelude.{◌++◌, ◌+◌, ◌<◌, ◌∷◌, ◌≡◌, ◌≤◌, ◌⊎◌, [], length, List, suc, zero, ℕ}
use Rattle.fc_board.specs.Steps.{Among}

-- a lower base, or the floor, is at most `reach` below the rank
abbrev pub IsInReach : ℕ → ℕ → List ℕ → ℕ → Type 0
IsInReach reach floor bases rank = (low : ℕ) × Among low (floor ∷ bases) × (low < rank) × (rank ≤ low + reach)

-- one base comes or goes, and a lower one, or the floor, is in its reach
pub record Changes (reach floor : ℕ) (bases others : List ℕ) : Type 0 where
  pub before : List ℕ
  pub base : ℕ
  pub after : List ℕ
  pub in_reach : IsInReach reach floor (before ++ after) base
  pub come_or_gone : ((bases ≡ before ++ after) × (others ≡ before ++ base ∷ after)) ⊎ ((bases ≡ before ++ base ∷ after) × (others ≡ before ++ after))

-- one change after another leads to no base at all, and there are never more than so many
pub data Clears (reach most floor : ℕ) : List ℕ → Type 0 where
  cleared : Clears reach most floor []
  changed : {bases others : List ℕ} → length bases ≤ most → Changes reach floor bases others → Clears reach most floor others →
      Clears reach most floor bases

-- how far above the floor a base can come, where there are so many at most
abbrev pub highest : ℕ → ℕ → ℕ
highest reach zero = 0
highest reach (suc most) = highest reach most + reach + highest reach most

-- ---- what is among the numbers of a list, and how a list ends
abbrev pub AllAmong : List ℕ → List ℕ → Type 0
AllAmong xs ys = (x : ℕ) → Among x xs → Among x ys

pub among_left : (x : ℕ) (xs ys : List ℕ) → Among x xs → Among x (xs ++ ys)
among_left x [] ys among = absurd among
among_left x (y ∷ xs) ys (inl same) = inl same
among_left x (y ∷ xs) ys (inr rest) = inr (among_left x xs ys rest)

pub among_right : (x : ℕ) (xs ys : List ℕ) → Among x ys → Among x (xs ++ ys)
among_right x [] ys among = among
among_right x (y ∷ xs) ys among = inr (among_right x xs ys among)

pub among_either : (x : ℕ) (xs ys : List ℕ) → Among x (xs ++ ys) → Among x xs ⊎ Among x ys
among_either x [] ys among = inr among
among_either x (y ∷ xs) ys (inl same) = inl (inl same)
among_either x (y ∷ xs) ys (inr rest) = elim (among_either x xs ys rest) [ inl left ↦ inl (inr left) | inr right ↦ inr right ]

pub among_map : (f : ℕ → ℕ) (x : ℕ) (xs : List ℕ) → Among x xs → Among (f x) (map f xs)
among_map f x [] among = absurd among
among_map f x (y ∷ xs) (inl same) = inl (ap f same)
among_map f x (y ∷ xs) (inr rest) = inr (among_map f x xs rest)

pub tail_empty : (xs ys : List ℕ) → xs ++ ys ≡ [] → ys ≡ []
tail_empty [] ys e = e
tail_empty (x ∷ xs) ys e = cc

-- a list that ends in x: either its second part is empty, or that part ends in x
pub last_split : (xs ys front : List ℕ) (x : ℕ) → xs ++ ys ≡ front ++ x ∷ [] →
    (ys ≡ []) ⊎ ((rest : List ℕ) × (ys ≡ rest ++ x ∷ []) × (front ≡ xs ++ rest))
last_split [] ys front x e = inr (front, e, refl)
last_split (y ∷ xs) ys [] x e = inl (tail_empty xs ys (cc))
last_split (y ∷ xs) ys (z ∷ front) x e = elim (last_split xs ys front x (cc)) [
  | inl none ↦ inl none
  | inr more ↦ inr (more.0, more.1, cc (more.2))
]

-- one item alone is the last one
pub only_one : (y x : ℕ) (rest : List ℕ) → y ∷ [] ≡ rest ++ x ∷ [] → y ≡ x
only_one y x [] e = cc
only_one y x (z ∷ rest) e = absurd (cc (tail_empty rest (x ∷ []) (cc)))

-- ---- what cells and columns hold now that were empty at the start

-- the cards that are held now in places that were empty before
abbrev pub newly : List (Option ℕ) → List (Option ℕ) → List ℕ
newly [] now = []
newly (was ∷ before) [] = []
newly (None ∷ before) (None ∷ now) = newly before now
newly (None ∷ before) (Some card ∷ now) = card ∷ newly before now
newly (Some other ∷ before) (is ∷ now) = newly before now

pub newly_few : (before now : List (Option ℕ)) → length (newly before now) ≤ count_by is_none before
newly_few [] now = omega arith
newly_few (was ∷ before) [] = omega arith
newly_few (None ∷ before) (None ∷ now) = omega (arith, newly_few before now, sum_by-cons (λ x. cond (is_none x) 1 0) None before)
newly_few (None ∷ before) (Some card ∷ now) = omega (arith, newly_few before now, sum_by-cons (λ x. cond (is_none x) 1 0) None before)
newly_few (Some other ∷ before) (is ∷ now) = omega (arith, newly_few before now, sum_by-cons (λ x. cond (is_none x) 1 0) (Some other) before)

pub newly_among : (before now : List (Option ℕ)) (k card : ℕ) → length before ≡ length now → get_or before k None ≡ None →
    get_or now k None ≡ Some card → Among card (newly before now)
newly_among [] [] k card same was is = cc
newly_among [] (here ∷ now) k card same was is = absurd (omega arith)
newly_among (was ∷ before) [] k card same was' is = absurd (omega arith)
newly_among (None ∷ before) (None ∷ now) zero card same was is = cc
newly_among (None ∷ before) (Some other ∷ now) zero card same was is = inl (cc)
newly_among (Some old ∷ before) (here ∷ now) zero card same was is = cc
newly_among (None ∷ before) (None ∷ now) (suc k) card same was is = newly_among before now k card (omega arith) was is
newly_among (None ∷ before) (Some other ∷ now) (suc k) card same was is = inr (newly_among before now k card (omega arith) was is)
newly_among (Some old ∷ before) (here ∷ now) (suc k) card same was is = newly_among before now k card (omega arith) was is

-- a place that was not empty before makes no difference
pub newly_beside : (before now : List (Option ℕ)) (k old : ℕ) (is : Option ℕ) → get_or before k None ≡ Some old →
    newly before (set now k is) ≡ newly before now
newly_beside [] now k old is was = cc
newly_beside (was ∷ before) [] k old is was' = refl
newly_beside (None ∷ before) (None ∷ now) zero old is was = cc
newly_beside (None ∷ before) (Some other ∷ now) zero old is was = cc
newly_beside (Some x ∷ before) (here ∷ now) zero old is was = refl
newly_beside (None ∷ before) (None ∷ now) (suc k) old is was = newly_beside before now k old is was
newly_beside (None ∷ before) (Some other ∷ now) (suc k) old is was = rw (newly_beside before now k old is was)
newly_beside (Some x ∷ before) (here ∷ now) (suc k) old is was = newly_beside before now k old is was

-- a place that was empty before holds its card between what is before it and after it
pub record Between (before now : List (Option ℕ)) (k : ℕ) : Type 0 where
  pub left : List ℕ
  pub right : List ℕ
  pub held : (is : Option ℕ) → newly before (set now k is) ≡ left ++ (option_to_list is ++ right)

pub newly_between : (before now : List (Option ℕ)) (k : ℕ) → length before ≡ length now → k < length now → get_or before k None ≡ None →
    Between before now k
newly_between [] [] k same inside was = absurd (omega arith)
newly_between [] (here ∷ now) k same inside was = absurd (omega arith)
newly_between (was ∷ before) [] k same inside was' = absurd (omega arith)
newly_between (None ∷ before) (here ∷ now) zero same inside was =
    record { left = []; right = newly before now; held = elim [ None ↦ refl | Some card ↦ refl ] }
newly_between (Some old ∷ before) (here ∷ now) zero same inside was = cc
newly_between (None ∷ before) (None ∷ now) (suc k) same inside was =
    let rest = newly_between before now k (omega arith) (omega arith) was in
    record { left = rest.left; right = rest.right; held = rest.held }
newly_between (None ∷ before) (Some other ∷ now) (suc k) same inside was =
    let rest = newly_between before now k (omega arith) (omega arith) was in
    record { left = other ∷ rest.left; right = rest.right; held = λ is. ap (λ l. other ∷ l) (rest.held is) }
newly_between (Some old ∷ before) (here ∷ now) (suc k) same inside was =
    let rest = newly_between before now k (omega arith) (omega arith) was in
    record { left = rest.left; right = rest.right; held = rest.held }
