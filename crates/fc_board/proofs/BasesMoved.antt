-- How bases come and go, one at a time.
use Rattle.std.proofs.Common.{◌++◌, ◌<◌, ◌∙◌, ◌∷◌, ◌≡◌, ◌≢◌, ◌≤◌, ap, arith, get_or, inl, inr, length, List, map, None}
use Rattle.std.proofs.Common.{Option, refl, set, Some, subst, sym, ℕ}
use Rattle.std.{proofs.lemmas.List.{length-append, length-map, map-append, set-get_or}, specs.List.{count_by}}
use Rattle.std.specs.Option.{is_none}
use Rattle.fc_card.specs.{rank_of}
use Rattle.fc_board.proofs.AmongLemmas.{among_either, among_left, among_right, Between, Changes, Clears}
use Rattle.fc_board.proofs.AmongLemmas.{Clears.{changed}, IsInReach, newly, newly_beside, newly_between, newly_few}
use Rattle.fc_board.{proofs.{BaseLemmas.{at_most}, StandLemmas.{bases}}, specs.Steps.{Among}}

module _ (before now : List (Option ℕ)) (k card : ℕ) where
  -- what is there is taken
  with_it : (b : Between before now k) → get_or now k None ≡ Some card → bases before now ≡ map rank_of b.left ++ rank_of card ∷ map rank_of b.right
  with_it b is =
      ap (λ l. map rank_of (newly before l)) (sym (ap (set now k) (sym is) ∙ set-get_or now k None)) ∙ ap (map rank_of) (b.held (Some card))
      ∙ map-append rank_of b.left (card ∷ b.right)

  without_it : (b : Between before now k) → bases before (set now k None) ≡ map rank_of b.left ++ map rank_of b.right
  without_it b = ap (map rank_of) (b.held None) ∙ map-append rank_of b.left b.right

  none_there : (b : Between before now k) → get_or now k None ≡ None → bases before now ≡ map rank_of b.left ++ map rank_of b.right
  none_there b is = rw (← ap (set now k) (sym is) ∙ set-get_or now k None) (without_it b)

  with_new : (b : Between before now k) → bases before (set now k (Some card)) ≡ map rank_of b.left ++ rank_of card ∷ map rank_of b.right
  with_new b = ap (map rank_of) (b.held (Some card)) ∙ map-append rank_of b.left (card ∷ b.right)

  -- without the base of this rank
  kept_beside : (b : Between before now k) → get_or now k None ≡ Some card → (low : ℕ) → low ≢ rank_of card → Among low (bases before now) →
      Among low (bases before (set now k None))
  kept_beside b is low other among =
      subst (Among low) (sym (without_it b))
      (elim (among_either low (map rank_of b.left) (rank_of card ∷ map rank_of b.right) (rw (with_it b is) at among)) [
        | inl left ↦ among_left low (map rank_of b.left) (map rank_of b.right) left
        | inr (inl same) ↦ absurd (other same)
        | inr (inr right) ↦ among_right low (map rank_of b.left) (map rank_of b.right) right
      ])

  gone : (b : Between before now k) → get_or now k None ≡ Some card → (reach most floor : ℕ) →
      IsInReach reach floor (bases before (set now k None)) (rank_of card) →
      Clears reach most floor (bases before now) → Clears reach most floor (bases before (set now k None))
  gone b is reach most floor in_reach clears =
      let change : Changes reach floor (bases before (set now k None)) (bases before now) = record {
        before = map rank_of b.left;
        base = rank_of card;
        after = map rank_of b.right;
        in_reach = rw (without_it b) at in_reach;
        come_or_gone = inl (without_it b, with_it b is);
      } in
      let few = at_most reach most floor (bases before now) clears in
      let a = ap length (with_it b is) ∙ length-append (map rank_of b.left) (rank_of card ∷ map rank_of b.right) in
      let c = ap length (without_it b) ∙ length-append (map rank_of b.left) (map rank_of b.right) in
      changed (omega arith) change clears

  come : (b : Between before now k) → get_or now k None ≡ None → (reach most floor : ℕ) → IsInReach reach floor (bases before now) (rank_of card) →
      count_by is_none before ≤ most →
      Clears reach most floor (bases before now) → Clears reach most floor (bases before (set now k (Some card)))
  come b is reach most floor in_reach few clears =
      let change : Changes reach floor (bases before (set now k (Some card))) (bases before now) = record {
        before = map rank_of b.left;
        base = rank_of card;
        after = map rank_of b.right;
        in_reach = rw (none_there b is) at in_reach;
        come_or_gone = inr (with_new b, none_there b is);
      } in
      changed (omega (arith, length-map (newly before (set now k (Some card))) rank_of, newly_few before (set now k (Some card)))) change clears

-- a lower base, or the floor, of another rank stays in reach
pub record Taken (reach most floor card : ℕ) (olds news : List ℕ) : Type 0 where
  pub clears : Clears reach most floor news
  pub in_reach : IsInReach reach floor news card

-- the column at this place loses its first card
pub first_taken : (before now : List (Option ℕ)) (k card reach most floor : ℕ) → length before ≡ length now → k < length now →
    get_or now k None ≡ Some card →
    IsInReach reach floor (bases before now) (rank_of card) → Clears reach most floor (bases before now) → (was : Option ℕ) →
    get_or before k None ≡ was →
    Taken reach most floor (rank_of card) (bases before now) (bases before (set now k None))
first_taken before now k card reach most floor same inside is in_reach clears (Some old) was =
    let e = ap (map rank_of) (newly_beside before now k old None was) in
    record { clears = rw e clears; in_reach = rw e in_reach }
first_taken before now k card reach most floor same inside is (low, among, lower, near) clears None was =
    let b = newly_between before now k same inside was in
    let still : IsInReach reach floor (bases before (set now k None)) (rank_of card) = (
      low,
      elim among [ inl at ↦ inl at | inr there ↦ inr (kept_beside before now k card b is low (λ e. absurd (omega arith)) there) ],
      lower,
      near,
    ) in
    record { clears = gone before now k card b is reach most floor still clears; in_reach = still }

-- the column at this place gets a first card
pub first_put : (before now : List (Option ℕ)) (k card reach most floor : ℕ) → length before ≡ length now → k < length now →
    get_or now k None ≡ None →
    IsInReach reach floor (bases before now) (rank_of card) → Clears reach most floor (bases before now) → (was : Option ℕ) →
    get_or before k None ≡ was →
    (was ≡ None → count_by is_none before ≤ most) → Clears reach most floor (bases before (set now k (Some card)))
first_put before now k card reach most floor same inside is in_reach clears (Some old) was few =
    rw (ap (map rank_of) (newly_beside before now k old (Some card) was)) clears
first_put before now k card reach most floor same inside is in_reach clears None was few =
    come before now k card (newly_between before now k same inside was) is reach most floor in_reach (few refl) clears
