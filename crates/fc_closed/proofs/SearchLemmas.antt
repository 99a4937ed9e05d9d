-- What a search by halves knows of keys that ascend.
use Rattle.std.proofs.Common.{◌+◌, ◌-◌, ◌<◌, ◌≡◌, ◌≤◌, arith, get_or, inl, inr, length, List, subst, suc, sym, zero, ℕ}
use Rattle.std.proofs.lemmas.{Bool.{cases_lt}, Cmp.{nat_list_cmp_total}, List.{get_or_default}}
use Rattle.std.specs.List.{AllPairs, Contains}
use Rattle.{fc_bytes.specs.{all_bytes}, fc_text.{proofs.TextLemmas.{not_itself}, specs.Bytes.{IsLess}}}
use Rattle.{fc_bytes.specs.declared.board.BoardBytes.{BoardBytes}, fc_closed.specs.{IsAbove}}

-- each key is above the one before it
abbrev pub Ascend : List BoardBytes → Type 0
Ascend keys = (place : ℕ) → place < length keys → IsAbove keys place

-- and so above each before it
ascend_far : (keys : List BoardBytes) → Ascend keys → (more i : ℕ) (d : BoardBytes) → i + suc more < length keys →
    IsLess (all_bytes (get_or keys i d)) (all_bytes (get_or keys (i + suc more) d))
ascend_far keys up zero i d within = up (i + 1) within i d (omega arith)
ascend_far keys up (suc more) i d within =
    let nearer = ascend_far keys up more i d (omega (arith, within)) in
    let next : i + suc more + 1 ≡ i + suc (suc more) = omega arith in
    let last = up (i + suc (suc more)) within (i + suc more) d next in
    nat_list_cmp_total.trans (all_bytes (get_or keys i d)) (all_bytes (get_or keys (i + suc more) d)) (all_bytes (get_or keys (i + suc (suc more)) d)) nearer last

pub ascend_all : (keys : List BoardBytes) → Ascend keys →
    AllPairs (λ key next. IsLess (all_bytes key) (all_bytes next)) keys
ascend_all keys up i j d lower within =
    let between : i + suc (j - suc i) ≡ j = omega (arith, lower) in
    subst (λ j. IsLess (all_bytes (get_or keys i d)) (all_bytes (get_or keys j d))) between
    (ascend_far keys up (j - suc i) i d (omega (arith, between, within)))

pub before_more : (keys : List BoardBytes) (child : List ℕ) (middle : ℕ) (blank : BoardBytes) → middle < length keys →
    IsLess (all_bytes (get_or keys middle blank)) child → Ascend keys → (k : ℕ) (default : BoardBytes) → k < middle + 1 →
    IsLess (all_bytes (get_or keys k default)) child
before_more keys child middle blank inside less up k default below =
    let here : IsLess (all_bytes (get_or keys middle default)) child = subst (λ key. IsLess (all_bytes key) child) (get_or_default keys middle blank default inside) less in
    elim (cases_lt k middle) [
      | inl earlier ↦ nat_list_cmp_total.trans (all_bytes (get_or keys k default)) (all_bytes (get_or keys middle default)) child (ascend_all keys up k middle default earlier inside) here
      | inr past ↦ let same : middle ≡ k = omega (arith, below, past) in subst (λ k. IsLess (all_bytes (get_or keys k default)) child) same here
    ]

pub after_less : (keys : List BoardBytes) (child : List ℕ) (middle : ℕ) (blank : BoardBytes) → middle < length keys →
    ¬ IsLess (all_bytes (get_or keys middle blank)) child → Ascend keys → (k : ℕ) (default : BoardBytes) → middle ≤ k → k < length keys →
    ¬ IsLess (all_bytes (get_or keys k default)) child
after_less keys child middle blank inside not_less up k default past within less =
    let same_default = get_or_default keys middle blank default inside in
    elim (cases_lt middle k) [
      | inl later ↦
          let below = nat_list_cmp_total.trans (all_bytes (get_or keys middle default)) (all_bytes (get_or keys k default)) child (ascend_all keys up middle k default later within) less in
          not_less (subst (λ key. IsLess (all_bytes key) child) (sym same_default) below)
      | inr here ↦
          let same : k ≡ middle = omega (arith, past, here) in
          not_less (subst (λ key. IsLess (all_bytes key) child) (sym same_default) (subst (λ k. IsLess (all_bytes (get_or keys k default)) child) same less))
    ]

pub absent : (keys : List BoardBytes) (child : BoardBytes) (at : ℕ) → Ascend keys →
    ((k : ℕ) (default : BoardBytes) → k < at → IsLess (all_bytes (get_or keys k default)) (all_bytes child)) →
    ((k : ℕ) (default : BoardBytes) → at ≤ k → k < length keys → ¬ IsLess (all_bytes (get_or keys k default)) (all_bytes child)) →
    (at < length keys → ¬ (get_or keys at child ≡ child)) → ¬ Contains keys child
absent keys child at up before after other (k, within, is) = elim (cases_lt k at) [
  | inl earlier ↦ not_itself nat_list_cmp_total (all_bytes child) (subst (λ key. IsLess (all_bytes key) (all_bytes child)) is (before k child earlier))
  | inr past ↦ elim (cases_lt at k) [
    | inl later ↦
        let less = subst (λ key. IsLess (all_bytes (get_or keys at child)) (all_bytes key)) is (ascend_all keys up at k child later within) in
        let low : at ≤ at = omega arith in
        after at child low (omega (arith, later, within)) less
    | inr here ↦
        let same : k ≡ at = omega (arith, past, here) in
        other (omega (arith, same, within)) (subst (λ k. get_or keys k child ≡ child) same is)
  ]
]
