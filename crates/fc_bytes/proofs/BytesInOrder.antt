-- Eight bytes in another order, by lanes.
use lib.Lanes.{zip2}
use mir.Syntax.{w8}
use Rattle.std.proofs.Common.{◌%◌, ◌*◌, ◌++◌, ◌+◌, ◌-◌, ◌/◌, ◌<◌, ◌∙◌, ◌≡◌, ◌≤◌, ap, arith, drop, get_or, inl, inr}
use Rattle.std.proofs.Common.{length, length-append, List, map, refl, replicate, slice_index, suc, sym, take, ℕ}
use Rattle.std.proofs.lemmas.{Bool.{cases_lt}, List.{FromFn.{length-map-range_with_len}, get_or-drop, get_or-replicate}}
use Rattle.std.proofs.lemmas.List.{get_or-take, length-drop, length-replicate, length-take-le}
use Rattle.std.proofs.lemmas.Simd.{Each1-from_get_or, get_or-swz_l_below, get_or-zip2, length-zip2, swz_l, SwzOk}
use Rattle.std.proofs.{lemmas.Simd.{SwzOk-from_below}, Math.{ListN.{get_or-append}, Seq.{get_or-append_right}}}
use Rattle.fc_card.specs.{AllBelow, IsOrder, laws.OrderLaws.{get_or-pick, length-pick}, pick, places}
use Rattle.fc_board.{proofs.ColumnsLemmas.{is_between}, specs.inside.{AreBounds, columns_between}}
use Rattle.fc_bytes.{proofs.{DecodedLemmas.{all_places}, LaidBytes.{lengths-there}}, specs.{padded}}

-- the bytes, and 0 after them
abbrev pub row : List ℕ → List ℕ
row bytes = map (slice_index bytes) (places 8) ++ replicate 8 0

module _ (bytes order lanes : List ℕ) (eight : length bytes ≡ 8) (count : length order ≡ 8)
    (is : IsOrder order) (are : lanes ≡ padded 16 order) where
  long : length lanes ≡ 16
  long =
      let same = ap length are in
      omega (
        arith,
        same,
        length-append order (drop (length order) (replicate 16 0)),
        length-drop (length order) (replicate {A = ℕ} 16 0),
        length-replicate {A = ℕ} 16 0,
        count,
      )

  small : (k : ℕ) → k < 8 → get_or order k 0 < 8
  small k less = omega (arith, is.within k (omega (arith, less, count)), count)

  below : AllBelow (length bytes) order
  below = λ k inside. omega (arith, small k (omega (arith, inside, count)), eight)

  lane-there : (k : ℕ) → k < 8 → get_or lanes k 0 ≡ get_or order k 0
  lane-there k less =
      ap (λ lanes. get_or lanes k 0) are
      ∙ get_or-append order (drop (length order) (replicate 16 0)) 0 k (omega (arith, less, count))

  lane-after : (k : ℕ) → 8 ≤ k → k < 16 → get_or lanes k 0 ≡ 0
  lane-after k past inside =
      ap (λ lanes. get_or lanes k 0) are
      ∙ get_or-append_right order (drop (length order) (replicate 16 0)) k 0 (omega (arith, past, count))
      ∙ get_or-drop (length order) (replicate 16 0) (k - length order) 0
      ∙ get_or-replicate 16 (length order + (k - length order)) 0 0 (omega (arith, inside, past, count))

  lane-below : (k : ℕ) → k < 16 → get_or lanes k 0 < 16
  lane-below k inside = elim (cases_lt k 8) [
    | inl less ↦ omega (arith, lane-there k less, small k less)
    | inr past ↦ omega (arith, lane-after k past inside)
  ]

  pub can-order : SwzOk w8 16 16 0 lanes
  can-order =
      SwzOk-from_below w8 16 1 16 0 lanes refl (omega (arith, long))
      (Each1-from_get_or (λ lane. lane < 16) lanes 0
      (λ k inside. lane-below k (omega (arith, inside, long))))

  pub bytes-in-order : map (slice_index (swz_l w8 16 (row bytes) 0 lanes)) (places 8) ≡ pick bytes order
  bytes-in-order =
      all_places (slice_index (swz_l w8 16 (row bytes) 0 lanes)) (pick bytes order) 0 8
      (length-pick bytes order below ∙ count) (λ k less.
      let there = lane-there k less in
      let at : 16 * ((0 + k) / 16) + get_or lanes k 0 ≡ get_or order k 0 = omega (arith, less, there) in
      get_or-swz_l_below w8 16 (row bytes) 0 lanes k (omega (arith, less, long))
      (lane-below k (omega (arith, less)))
      ∙ ap (λ at. get_or (row bytes) at 0) at
      ∙ get_or-append (map (slice_index bytes) (places 8)) (replicate 8 0) 0 (get_or order k 0)
      (omega (arith, small k less, length-map-range_with_len (slice_index bytes) 0 8))
      ∙ ap (λ bytes. get_or bytes (get_or order k 0) 0)
      (all_places (slice_index bytes) bytes 0 8 eight (λ i inside. refl))
      ∙ sym (get_or-pick bytes order k 0 below (omega (arith, less, count))))

-- ---- a bound less the one before it
abbrev less_lane : ℕ → ℕ → ℕ
less_lane stop start = (stop + (256 - start)) % 256

pub lengths-lanes : (cards bounds : List ℕ) → AreBounds bounds 52 → length bounds ≡ 9 → 52 ≤ length cards →
    zip2 less_lane (take 8 (drop 1 bounds)) (take 8 bounds) ≡ map length (columns_between cards bounds)
lengths-lanes cards bounds up nine room =
    let stops = take 8 (drop 1 bounds) in
    let starts = take 8 bounds in
    let stops-long : length stops ≡ 8 = length-take-le 8 (drop 1 bounds) (omega (arith, length-drop 1 bounds, nine)) in
    let starts-long : length starts ≡ 8 = length-take-le 8 bounds (omega (arith, nine)) in
    lengths-there cards bounds (zip2 less_lane stops starts) up nine room
    (length-zip2 less_lane stops starts (stops-long ∙ sym starts-long) ∙ stops-long) (λ k less.
    let within = is_between bounds k up (omega (arith, less, nine)) in
    let next : suc k ≡ k + 1 = omega arith in
    let next' : 1 + k ≡ k + 1 = omega arith in
    let begins : get_or bounds k 0 ≤ get_or bounds (k + 1) 0 =
    omega (arith, within.begins, ap (λ n. get_or bounds n 0) next) in
    let ends : get_or bounds (k + 1) 0 ≤ 52 = omega (arith, within.stops, ap (λ n. get_or bounds n 0) next) in
    let less' : (get_or bounds (k + 1) 0 + (256 - get_or bounds k 0)) % 256 ≡ get_or bounds (k + 1) 0 - get_or bounds k 0 =
    omega (arith, begins, ends) in
    get_or-zip2 less_lane stops starts k 0 0 0 (omega (arith, less, stops-long)) (omega (arith, less, starts-long))
    ∙ (λ i. less_lane ((get_or-take 8 (drop 1 bounds) k 0 less ∙ get_or-drop 1 bounds k 0
    ∙ ap (λ n. get_or bounds n 0) next') i) (get_or-take 8 bounds k 0 less i))
    ∙ less')
