-- The bounds of columns are shifted eight at a time.
use lib.Lanes.{put_chunk, sel_l, top, zip2}
use Rattle.std.proofs.Common.{◌%◌, ◌+◌, ◌-◌, ◌<◌, ◌∙◌, ◌∷◌, ◌≡◌, ◌≤◌, [], ap, arith, Bool, cond, drop, false, get_or}
use Rattle.std.proofs.{Common.{length, List, ltb, map, refl, suc, sym, take, true, ℕ}, lemmas.Bool.Decides.{nat_tests}}
use Rattle.std.proofs.lemmas.{List.{ext_get_or, take_all}, Simd.{get_or-zip2, length-zip2, put_chunk_whole}}
use Rattle.std.specs.Prelude.{nat_le}
use Rattle.fc_board.proofs.ColumnsLemmas.{get_or-lowered, get_or-raised, length-lowered, length-raised}
use Rattle.fc_board.specs.inside.{lowered, raised}

abbrev pub less_lane : ℕ → ℕ → ℕ
less_lane a b = cond (ltb a b) 255 0

abbrev pub minus_lane : ℕ → ℕ → ℕ
minus_lane a b = (a + (256 - b)) % 256

abbrev pub plus_lane : ℕ → ℕ → ℕ
plus_lane a b = (a + b) % 256

-- one lane lower, and not below 0
abbrev pub lower_lane : ℕ → ℕ → ℕ
lower_lane a b = minus_lane (cond (top 7 (less_lane a b)) b a) b

lower_lane-right : (a b : ℕ) → a < 256 → b < 256 → lower_lane a b ≡ a - b
lower_lane-right a b small few = by_test (ltb a b) (grind (arith, nat_tests)) (grind (arith, nat_tests))
  where
    by_test : (less : Bool) → (less ≡ true → a < b) → (less ≡ false → b ≤ a) → (cond (top 7 (cond less 255 0)) b a + (256 - b)) % 256 ≡ a - b
    by_test true less not_less = let there = less refl in omega arith
    by_test false less not_less = let there = not_less refl in omega arith

lanes_lowered : (ends steps : List ℕ) →
    zip2 minus_lane (sel_l (map (top 7) (zip2 less_lane ends steps)) steps ends) steps ≡ zip2 lower_lane ends steps
lanes_lowered [] steps = refl
lanes_lowered (end ∷ ends) [] = refl
lanes_lowered (end ∷ ends) (step ∷ steps) = rw (lanes_lowered ends steps)

-- the count for the lanes from this column on, and 0 for those before it
pub record AreSteps (column count : ℕ) (steps : List ℕ) : Type 0 where
  pub eight : length steps ≡ 8
  pub small : count < 256
  pub each : (place : ℕ) → place < 8 → get_or steps place 0 ≡ cond (nat_le column place) count 0

step_small : (column count : ℕ) (steps : List ℕ) → AreSteps column count steps → (place : ℕ) → place < 8 → get_or steps place 0 < 256
step_small column count steps are place inside = by_test (nat_le column place) (are.each place inside)
  where
    by_test : (test : Bool) → get_or steps place 0 ≡ cond test count 0 → get_or steps place 0 < 256
    by_test true is = let small = are.small in omega arith
    by_test false is = omega arith

pub lowered_lanes : (bounds steps : List ℕ) (column count : ℕ) → length bounds ≡ 9 → ((place : ℕ) → get_or bounds place 0 < 256) →
    AreSteps column count steps →
    put_chunk 1 bounds (zip2 minus_lane (sel_l (map (top 7) (zip2 less_lane (take 8 (drop 1 bounds)) steps)) steps (take 8 (drop 1 bounds))) steps)
    ≡ lowered count (column + 1) bounds
lowered_lanes [] steps column count nine small are = absurd (omega arith)
lowered_lanes (start ∷ ends) steps column count nine small are =
    let eight : length ends ≡ 8 = omega arith in
    let steps_eight = are.eight in
    let long : length (zip2 lower_lane ends steps) ≡ 8 = length-zip2 lower_lane ends steps (eight ∙ sym steps_eight) ∙ eight in
    let next : suc column ≡ column + 1 = omega arith in
    (λ i. start ∷ put_chunk 0 ends (zip2 minus_lane (sel_l (map (top 7) (zip2 less_lane (take_all 8 ends (omega arith) i) steps)) steps (take_all 8 ends (omega arith) i)) steps))
    ∙ ap (λ lanes. start ∷ put_chunk 0 ends lanes) (lanes_lowered ends steps)
    ∙ ap (λ lanes. start ∷ lanes) (put_chunk_whole ends (zip2 lower_lane ends steps) (eight ∙ sym long)
    ∙ ext_get_or 0 (zip2 lower_lane ends steps) (lowered count column ends) (long ∙ sym eight ∙ sym (length-lowered count column ends))
    (λ place inside.
    let here : place < 8 = rw long at inside in
    get_or-zip2 lower_lane ends steps place 0 0 0 (omega arith) (omega arith)
    ∙ lower_lane-right (get_or ends place 0) (get_or steps place 0) (small (suc place)) (step_small column count steps are place here)
    ∙ ap (λ step. get_or ends place 0 - step) (are.each place here) ∙ sym (get_or-lowered count column ends place)))
    ∙ ap (λ place. lowered count place (start ∷ ends)) next

pub raised_lanes : (bounds steps : List ℕ) (column count : ℕ) → length bounds ≡ 9 → ((place : ℕ) → place < 9 → get_or bounds place 0 + count < 256) →
    AreSteps column count steps → put_chunk 1 bounds (zip2 plus_lane (take 8 (drop 1 bounds)) steps) ≡ raised count (column + 1) bounds
raised_lanes [] steps column count nine small are = absurd (omega arith)
raised_lanes (start ∷ ends) steps column count nine small are =
    let eight : length ends ≡ 8 = omega arith in
    let steps_eight = are.eight in
    let long : length (zip2 plus_lane ends steps) ≡ 8 = length-zip2 plus_lane ends steps (eight ∙ sym steps_eight) ∙ eight in
    let next : suc column ≡ column + 1 = omega arith in
    (λ i. start ∷ put_chunk 0 ends (zip2 plus_lane (take_all 8 ends (omega arith) i) steps))
    ∙ ap (λ lanes. start ∷ lanes) (put_chunk_whole ends (zip2 plus_lane ends steps) (eight ∙ sym long)
    ∙ ext_get_or 0 (zip2 plus_lane ends steps) (raised count column ends) (long ∙ sym eight ∙ sym (length-raised count column ends))
    (λ place inside.
    let here : place < 8 = rw long at inside in
    get_or-zip2 plus_lane ends steps place 0 0 0 (omega arith) (omega arith)
    ∙ plus_right (get_or ends place 0) (nat_le column place) (get_or steps place 0) (are.each place here) (small (suc place) (omega arith))
    ∙ sym (get_or-raised count column ends place (omega arith))))
    ∙ ap (λ place. raised count place (start ∷ ends)) next
  where
    plus_right : (end : ℕ) (test : Bool) (step : ℕ) → step ≡ cond test count 0 → end + count < 256 → (end + step) % 256 ≡ end + cond test count 0
    plus_right end true step is room = omega arith
    plus_right end false step is room = omega arith
