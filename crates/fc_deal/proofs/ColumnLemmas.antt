-- The columns while the cards are dealt one after another.
use Rattle.{arrayvec.specs.ArrayVec.{ArrayVec}, fc_card.{proofs.OrderLemmas.{places-more}, specs.{places}}}
use Rattle.std.proofs.Common.{◌%◌, ◌++◌, ◌+◌, ◌<◌, ◌==◌, ◌∙◌, ◌∷◌, ◌≡◌, ◌≢◌, [], ap, arith, Bool, cond, false, get_or}
use Rattle.std.proofs.Common.{inl, inr, length, length-set, List, refl, set, sym, true, ℕ}
use Rattle.std.proofs.lemmas.{Bool.{cases_eq, eq-eqb, ne_eqb}, List.{append-nil, Elements.{filter-append}, ext_get_or}}
use Rattle.std.proofs.lemmas.List.FromFn.{get_or-map-range_with_len, length-map-range_with_len, length-range_with_len}
use Rattle.std.proofs.lemmas.List.{get_or-map, get_or-set_other, get_or-set_same, get_or_default, length-map}
use Rattle.std.{proofs.lemmas.List.{map-append, map-set, Sums.{count_by-le-length, length-filter}}, specs.List.{filter}}
use Rattle.std.specs.Prelude.{map, slice_index}
use Rattle.fc_deal.specs.{places_dealt_to}

-- the cards of the column once so many are dealt
abbrev pub column_after : List ℕ → ℕ → ℕ → List ℕ
column_after cards count column = map (slice_index cards) (places_dealt_to column count)

-- the first so many cards are on the columns
pub record AreDealt (cards : List ℕ) (count : ℕ) (columns : List (ArrayVec ℕ)) : Type 0 where
  pub each : map (λ column. column.items) columns ≡ map (column_after cards count) (places 8)

places-one_more : (column count : ℕ) (here : Bool) → (count % 8 == column) ≡ here →
    places_dealt_to column (count + 1) ≡ places_dealt_to column count ++ cond here (count ∷ []) []
places-one_more column count here e =
    let test : ℕ → Bool = λ place. place % 8 == column in
    ap (filter test) (places-more count) ∙ filter-append test (places count) (count ∷ [])
    ∙ ap (λ b. places_dealt_to column count ++ cond b (count ∷ []) []) e

column-on : (cards : List ℕ) (count column : ℕ) → count % 8 ≡ column →
    column_after cards (count + 1) column ≡ column_after cards count column ++ slice_index cards count ∷ []
column-on cards count column e =
    ap (map (slice_index cards)) (places-one_more column count true (eq-eqb (count % 8) column e))
    ∙ map-append (slice_index cards) (places_dealt_to column count) (count ∷ [])

column-kept : (cards : List ℕ) (count column : ℕ) → column ≢ count % 8 → column_after cards count column ≡ column_after cards (count + 1) column
column-kept cards count column ne =
    sym (ap (map (slice_index cards)) (places-one_more column count false (ne_eqb (count % 8) column (λ e. ne (sym e))) ∙ append-nil (places_dealt_to column count)))

-- where two tables differ in one place, the one is the other with that place set
set_one : (f g : ℕ → List ℕ) (size place : ℕ) → place < size → ((i : ℕ) → i ≢ place → f i ≡ g i) →
    set (map f (places size)) place (g place) ≡ map g (places size)
set_one f g size place within same =
    let was = length-map-range_with_len f 0 size in
    let whole = length-set (map f (places size)) place (g place) in
    let is = length-map-range_with_len g 0 size in
    ext_get_or [] (set (map f (places size)) place (g place)) (map g (places size)) (omega arith) (λ i h. elim (cases_eq i place) [
      | inl e ↦ ap (λ n. get_or (set (map f (places size)) place (g place)) n []) e
          ∙ get_or-set_same (map f (places size)) place (g place) [] (omega arith)
          ∙ sym (get_or-map-range_with_len g 0 size i place [] (omega arith) (omega arith))
      | inr ne ↦ get_or-set_other (map f (places size)) place i (g place) [] ne
          ∙ get_or-map-range_with_len f 0 size i i [] (omega arith) (omega arith)
          ∙ same i ne
          ∙ sym (get_or-map-range_with_len g 0 size i i [] (omega arith) (omega arith))
    ])

eight_columns : (cards : List ℕ) (count : ℕ) (columns : List (ArrayVec ℕ)) → AreDealt cards count columns → length columns ≡ 8
eight_columns cards count columns are =
    sym (length-map columns (λ column. column.items)) ∙ ap length are.each ∙ length-map-range_with_len (column_after cards count) 0 8

column_items : (cards : List ℕ) (count : ℕ) (columns : List (ArrayVec ℕ)) (column : ℕ) (default : ArrayVec ℕ) → AreDealt cards count columns → column < 8 →
    (get_or columns column default).items ≡ column_after cards count column
column_items cards count columns column default are within =
    let eight = eight_columns cards count columns are in
    sym (get_or-map (λ column. column.items) columns column default [] (omega arith))
    ∙ ap (λ all. get_or all column []) are.each
    ∙ get_or-map-range_with_len (column_after cards count) 0 8 column column [] within (omega arith)

pub column-has_room : (cards : List ℕ) (count : ℕ) (columns : List (ArrayVec ℕ)) (column : ℕ) (default : ArrayVec ℕ) → AreDealt cards count columns → column < 8 → count < 52 →
    length (get_or columns column default).items < 52
column-has_room cards count columns column default are within few =
    let test : ℕ → Bool = λ place. place % 8 == column in
    let size = ap length (column_items cards count columns column default are within) in
    let mapped = length-map (places_dealt_to column count) (slice_index cards) in
    let kept = length-filter test (places count) in
    let counted = count_by-le-length test (places count) in
    let all = length-range_with_len 0 count in
    omega arith

pub AreDealt-push : (cards : List ℕ) (count : ℕ) (columns : List (ArrayVec ℕ)) (default after : ArrayVec ℕ) (card : ℕ) → AreDealt cards count columns →
    count < length cards → after.items ≡ (get_or columns (count % 8) default).items ++ get_or cards count card ∷ [] →
    AreDealt cards (count + 1) (set columns (count % 8) after)
AreDealt-push cards count columns default after card are within pushed =
    let column = count % 8 in
    let near : column < 8 = omega arith in
    let read : get_or cards count card ≡ slice_index cards count = get_or_default cards count card 0 within in
    let items : after.items ≡ column_after cards (count + 1) column =
    pushed ∙ ap (λ front. front ++ get_or cards count card ∷ []) (column_items cards count columns column default are near)
    ∙ ap (λ c. column_after cards count column ++ c ∷ []) read ∙ sym (column-on cards count column refl) in
    record {
      each = map-set (λ column. column.items) columns column after
          ∙ ap (λ all. set all column after.items) are.each
          ∙ ap (set (map (column_after cards count) (places 8)) column) items
          ∙ set_one (column_after cards count) (column_after cards (count + 1)) 8 column near (λ i ne. column-kept cards count i ne);
    }
