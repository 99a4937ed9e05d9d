-- Columns that lie end to end, as bytes.
use Rattle.std.proofs.Common.{◌++◌, ◌+◌, ◌-◌, ◌<◌, ◌∙◌, ◌∷◌, ◌≡◌, ◌≤◌, [], ap, arith, cond, drop, get_or, length}
use Rattle.std.proofs.Common.{length-append, List, map, nat_lt, refl, subst, suc, sym, take, zero, ℕ}
use Rattle.std.proofs.lemmas.{Bool.{le-ltb, lt-ltb}, Grind.{flat_map-append}, List.{append-nil, drop-map}}
use Rattle.std.proofs.lemmas.List.{Elements.{All-from_get_or}, ext_get_or, Folds.{flat_map-map, length-flat_map-take}}
use Rattle.std.proofs.lemmas.List.{get_or-drop, get_or-map, get_or-take, length-drop, length-map, length-take-le}
use Rattle.std.proofs.{lemmas.List.{take-map, take-take, take_all, take_more}, Math.Seq.{take-append-add}}
use Rattle.std.specs.List.{flat_map, slice_range}
use Rattle.fc_card.specs.{AllBelow, IsOrder, laws.OrderLaws.{get_or-pick, length-pick}, pick}
use Rattle.fc_board.proofs.ColumnsLemmas.{all_cards_laid, column_at, columns_in_front, is_between, last_at_most}
use Rattle.fc_board.proofs.{ColumnsLemmas.{length-columns_from, length-range}, PassageLemmas.{map-pick}}
use Rattle.fc_board.specs.inside.{AreBounds, AscendTo, columns_between, columns_from}
use Rattle.fc_bytes.{proofs.ExactBytes.{padded_there}, specs.{inside.{AreInside, pieces}, padded}}

-- where enough bytes are put, the first of them are those that were wanted
pub all-put : (to from now : List ℕ) (at start count done : ℕ) → at ≤ length to → count ≤ done →
    take (at + done) now ≡ take at to ++ take done (drop start from) →
    take (at + count) now ≡ take at to ++ take count (drop start from)
all-put to from now at start count done inside enough put =
    let rest = drop start from in
    let front = take at to in
    let long : length front ≡ at = length-take-le at to inside in
    sym (take-take (at + count) (at + done) now (omega (arith, enough)))
    ∙ (λ i. take (sym long i + count) (put i)) ∙ take-append-add front (take done rest) count
    ∙ ap (λ piece. front ++ piece) (take-take count done rest enough)

-- ---- the columns between bounds
between-there : (cards bounds : List ℕ) (place : ℕ) → AreBounds bounds 52 → suc place
    < length bounds → get_or (columns_between cards bounds) place []
    ≡ slice_range cards (get_or bounds place 0) (get_or bounds (suc place) 0)
between-there cards [] place up inside = absurd up
between-there cards (start ∷ ends) place up inside =
    column_at start cards ends place (omega (arith, inside))

range-mapped : (f : ℕ → ℕ) (items : List ℕ) (start stop : ℕ) →
    slice_range (map f items) start stop ≡ map f (slice_range items start stop)
range-mapped f items start stop =
    ap (take (stop - start)) (drop-map f start items) ∙ take-map f (stop - start) (drop start items)

from-mapped : (f : ℕ → ℕ) (start : ℕ) (cards ends : List ℕ) → columns_from start (map f cards) ends
    ≡ map (map f) (columns_from start cards ends)
from-mapped f start cards [] = refl
from-mapped f start cards (end ∷ ends) = λ i. range-mapped f cards start end i
    ∷ from-mapped f end cards ends i

-- what each card's byte is, the bytes of the columns are
pub between-mapped : (f : ℕ → ℕ) (cards bytes bounds : List ℕ) → AreBounds bounds 52 → 52
    ≤ length bytes → take 52 bytes ≡ map f cards →
    columns_between bytes bounds ≡ map (map f) (columns_between cards bounds)
between-mapped f cards bytes [] up room are = absurd up
between-mapped f cards bytes (start ∷ ends) up room are =
    sym (columns_in_front start bytes ends 52 up.1 room)
    ∙ ap (λ bytes. columns_from start bytes ends) are ∙ from-mapped f start cards ends

-- all of them are the bytes before the last bound
all-between : (bytes bounds : List ℕ) → AreBounds bounds 52 → length bounds ≡ 9 → 52
    ≤ length bytes →
    flat_map (λ column. column) (columns_between bytes bounds) ≡ take (get_or bounds 8 0) bytes
all-between bytes [] up nine room = absurd up
all-between bytes (start ∷ ends) up nine room =
    ap (λ start. flat_map (λ column. column) (columns_from start bytes ends)) up.0
    ∙ all_cards_laid bytes ends 52 (omega (arith, nine))
    (subst (λ start. AscendTo start ends 52) up.0 up.1) room

pub last-bound : (bounds : List ℕ) → AreBounds bounds 52 → length bounds ≡ 9 → get_or bounds 8 0 ≤ 52
last-bound [] up nine = absurd up
last-bound (start ∷ ends) up nine =
    let eight : length ends ≡ 8 = omega (arith, nine) in
    omega (arith, last_at_most start ends 52 up.1, ap (λ n. get_or (start ∷ ends) n 0) eight)

pub nine-bounds : (cards bounds : List ℕ) → AreBounds bounds 52 →
    length (columns_between cards bounds) ≡ 8 → length bounds ≡ 9
nine-bounds cards [] up eight = absurd up
nine-bounds cards (start ∷ ends) up eight =
    omega (arith, length-columns_from start cards ends, eight)

-- the bytes of all columns, which are those before the last bound
pub laid-flat : (f : ℕ → ℕ) (cards bytes bounds : List ℕ) (columns : List (List ℕ)) →
    AreBounds bounds 52 → length bounds ≡ 9 → 52 ≤ length bytes → take 52 bytes ≡ map f cards →
    columns_between cards bounds ≡ columns →
    take (get_or bounds 8 0) bytes ≡ flat_map (map f) columns
laid-flat f cards bytes bounds columns up nine room are lie =
    sym (all-between bytes bounds up nine room)
    ∙ ap (flat_map (λ column. column))
    (between-mapped f cards bytes bounds up room are ∙ ap (map (map f)) lie)
    ∙ flat_map-map (λ column. column) (map f) columns

length-between : (cards bounds : List ℕ) → length bounds ≡ 9 →
    length (columns_between cards bounds) ≡ 8
length-between cards [] nine = absurd (omega (arith, nine))
length-between cards (start ∷ ends) nine =
    length-columns_from start cards ends ∙ omega (arith, nine)

-- how many bytes each column has
pub lengths-there : (bytes bounds lengths : List ℕ) → AreBounds bounds 52 → length bounds ≡ 9 → 52
    ≤ length bytes → length lengths ≡ 8 →
    ((k : ℕ) → k < 8 → get_or lengths k 0 ≡ get_or bounds (k + 1) 0 - get_or bounds k 0) →
    lengths ≡ map length (columns_between bytes bounds)
lengths-there bytes bounds lengths up nine room long are =
    let columns = columns_between bytes bounds in
    let eight = length-between bytes bounds nine in
    ext_get_or 0 lengths (map length columns)
    (omega (arith, long, length-map columns length, eight)) (λ k inside.
    let less : k < 8 = omega (arith, inside, long) in
    let next : k + 1 ≡ suc k = omega arith in
    let there : suc k < length bounds = omega (arith, less, nine) in
    let within = is_between bounds k up there in
    are k less ∙ ap (λ n. get_or bounds n 0 - get_or bounds k 0) next
    ∙ sym (ap length (between-there bytes bounds k up there)
    ∙ length-range bytes (get_or bounds k 0) (get_or bounds (suc k) 0) within.begins
    (omega (arith, within.stops, room)))
    ∙ sym (get_or-map length columns k [] 0 (omega (arith, less, eight))))

pub lengths-mapped : (f : ℕ → ℕ) (columns : List (List ℕ)) →
    map length (map (map f) columns) ≡ map length columns
lengths-mapped f [] = refl
lengths-mapped f (column ∷ columns) =
    let first = length-map column f in
    let rest = lengths-mapped f columns in
    λ i. first i ∷ rest i

-- a bound and the next one ascend
pub ascends : (bounds : List ℕ) (place : ℕ) → AreBounds bounds 52 → length bounds ≡ 9 → place < 8 →
    get_or bounds place 0 ≤ get_or bounds (place + 1) 0
ascends bounds place up nine inside =
    let next : suc place ≡ place + 1 = omega arith in
    let within = is_between bounds place up (omega (arith, inside, nine)) in
    omega (arith, within.begins, ap (λ n. get_or bounds n 0) next)

-- ---- pieces that are put end to end
length-pieces : (bytes starts counts : List ℕ) → length starts ≡ length counts →
    length (pieces bytes starts counts) ≡ length counts
length-pieces bytes [] counts same = same
length-pieces bytes (start ∷ starts) [] same = refl
length-pieces bytes (start ∷ starts) (count ∷ counts) same =
    ap suc (length-pieces bytes starts counts (omega (arith, same)))

piece-there : (bytes starts counts : List ℕ) (place : ℕ) → place < length starts →
    place < length counts → get_or (pieces bytes starts counts) place []
    ≡ take (get_or counts place 0) (drop (get_or starts place 0) bytes)
piece-there bytes [] counts place inside within = absurd (omega (arith, inside))
piece-there bytes (start ∷ starts) [] place inside within = absurd (omega (arith, within))
piece-there bytes (start ∷ starts) (count ∷ counts) zero inside within = refl
piece-there bytes (start ∷ starts) (count ∷ counts) (suc place) inside within =
    piece-there bytes starts counts place (omega (arith, inside)) (omega (arith, within))

pub record ArePieces (bytes starts counts : List ℕ) : Type 0 where
  pub eight : length starts ≡ 8
  pub counted : length counts ≡ 8
  pub inside : AreInside starts counts
  pub room : 52 ≤ length bytes

pub pieces-of : {bytes starts counts : List ℕ} → length bytes ≡ 80 → length starts ≡ 8 →
    length counts ≡ 8 → AreInside starts counts → ArePieces bytes starts counts
pieces-of long eight counted inside = record {
  eight = eight;
  counted = counted;
  inside = inside;
  room = omega (arith, long);
}

module _ {bytes starts counts : List ℕ} (are : ArePieces bytes starts counts) where
  abbrev all : List (List ℕ)
  all = pieces bytes starts counts

  -- the first of them, end to end
  abbrev joined : ℕ → List ℕ
  joined place = flat_map (λ piece. piece) (take place all)

  all-eight : length all ≡ 8
  all-eight =
      length-pieces bytes starts counts (are.eight ∙ sym are.counted) ∙ are.counted

  pub all-joined : (place : ℕ) → 8 ≤ place → joined place ≡ flat_map (λ piece. piece) all
  all-joined place done =
      ap (flat_map (λ piece. piece)) (take_all place all (omega (arith, all-eight, done)))

  module _ {place : ℕ} (inside : place < 8) where
    abbrev start : ℕ
    start = get_or starts place 0

    abbrev count : ℕ
    count = get_or counts place 0

    there : get_or all place [] ≡ take count (drop start bytes)
    there =
        piece-there bytes starts counts place (omega (arith, inside, are.eight))
        (omega (arith, inside, are.counted))

    long : length (get_or all place []) ≡ count
    long =
        ap length there
        ∙ length-take-le count (drop start bytes)
        (omega (arith, length-drop start bytes, are.inside place inside, are.room))

    within : place < length all
    within = omega (arith, all-eight, inside)

    joined-more : joined (place + 1) ≡ joined place ++ get_or all place []
    joined-more =
        ap (flat_map (λ piece. piece)) (take_more all place [] within)
        ∙ flat_map-append (λ piece. piece) (take place all) (get_or all place [] ∷ [])
        ∙ ap (λ back. joined place ++ back) (append-nil (get_or all place []))

    pub joined-room : length (flat_map (λ piece. piece) all) ≤ 52 →
        length (joined place) + count ≤ 52
    joined-room few =
        let next = length-flat_map-take (λ piece. piece) all place [] within in
        omega (arith, next, long, few)

    pub joined-long : length (joined (place + 1)) ≡ length (joined place) + count
    joined-long =
        let both = length-append (joined place) (get_or all place []) in
        omega (arith, ap length joined-more, both, long)

    pub joined-put : (front now : List ℕ) → front ≡ joined place → now
        ≡ front ++ take count (drop start bytes) → now ≡ joined (place + 1)
    joined-put front now so_far put =
        put ∙ (λ i. so_far i ++ sym there i) ∙ sym joined-more

-- ---- the columns between bounds, put in order
pub record AreOrdered (bytes bounds order : List ℕ) : Type 0 where
  pub up : AreBounds bounds 52
  pub nine : length bounds ≡ 9
  pub eight : length order ≡ 8
  pub is : IsOrder order
  pub room : 52 ≤ length bytes

pub ordered-of : {bytes bounds order : List ℕ} → length bytes ≡ 80 → length bounds ≡ 9 →
    AreBounds bounds 52 → length order ≡ 8 → IsOrder order → AreOrdered bytes bounds order
ordered-of long nine up eight is = record {
  up = up;
  nine = nine;
  eight = eight;
  is = is;
  room = omega (arith, long);
}

module _ {bytes bounds order : List ℕ} (are : AreOrdered bytes bounds order) where
  abbrev columns : List (List ℕ)
  columns = columns_between bytes bounds

  abbrev picked : List (List ℕ)
  picked = pick (columns_between bytes bounds) order

  abbrev starts : List ℕ
  starts = pick (take 8 bounds) order

  abbrev counts : List ℕ
  counts = map length (pick (columns_between bytes bounds) order)

  below : AllBelow 8 order
  below = λ i inside. omega (arith, are.is.within i inside, are.eight)

  below-columns : AllBelow (length columns) order
  below-columns = λ i inside.
      omega (arith, below i inside, length-between bytes bounds are.nine)

  below-starts : AllBelow (length (take 8 bounds)) order
  below-starts = λ i inside.
      omega (arith, below i inside, length-take-le 8 bounds (omega (arith, are.nine)))

  picked-eight : length picked ≡ 8
  picked-eight = length-pick columns order below-columns ∙ are.eight

  counts-eight : length counts ≡ 8
  counts-eight = length-map picked length ∙ picked-eight

  starts-eight : length starts ≡ 8
  starts-eight = length-pick (take 8 bounds) order below-starts ∙ are.eight

  module _ {place : ℕ} (inside : place < 8) where
    abbrev column : ℕ
    column = get_or order place 0

    in-order : place < length order
    in-order = omega (arith, are.eight, inside)

    in-bounds : suc column < length bounds
    in-bounds = omega (arith, below place in-order, are.nine)

    start-there : get_or starts place 0 ≡ get_or bounds column 0
    start-there =
        get_or-pick (take 8 bounds) order place 0 below-starts in-order
        ∙ get_or-take 8 bounds column 0 (below place in-order)

    column-there : get_or picked place []
        ≡ slice_range bytes (get_or bounds column 0) (get_or bounds (suc column) 0)
    column-there =
        get_or-pick columns order place [] below-columns in-order
        ∙ between-there bytes bounds column are.up in-bounds

    count-there : get_or counts place 0 ≡ get_or bounds (suc column) 0 - get_or bounds column 0
    count-there =
        let within = is_between bounds column are.up in-bounds in
        get_or-map length picked place [] 0 (omega (arith, picked-eight, inside))
        ∙ ap length column-there
        ∙ length-range bytes (get_or bounds column 0) (get_or bounds (suc column) 0)
        within.begins (omega (arith, within.stops, are.room))

    stops-inside : get_or starts place 0 + get_or counts place 0 ≤ 52
    stops-inside =
        let within = is_between bounds column are.up in-bounds in
        omega (arith, within.begins, within.stops, start-there, count-there)

    pieces-agree : get_or (pieces bytes starts counts) place [] ≡ get_or picked place []
    pieces-agree =
        piece-there bytes starts counts place (omega (arith, starts-eight, inside))
        (omega (arith, counts-eight, inside))
        ∙ (λ i. take (count-there i) (drop (start-there i) bytes)) ∙ sym column-there

  pieces-picked : pieces bytes starts counts ≡ picked
  pieces-picked =
      let long = length-pieces bytes starts counts (starts-eight ∙ sym counts-eight) in
      ext_get_or [] (pieces bytes starts counts) picked
      (long ∙ counts-eight ∙ sym picked-eight) (λ place inside.
      pieces-agree (omega (arith, inside, long, counts-eight)))

  -- the lengths in this order are those of the columns in this order
  pub ordered-counts : (lengths : List ℕ) → lengths ≡ map length columns →
      pick lengths order ≡ counts
  ordered-counts lengths are =
      ap (λ lengths. pick lengths order) are ∙ sym (map-pick length columns order)

  module _ {s c : List ℕ} (are-starts : s ≡ starts) (are-counts : c ≡ counts) where
    pub ordered-inside : AreInside s c
    ordered-inside = λ place inside.
        omega (arith, stops-inside inside, ap (λ s. get_or s place 0) are-starts, ap (λ c. get_or c place 0) are-counts)

    pub ordered-pieces : pieces bytes s c ≡ picked
    ordered-pieces = (λ i. pieces bytes (are-starts i) (are-counts i)) ∙ pieces-picked

-- ---- bytes before a place, and 0 from there on
pub before-there : (bytes before : List ℕ) (end : ℕ) → length before ≡ 52 → end ≤ 52 → 52
    ≤ length bytes →
    ((k : ℕ) → k < 52 → get_or before k 0 ≡ cond (nat_lt k end) (get_or bytes k 0) 0) →
    before ≡ padded 52 (take end bytes)
before-there bytes before end long few room are =
    let size = length-take-le end before (omega (arith, long, few)) in
    let size' = length-take-le end bytes (omega (arith, few, room)) in
    let front = ext_get_or 0 (take end before) (take end bytes) (size ∙ sym size')
    (λ k inside.
    let less : k < end = omega (arith, inside, size) in
    get_or-take end before k 0 less ∙ are k (omega (arith, less, few))
    ∙ ap (λ is. cond is (get_or bytes k 0) 0) (lt-ltb k end less)
    ∙ sym (get_or-take end bytes k 0 less)) in
    let zeros = All-from_get_or (λ byte. byte ≡ 0) (drop end before) 0 (λ k inside.
    let within : end + k < 52 = omega (arith, inside, length-drop end before, long) in
    get_or-drop end before k 0 ∙ are (end + k) within
    ∙ ap (λ is. cond is (get_or bytes (end + k) 0) 0) (le-ltb (end + k) end (omega arith))) in
    sym (padded_there before 52 end long few zeros) ∙ ap (padded 52) front
