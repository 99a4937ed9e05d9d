-- Columns end to end in one list: each by its place, and cards less or more.
use Rattle.std.proofs.Common.{◌++◌, ◌+◌, ◌-◌, ◌<◌, ◌∙◌, ◌∷◌, ◌≡◌, ◌≤◌, ◌⊎◌, [], ap, append-nil, arith, cond, drop}
use Rattle.std.proofs.Common.{get_or, inl, inr, length, List, map, refl, set, slice_range, subst, suc, sym, take}
use Rattle.std.proofs.{Common.{take-append-drop, zero, ℕ}, lemmas.Bool.Decides.{nat_tests}}
use Rattle.std.proofs.lemmas.List.{Concat.{flat_map-append}, drop-append-le, drop-drop, drop_all, ext_get_or}
use Rattle.std.proofs.lemmas.List.{get_or-append_right, get_or-drop, get_or-take, get_or_append_left, length-append}
use Rattle.std.proofs.lemmas.List.{length-drop, length-set, length-take-le, map-append, take-append-le, take-take}
use Rattle.std.{proofs.{lemmas.List.{take_all, take_more_set}, Math.Seq.{drop-append_seam}}, specs.List.{flat_map}}
use Rattle.std.specs.Prelude.{nat_le}
use Rattle.fc_board.{proofs.BoardLemmas.{up_to}, specs.inside.{AreBounds, AreIn, AreOut, AscendTo, columns_between}}
use Rattle.fc_board.specs.inside.{columns_from, lowered, raised, size_of}

pub length-columns_from : (start : ℕ) (cards ends : List ℕ) → length (columns_from start cards ends) ≡ length ends
length-columns_from start cards [] = refl
length-columns_from start cards (end ∷ ends) = ap suc (length-columns_from end cards ends)

pub up_to_last : (start : ℕ) (ends : List ℕ) (most : ℕ) → AscendTo start ends most → start ≤ most
up_to_last start [] most up = up
up_to_last start (end ∷ ends) most up = omega (arith, up.0, up_to_last end ends most up.1)

pub ascend_to_last : (start : ℕ) (ends : List ℕ) (most : ℕ) → AscendTo start ends most → AscendTo start ends (get_or (start ∷ ends) (length ends) 0)
ascend_to_last start [] most up = omega arith
ascend_to_last start (end ∷ ends) most up = (up.0, ascend_to_last end ends most up.1)

-- each column begins where the one before it ends
pub record IsWithin (start : ℕ) (ends : List ℕ) (most place : ℕ) : Type 0 where
  pub from_start : start ≤ get_or (start ∷ ends) place 0
  pub begins : get_or (start ∷ ends) place 0 ≤ get_or ends place 0
  pub stops : get_or ends place 0 ≤ most

pub column_within : (start : ℕ) (ends : List ℕ) (most place : ℕ) → AscendTo start ends most → place < length ends → IsWithin start ends most place
column_within start [] most place up inside = absurd (omega arith)
column_within start (end ∷ ends) most zero up inside = record { from_start = omega arith; begins = up.0; stops = up_to_last end ends most up.1 }
column_within start (end ∷ ends) most (suc place) up inside =
    let rest = column_within end ends most place up.1 (omega arith) in
    record { from_start = let a = rest.from_start in omega (arith, up.0, a); begins = rest.begins; stops = rest.stops }

pub column_at : (start : ℕ) (cards ends : List ℕ) (place : ℕ) → place < length ends →
    get_or (columns_from start cards ends) place [] ≡ slice_range cards (get_or (start ∷ ends) place 0) (get_or ends place 0)
column_at start cards [] place inside = absurd (omega arith)
column_at start cards (end ∷ ends) zero inside = refl
column_at start cards (end ∷ ends) (suc place) inside = column_at end cards ends place (omega arith)

-- ---- parts of a list

pub length-range : (cards : List ℕ) (from to : ℕ) → from ≤ to → to ≤ length cards → length (slice_range cards from to) ≡ to - from
length-range cards from to up within = length-take-le (to - from) (drop from cards) (omega (arith, length-drop from cards))

get_or-range : (cards : List ℕ) (from to k : ℕ) → k < to - from → get_or (slice_range cards from to) k 0 ≡ get_or cards (from + k) 0
get_or-range cards from to k inside = get_or-take (to - from) (drop from cards) k 0 inside ∙ get_or-drop from cards k 0

-- parts are the same where their cards are
same_range : (xs ys : List ℕ) (a b c d : ℕ) → a ≤ b → b ≤ length xs → c ≤ d → d ≤ length ys → b - a ≡ d - c →
    ((k : ℕ) → k < b - a → get_or xs (a + k) 0 ≡ get_or ys (c + k) 0) → slice_range xs a b ≡ slice_range ys c d
same_range xs ys a b c d up within up2 within2 sizes same =
    ext_get_or 0 (slice_range xs a b) (slice_range ys c d) (length-range xs a b up within ∙ sizes ∙ sym (length-range ys c d up2 within2))
    (λ k inside.
    let small : k < b - a = rw (length-range xs a b up within) at inside in
    get_or-range xs a b k small ∙ same k small ∙ sym (get_or-range ys c d k (rw sizes at small)))

-- a part without its last cards
shorter_range : (cards : List ℕ) (from to count : ℕ) → from + count ≤ to → to ≤ length cards →
    take (length (slice_range cards from to) - count) (slice_range cards from to) ≡ slice_range cards from (to - count)
shorter_range cards from to count up within =
    ap (λ n. take (n - count) (slice_range cards from to)) (length-range cards from to (omega arith) within) ∙
    take-take (to - from - count) (to - from) (drop from cards) (omega arith) ∙
    ap (λ n. take n (drop from cards)) (let e : to - from - count ≡ to - count - from = omega arith in e)

-- ---- cards less

less_before : (old new : List ℕ) (place count last from to : ℕ) → AreOut old new place count last → from ≤ to → to ≤ place - count →
    place ≤ length old → slice_range new from to ≡ slice_range old from to
less_before old new place count last from to out up before within =
    same_range new old from to from to up (omega (arith, out.size)) up (omega arith) refl (λ k inside. out.before (from + k) (omega arith))

less_after : (old new : List ℕ) (place count last from to : ℕ) → AreOut old new place count last → count ≤ place → place ≤ from → from ≤ to →
    to ≤ last → last ≤ length old → slice_range new (from - count) (to - count) ≡ slice_range old from to
less_after old new place count last from to out some after up within few =
    same_range new old (from - count) (to - count) from to (omega arith) (omega (arith, out.size)) up (omega arith) (omega arith)
    (λ k inside. ap (λ n. get_or new n 0) (let e : from - count + k ≡ from + k - count = omega arith in e) ∙ out.after (from + k) (omega arith) (omega arith))

before_or_after : (k n : ℕ) → (k < n) ⊎ (n ≤ k)
before_or_after k zero = inr (omega arith)
before_or_after zero (suc n) = inl (omega arith)
before_or_after (suc k) (suc n) = elim (before_or_after k n) [
  | inl small ↦ inl (omega arith)
  | inr large ↦ inr (omega arith)
]

-- cards that are moved on piece by piece: those from the place on up to here are moved, those from here on are as they were
pub record IsMoving (old new : List ℕ) (place at count : ℕ) : Type 0 where
  pub out : AreOut old new place count at
  pub rest : (k : ℕ) → at ≤ k → get_or new k 0 ≡ get_or old k 0
  pub on : place ≤ at

-- one piece more
pub IsMoving-on : (old mid new : List ℕ) (place at next count : ℕ) → count ≤ place → IsMoving old mid place at count → at ≤ next →
    AreOut mid new at count next → ((k : ℕ) → next ≤ k → get_or new k 0 ≡ get_or mid k 0) → IsMoving old new place next count
IsMoving-on old mid new place at next count some first up second rest = record {
  out = record {
    size = second.size ∙ first.out.size;
    before = λ k small. let on = first.on in second.before k (omega arith) ∙ first.out.before k small;
    after = λ k after small. one k after small (before_or_after k at);
  };
  rest = λ k later. rest k later ∙ first.rest k (omega arith);
  on = let on = first.on in omega arith;
}
  where
    one : (k : ℕ) → place ≤ k → k < next → (k < at) ⊎ (at ≤ k) → get_or new (k - count) 0 ≡ get_or old k 0
    one k after small (inl early) = second.before (k - count) (omega arith) ∙ first.out.after k after early
    one k after small (inr late) = second.after k late small ∙ first.rest k late

rest_lowered : (old new : List ℕ) (place count last start : ℕ) (ends : List ℕ) → AreOut old new place count last → count ≤ place → place ≤ start →
    AscendTo start ends last → last ≤ length old → columns_from (start - count) new (lowered count 0 ends) ≡ columns_from start old ends
rest_lowered old new place count last start [] out some after up few = refl
rest_lowered old new place count last start (end ∷ ends) out some after up few = λ i.
    less_after old new place count last start end out some after up.0 (up_to_last end ends last up.1) few i ∷ rest_lowered old new place count last end ends out some (omega (arith, up.0)) up.1 few i

pub cards_taken : (old new : List ℕ) (count last start : ℕ) (ends : List ℕ) (i : ℕ) → i < length ends → AscendTo start ends last → last ≤ length old →
    get_or (start ∷ ends) i 0 + count ≤ get_or ends i 0 → AreOut old new (get_or ends i 0) count last →
    columns_from start new (lowered count i ends) ≡ set (columns_from start old ends) i
    (take (length (get_or (columns_from start old ends) i []) - count) (get_or (columns_from start old ends) i []))
cards_taken old new count last start [] i inside up few some out = absurd (omega arith)
cards_taken old new count last start (end ∷ ends) zero inside up few some out =
    let within = up_to_last end ends last up.1 in
    let here =
    less_before old new end count last start (end - count) out (omega arith) (omega arith) (omega arith) ∙
    sym (shorter_range old start end count some (omega arith)) in
    λ j. here j ∷ rest_lowered old new end count last end ends out (omega arith) (omega arith) up.1 few j
cards_taken old new count last start (end ∷ ends) (suc i) inside up few some out =
    let there = column_within end ends last i up.1 (omega arith) in
    let from = there.from_start in
    let stops = there.stops in
    let here = less_before old new (get_or ends i 0) count last start end out up.0 (omega (arith, from, some)) (omega (arith, stops)) in
    λ j. here j ∷ cards_taken old new count last end ends i (omega arith) up.1 few some out j

pub AscendTo-lowered : (count start : ℕ) (ends : List ℕ) (i most : ℕ) → i < length ends → AscendTo start ends most →
    get_or (start ∷ ends) i 0 + count ≤ get_or ends i 0 → AscendTo start (lowered count i ends) most
AscendTo-lowered count start [] i most inside up some = absurd (omega arith)
AscendTo-lowered count start (end ∷ ends) zero most inside up some = (omega arith, all_lowered end ends up.1)
  where
    all_lowered : (start : ℕ) (ends : List ℕ) → AscendTo start ends most → AscendTo (start - count) (lowered count 0 ends) most
    all_lowered start [] up = omega (arith, up)
    all_lowered start (end ∷ ends) up = (omega (arith, up.0), all_lowered end ends up.1)
AscendTo-lowered count start (end ∷ ends) (suc i) most inside up some = (up.0, AscendTo-lowered count end ends i most (omega arith) up.1 some)

-- ---- cards more

more_before : (old new : List ℕ) (place last : ℕ) (cards : List ℕ) (from to : ℕ) → AreIn old new place last cards → from ≤ to → to ≤ place →
    place ≤ length old → slice_range new from to ≡ slice_range old from to
more_before old new place last cards from to put up before within =
    same_range new old from to from to up (omega (arith, put.size)) up (omega arith) refl (λ k inside. put.before (from + k) (omega arith))

more_after : (old new : List ℕ) (place last : ℕ) (cards : List ℕ) (from to : ℕ) → AreIn old new place last cards → place ≤ from → from ≤ to →
    to ≤ last → last + length cards ≤ length old → slice_range new (from + length cards) (to + length cards) ≡ slice_range old from to
more_after old new place last cards from to put after up within room =
    same_range new old (from + length cards) (to + length cards) from to (omega arith) (omega (arith, put.size)) up (omega arith) (omega arith)
    (λ k inside. ap (λ n. get_or new n 0) (let e : from + length cards + k ≡ from + k + length cards = omega arith in e) ∙ put.after (from + k) (omega arith) (omega arith))

-- a part and the cards that were put after it
longer_range : (old new : List ℕ) (place last : ℕ) (cards : List ℕ) (from : ℕ) → AreIn old new place last cards → from ≤ place →
    place + length cards ≤ length old → slice_range new from (place + length cards) ≡ slice_range old from place ++ cards
longer_range old new place last cards from put up within =
    let front = length-range old from place up (omega arith) in
    let whole = length-range new from (place + length cards) (omega arith) (omega (arith, put.size)) in
    ext_get_or 0 (slice_range new from (place + length cards)) (slice_range old from place ++ cards)
    (whole ∙ (let e : place + length cards - from ≡ place - from + length cards = omega arith in e) ∙ ap (λ n. n + length cards) (sym front) ∙ sym (length-append (slice_range old from place) cards))
    (λ k inside. here k (omega (arith, whole)) (before_or_after k (place - from)))
  where
    here : (k : ℕ) → k < place + length cards - from → (k < place - from) ⊎ (place - from ≤ k) →
        get_or (slice_range new from (place + length cards)) k 0 ≡ get_or (slice_range old from place ++ cards) k 0
    here k inside (inl small) =
        get_or-range new from (place + length cards) k inside ∙ put.before (from + k) (omega arith) ∙
        sym (get_or-range old from place k small) ∙
        sym (get_or_append_left (slice_range old from place) cards 0 k (omega (arith, length-range old from place up (omega arith))))
    here k inside (inr large) =
        let front = length-range old from place up (omega arith) in
        get_or-range new from (place + length cards) k inside ∙
        ap (λ n. get_or new n 0) (let e : from + k ≡ place + (k - (place - from)) = omega arith in e) ∙ put.there (k - (place - from)) (omega arith) ∙
        sym (get_or-append_right (slice_range old from place) cards (place - from) k 0 front large)

rest_raised : (old new : List ℕ) (place last : ℕ) (cards : List ℕ) (start : ℕ) (ends : List ℕ) → AreIn old new place last cards → place ≤ start →
    AscendTo start ends last → last + length cards ≤ length old →
    columns_from (start + length cards) new (raised (length cards) 0 ends) ≡ columns_from start old ends
rest_raised old new place last cards start [] put after up room = refl
rest_raised old new place last cards start (end ∷ ends) put after up room = λ i.
    more_after old new place last cards start end put after up.0 (up_to_last end ends last up.1) room i ∷
    rest_raised old new place last cards end ends put (omega (arith, up.0)) up.1 room i

pub cards_put : (old new cards : List ℕ) (last start : ℕ) (ends : List ℕ) (i : ℕ) → i < length ends → AscendTo start ends last →
    last + length cards ≤ length old → AreIn old new (get_or ends i 0) last cards →
    columns_from start new (raised (length cards) i ends) ≡ set (columns_from start old ends) i (get_or (columns_from start old ends) i [] ++ cards)
cards_put old new cards last start [] i inside up room put = absurd (omega arith)
cards_put old new cards last start (end ∷ ends) zero inside up room put =
    let within = up_to_last end ends last up.1 in
    let here = longer_range old new end last cards start put up.0 (omega arith) in
    λ j. here j ∷ rest_raised old new end last cards end ends put (omega arith) up.1 room j
cards_put old new cards last start (end ∷ ends) (suc i) inside up room put =
    let there = column_within end ends last i up.1 (omega arith) in
    let from = there.from_start in
    let begins = there.begins in
    let stops = there.stops in
    let here = more_before old new (get_or ends i 0) last cards start end put up.0 (omega (arith, from, begins)) (omega (arith, stops)) in
    λ j. here j ∷ cards_put old new cards last end ends i (omega arith) up.1 room put j

pub AscendTo-raised : (count start : ℕ) (ends : List ℕ) (i most : ℕ) → i < length ends → AscendTo start ends most →
    AscendTo start (raised count i ends) (most + count)
AscendTo-raised count start [] i most inside up = absurd (omega arith)
AscendTo-raised count start (end ∷ ends) zero most inside up = (omega (arith, up.0), all_raised end ends up.1)
  where
    all_raised : (start : ℕ) (ends : List ℕ) → AscendTo start ends most → AscendTo (start + count) (raised count 0 ends) (most + count)
    all_raised start [] up = omega (arith, up)
    all_raised start (end ∷ ends) up = (omega (arith, up.0), all_raised end ends up.1)
AscendTo-raised count start (end ∷ ends) (suc i) most inside up = (up.0, AscendTo-raised count end ends i most (omega arith) up.1)

-- ---- how many cards there are

-- the ends reach no further than there are cards
pub few_cards : (start : ℕ) (cards ends : List ℕ) (most : ℕ) → AscendTo start ends (length cards) →
    start + length (flat_map (λ column. column) (columns_from start cards ends)) ≤ most → AscendTo start ends most
few_cards start cards [] most up few = omega arith
few_cards start cards (end ∷ ends) most up few =
    let size = length-range cards start end up.0 (up_to_last end ends (length cards) up.1) in
    let together = length-append (slice_range cards start end) (flat_map (λ column. column) (columns_from end cards ends)) in
    (up.0, few_cards end cards ends most up.1 (omega (arith, up.0)))

-- ---- one column more, after all others

-- from the start on the ends ascend, and the last is this one
abbrev pub Ascend : ℕ → List ℕ → ℕ → Type 0
Ascend start [] last = start ≡ last
Ascend start (end ∷ ends) last = (start ≤ end) × Ascend end ends last

pub AscendTo-up_to : (start : ℕ) (ends : List ℕ) (last most : ℕ) → last ≤ most → Ascend start ends last → AscendTo start ends most
AscendTo-up_to start [] last most few up = omega (arith, up)
AscendTo-up_to start (end ∷ ends) last most few up = (up.0, AscendTo-up_to end ends last most few up.1)

-- the last of such ends
Ascend-end : (start : ℕ) (ends : List ℕ) (last : ℕ) → Ascend start ends last → get_or (start ∷ ends) (length ends) 0 ≡ last
Ascend-end start [] last up = up
Ascend-end start (end ∷ ends) last up = Ascend-end end ends last up.1

pub Ascend-push : (start : ℕ) (ends : List ℕ) (last next : ℕ) → last ≤ next → Ascend start ends last → Ascend start (ends ++ next ∷ []) next
Ascend-push start [] last next on up = (omega (arith, up), refl)
Ascend-push start (end ∷ ends) last next on up = (up.0, Ascend-push end ends last next on up.1)

range_in_front : (cards : List ℕ) (most from to : ℕ) → from ≤ to → to ≤ most → most ≤ length cards →
    slice_range (take most cards) from to ≡ slice_range cards from to
range_in_front cards most from to up within small =
    let size = length-take-le most cards small in
    same_range (take most cards) cards from to from to up (omega arith) up (omega arith) refl (λ k inside. get_or-take most cards (from + k) 0 (omega arith))

-- only the cards before the last end count
pub columns_in_front : (start : ℕ) (cards ends : List ℕ) (most : ℕ) → AscendTo start ends most → most ≤ length cards →
    columns_from start (take most cards) ends ≡ columns_from start cards ends
columns_in_front start cards [] most up small = refl
columns_in_front start cards (end ∷ ends) most up small = λ i.
    range_in_front cards most start end up.0 (up_to_last end ends most up.1) small i ∷ columns_in_front end cards ends most up.1 small i

last_column : (cards column : List ℕ) (start : ℕ) → start ≡ length cards → slice_range (cards ++ column) start (length cards + length column) ≡ column
last_column cards column start same =
    let count : length cards + length column - start ≡ length column = omega (arith, same) in
    (λ i. take (count i) (drop (same i) (cards ++ column))) ∙ ap (take (length column)) (drop-append_seam cards column) ∙
    take_all (length column) column (omega arith)

earlier_column : (cards column : List ℕ) (start end : ℕ) → start ≤ end → end ≤ length cards →
    slice_range (cards ++ column) start end ≡ slice_range cards start end
earlier_column cards column start end up within =
    ap (take (end - start)) (drop-append-le start cards column (omega arith)) ∙
    take-append-le (end - start) (drop start cards) column (omega (arith, length-drop start cards))

pub columns_from-push : (start : ℕ) (cards ends column : List ℕ) → Ascend start ends (length cards) →
    columns_from start (cards ++ column) (ends ++ (length cards + length column) ∷ []) ≡ columns_from start cards ends ++ column ∷ []
columns_from-push start cards [] column up = rw (last_column cards column start up)
columns_from-push start cards (end ∷ ends) column up =
    let within = up_to_last end ends (length cards) (AscendTo-up_to end ends (length cards) (length cards) (omega arith) up.1) in
    λ i. earlier_column cards column start end up.0 within i ∷ columns_from-push end cards ends column up.1 i

-- these columns are laid, one after the other, up to this card
pub record AreLaid (columns : List (List ℕ)) (cards ends : List ℕ) (i count : ℕ) : Type 0 where
  pub deck : length cards ≡ 52
  pub eight : length ends ≡ 8
  pub few : count ≤ 52
  pub ascend : Ascend 0 (take i ends) count
  pub there : columns_from 0 (take count cards) (take i ends) ≡ columns

pub one_laid : (columns : List (List ℕ)) (old new ends : List ℕ) (i count next : ℕ) (column : List ℕ) → i < 8 → AreLaid columns old ends i count →
    next ≡ count + length column → next ≤ 52 → length new ≡ 52 → take next new ≡ take count old ++ column →
    AreLaid (columns ++ column ∷ []) new (set ends i next) (i + 1) next
one_laid columns old new ends i count next column below laid long room deck ensured =
    let size = length-take-le count old (let a = laid.few in let b = laid.deck in omega arith) in
    let inside : i < length ends = let a = laid.eight in omega arith in
    let longer : take (i + 1) (set ends i next) ≡ take i ends ++ next ∷ [] = take_more_set ends i next inside in
    let there = ap (λ n. n + length column) size in
    record {
      deck = deck;
      eight = length-set ends i next ∙ laid.eight;
      few = room;
      ascend = rw longer (Ascend-push 0 (take i ends) count next (omega arith) laid.ascend);
      there =
          (λ j. columns_from 0 (ensured j) (longer j)) ∙
          ap (λ n. columns_from 0 (take count old ++ column) (take i ends ++ n ∷ [])) (long ∙ sym there) ∙
          columns_from-push 0 (take count old) (take i ends) column (rw size laid.ascend) ∙
          ap (λ cs. cs ++ column ∷ []) laid.there;
    }

module _ (columns : List (List ℕ)) (cards ends : List ℕ) (count : ℕ) (laid : AreLaid columns cards ends 8 count) where
  pub all_ascend : AscendTo 0 ends 52
  all_ascend = AscendTo-up_to 0 ends count 52 laid.few (rw (take_all 8 ends (let a = laid.eight in omega arith)) at laid.ascend)

  -- the last column ends after all cards
  pub last_laid : get_or ends 7 0 ≡ count
  last_laid =
      ap (λ n. get_or (0 ∷ ends) n 0) (sym laid.eight) ∙
      Ascend-end 0 ends count (rw (take_all 8 ends (let a = laid.eight in omega arith)) at laid.ascend)

  pub all_laid : columns_from 0 cards ends ≡ columns
  all_laid =
      let whole = take_all 8 ends (let a = laid.eight in omega arith) in
      let up = AscendTo-up_to 0 ends count count (omega arith) (rw whole at laid.ascend) in
      sym (columns_in_front 0 cards ends count up (let a = laid.few in let b = laid.deck in omega arith)) ∙
      ap (columns_from 0 (take count cards)) (sym whole) ∙
      laid.there

-- ---- columns that are laid one after another, each the cards of an item

module _ {X : Type 0} (cards_of : X → List ℕ) where
  -- so many cards have the first columns and this one
  pub room_after : (items : List X) (i : ℕ) (item : X) → i < length items → item ≡ get_or items i item → length (flat_map cards_of items) ≤ 52
      → length (flat_map cards_of (take i items)) + length (cards_of item) ≤ 52
  room_after items i item inside is few =
      let front = flat_map-append cards_of (take i items) (item ∷ []) in
      let more = ap (flat_map cards_of) (up_to items i item inside is) in
      let whole =
      sym (flat_map-append cards_of (take (i + 1) items) (drop (i + 1) items)) ∙ ap (flat_map cards_of) (take-append-drop (i + 1) items) in
      let one = append-nil (cards_of item) in
      let a = length-append (flat_map cards_of (take i items)) (cards_of item) in
      let b = length-append (flat_map cards_of (take (i + 1) items)) (flat_map cards_of (drop (i + 1) items)) in
      let c : length (flat_map cards_of (take i items) ++ cards_of item) ≡ length (flat_map cards_of (take (i + 1) items)) =
      ap length (ap (λ zs. flat_map cards_of (take i items) ++ zs) (sym one) ∙ sym front ∙ more) in
      let d = ap length whole in
      omega arith

  -- the first columns are laid
  pub record FirstLaid (items : List X) (cards ends : List ℕ) (i count : ℕ) : Type 0 where
    pub laid : AreLaid (map cards_of (take i items)) cards ends i count
    pub counted : count ≡ length (flat_map cards_of (take i items))

  pub one_more_laid : (items : List X) (old new ends : List ℕ) (i count next : ℕ) (item : X) → i < length items → i < 8 → item ≡ get_or items i item →
      length (flat_map cards_of items) ≤ 52 → FirstLaid items old ends i count → next ≡ count + length (cards_of item) → length new ≡ 52 →
      take next new ≡ take count old ++ cards_of item → FirstLaid items new (set ends i next) (i + 1) next
  one_more_laid items old new ends i count next item inside below is few so_far long deck ensured =
      let room = room_after items i item inside is few in
      let counted = so_far.counted in
      let more : take i items ++ item ∷ [] ≡ take (i + 1) items = up_to items i item inside is in
      record {
        laid = subst (λ columns. AreLaid columns new (set ends i next) (i + 1) next) (sym (map-append cards_of (take i items) (item ∷ [])) ∙ ap (map cards_of) more)
            (one_laid (map cards_of (take i items)) old new ends i count next (cards_of item) below so_far.laid long (omega arith) deck ensured);
        counted =
            long ∙ ap (λ n. n + length (cards_of item)) counted ∙ sym (length-append (flat_map cards_of (take i items)) (cards_of item)) ∙
            ap length (ap (λ zs. flat_map cards_of (take i items) ++ zs) (sym (append-nil (cards_of item))) ∙ sym (flat_map-append cards_of (take i items) (item ∷ [])) ∙ ap (flat_map cards_of) more);
      }

  pub all_items_laid : (items : List X) (cards ends : List ℕ) (count : ℕ) → length items ≡ 8 → FirstLaid items cards ends 8 count →
      AreLaid (map cards_of items) cards ends 8 count
  all_items_laid items cards ends count eight so_far =
      rw (take_all 8 items (omega arith)) at so_far.laid

-- ---- the bounds are lowered and raised one by one

pub length-lowered : (count i : ℕ) (ends : List ℕ) → length (lowered count i ends) ≡ length ends
length-lowered count i [] = refl
length-lowered count zero (end ∷ ends) = ap suc (length-lowered count 0 ends)
length-lowered count (suc i) (end ∷ ends) = ap suc (length-lowered count i ends)

pub length-raised : (count i : ℕ) (ends : List ℕ) → length (raised count i ends) ≡ length ends
length-raised count i [] = refl
length-raised count zero (end ∷ ends) = ap suc (length-raised count 0 ends)
length-raised count (suc i) (end ∷ ends) = ap suc (length-raised count i ends)

pub get_or-lowered : (count i : ℕ) (ends : List ℕ) (k : ℕ) → get_or (lowered count i ends) k 0 ≡ get_or ends k 0 - cond (nat_le i k) count 0
get_or-lowered count i [] k = omega arith
get_or-lowered count zero (end ∷ ends) zero = grind (arith, nat_tests)
get_or-lowered count zero (end ∷ ends) (suc k) = let rest = get_or-lowered count 0 ends k in grind (arith, nat_tests, rest)
get_or-lowered count (suc i) (end ∷ ends) zero = grind (arith, nat_tests)
get_or-lowered count (suc i) (end ∷ ends) (suc k) = let rest = get_or-lowered count i ends k in grind (arith, nat_tests, rest)

pub get_or-raised : (count i : ℕ) (ends : List ℕ) (k : ℕ) → k < length ends →
    get_or (raised count i ends) k 0 ≡ get_or ends k 0 + cond (nat_le i k) count 0
get_or-raised count i [] k inside = absurd (omega arith)
get_or-raised count zero (end ∷ ends) zero inside = grind (arith, nat_tests)
get_or-raised count zero (end ∷ ends) (suc k) inside = let rest = get_or-raised count 0 ends k (omega arith) in grind (arith, nat_tests, rest)
get_or-raised count (suc i) (end ∷ ends) zero inside = grind (arith, nat_tests)
get_or-raised count (suc i) (end ∷ ends) (suc k) inside = let rest = get_or-raised count i ends k (omega arith) in grind (arith, nat_tests, rest)

-- ---- columns in memory, as the fields of the struct say them
pub record InMemory (cards bounds : List ℕ) (columns : List (List ℕ)) (i : ℕ) : Type 0 where
  pub same : columns_between cards bounds ≡ columns
  pub nine : length bounds ≡ 9
  pub inside : suc i < length bounds
  pub deck : length cards ≡ 52
  pub ascend : AreBounds bounds 52

-- a column lies between its bounds
pub record IsBetween (bounds : List ℕ) (i : ℕ) : Type 0 where
  pub begins : get_or bounds i 0 ≤ get_or bounds (suc i) 0
  pub stops : get_or bounds (suc i) 0 ≤ 52

pub is_between : (bounds : List ℕ) (i : ℕ) → AreBounds bounds 52 → suc i < length bounds → IsBetween bounds i
is_between [] i up inside = absurd (omega arith)
is_between (start ∷ ends) i up inside =
    let within = column_within start ends 52 i up.1 (omega arith) in
    record { begins = within.begins; stops = within.stops }

module _ (cards bounds : List ℕ) (columns : List (List ℕ)) (i : ℕ) (is : InMemory cards bounds columns i) where
  pub column_there : get_or columns i [] ≡ slice_range cards (get_or bounds i 0) (get_or bounds (suc i) 0)
  column_there = rw (← is.same) (between bounds is.ascend is.inside)
    where
      between : (bounds : List ℕ) → AreBounds bounds 52 → suc i < length bounds →
          get_or (columns_between cards bounds) i [] ≡ slice_range cards (get_or bounds i 0) (get_or bounds (suc i) 0)
      between [] up inside = absurd (omega arith)
      between (start ∷ ends) up inside = column_at start cards ends i (omega arith)

  pub length-column_there : length (get_or columns i []) ≡ get_or bounds (suc i) 0 - get_or bounds i 0
  length-column_there =
      let within = is_between bounds i is.ascend is.inside in
      ap length column_there ∙ length-range cards (get_or bounds i 0) (get_or bounds (suc i) 0) within.begins (omega (arith, within.stops, is.deck))

  pub bound_within : get_or bounds (suc i) 0 ≤ 52
  bound_within = (is_between bounds i is.ascend is.inside).stops

  pub last_within : (get_or bounds (suc i) 0 ≤ get_or bounds 8 0) × (get_or bounds 8 0 ≤ 52)
  last_within = last bounds i is.ascend is.nine is.inside
    where
      last : (bounds : List ℕ) (i : ℕ) → AreBounds bounds 52 → length bounds ≡ 9 → suc i < length bounds →
          (get_or bounds (suc i) 0 ≤ get_or bounds 8 0) × (get_or bounds 8 0 ≤ 52)
      last [] i up nine inside = absurd (omega arith)
      last (start ∷ ends) i up nine inside =
          let eight : length ends ≡ 8 = omega arith in
          let whole = rw eight at (ascend_to_last start ends 52 up.1) in
          ((column_within start ends (get_or (start ∷ ends) 8 0) i whole (omega arith)).stops, (column_within start ends 52 7 up.1 (omega arith)).stops)

  module _ (count : ℕ) (there : count ≤ length (get_or columns i [])) where
    pub count_there : get_or bounds i 0 + count ≤ get_or bounds (suc i) 0
    count_there = let within = is_between bounds i is.ascend is.inside in let begins = within.begins in omega (arith, length-column_there)

    pub taken_ascend : AreBounds (lowered count (suc i) bounds) 52
    taken_ascend = ascends bounds is.ascend is.inside count_there
      where
        ascends : (bounds : List ℕ) → AreBounds bounds 52 → suc i < length bounds → get_or bounds i 0 + count ≤ get_or bounds (suc i) 0 →
            AreBounds (lowered count (suc i) bounds) 52
        ascends [] up inside some = absurd (omega arith)
        ascends (start ∷ ends) up inside some = (up.0, AscendTo-lowered count start ends i 52 (omega arith) up.1 some)

    pub taken_columns : (new : List ℕ) → AreOut cards new (get_or bounds (suc i) 0) count (get_or bounds 8 0) →
        columns_between new (lowered count (suc i) bounds) ≡ set columns i (take (length (get_or columns i []) - count) (get_or columns i []))
    taken_columns new out =
        taken bounds is.ascend is.nine is.inside count_there out ∙
        ap (λ cs. set cs i (take (length (get_or cs i []) - count) (get_or cs i []))) is.same
      where
        taken : (bounds : List ℕ) → AreBounds bounds 52 → length bounds ≡ 9 → suc i < length bounds →
            get_or bounds i 0 + count ≤ get_or bounds (suc i) 0 → AreOut cards new (get_or bounds (suc i) 0) count (get_or bounds 8 0) →
            columns_between new (lowered count (suc i) bounds) ≡ set (columns_between cards bounds) i
            (take (length (get_or (columns_between cards bounds) i []) - count) (get_or (columns_between cards bounds) i []))
        taken [] up nine inside some out = absurd (omega arith)
        taken (start ∷ ends) up nine inside some out =
            let eight : length ends ≡ 8 = omega arith in
            let within = up_to_last start ends 52 up.1 in
            let last = (column_within start ends 52 7 up.1 (omega arith)).stops in
            cards_taken cards new count (get_or (start ∷ ends) 8 0) start ends i (omega arith)
            (rw eight at (ascend_to_last start ends 52 up.1)) (omega (arith, last, is.deck)) some out

  module _ (more : List ℕ) (room : size_of columns + length more ≤ 52) where
    -- the bounds reach no further than there is room
    few_bounds : AreBounds bounds (52 - length more)
    few_bounds = few bounds is.ascend (rw is.same room)
      where
        few : (bounds : List ℕ) → AreBounds bounds 52 → size_of (columns_between cards bounds) + length more ≤ 52 →
            AreBounds bounds (52 - length more)
        few [] up room = up
        few (start ∷ ends) up room =
            (up.0, few_cards start cards ends (52 - length more) (rw is.deck up.1) (omega (arith, up.0)))

    pub bounds_below : (k : ℕ) → k < length bounds → get_or bounds k 0 + length more ≤ 52
    bounds_below k small = below bounds k few_bounds small
      where
        below : (bounds : List ℕ) (k : ℕ) → AreBounds bounds (52 - length more) → k < length bounds → get_or bounds k 0 + length more ≤ 52
        below [] k up small = absurd (omega arith)
        below (start ∷ ends) zero up small = omega (arith, up.0)
        below (start ∷ ends) (suc k) up small =
            let within = column_within start ends (52 - length more) k up.1 (omega arith) in
            let stops = within.stops in
            omega arith

    pub put_ascend : AreBounds (raised (length more) (suc i) bounds) 52
    put_ascend = ascends bounds few_bounds is.inside
      where
        ascends : (bounds : List ℕ) → AreBounds bounds (52 - length more) → suc i < length bounds → AreBounds (raised (length more) (suc i) bounds) 52
        ascends [] up inside = absurd (omega arith)
        ascends (start ∷ ends) up inside =
            let all : 52 - length more + length more ≡ 52 = omega arith in
            (up.0, rw all at (AscendTo-raised (length more) start ends i (52 - length more) (omega arith) up.1))

    pub put_columns : (new : List ℕ) → AreIn cards new (get_or bounds (suc i) 0) (get_or bounds 8 0) more →
        columns_between new (raised (length more) (suc i) bounds) ≡ set columns i (get_or columns i [] ++ more)
    put_columns new put = laid bounds few_bounds is.nine is.inside put ∙ ap (λ cs. set cs i (get_or cs i [] ++ more)) is.same
      where
        laid : (bounds : List ℕ) → AreBounds bounds (52 - length more) → length bounds ≡ 9 → suc i < length bounds →
            AreIn cards new (get_or bounds (suc i) 0) (get_or bounds 8 0) more →
            columns_between new (raised (length more) (suc i) bounds) ≡ set (columns_between cards bounds) i (get_or (columns_between cards bounds) i [] ++ more)
        laid [] up nine inside put = absurd (omega arith)
        laid (start ∷ ends) up nine inside put =
            let eight : length ends ≡ 8 = omega arith in
            let last = (column_within start ends (52 - length more) 7 up.1 (omega arith)).stops in
            cards_put cards new more (get_or (start ∷ ends) 8 0) start ends i (omega arith)
            (rw eight at (ascend_to_last start ends (52 - length more) up.1)) (omega (arith, last, is.deck, room)) put

-- ---- all cards of the columns

joined-columns_from : (start : ℕ) (cards ends : List ℕ) → Ascend start ends (length cards) →
    flat_map (λ column. column) (columns_from start cards ends) ≡ drop start cards
joined-columns_from start cards [] up = sym (drop_all start cards (omega (arith, up)))
joined-columns_from start cards (end ∷ ends) up =
    let on : start + (end - start) ≡ end = omega (arith, up.0) in
    ap (λ rest. slice_range cards start end ++ rest) (joined-columns_from end cards ends up.1 ∙ ap (λ from. drop from cards) (sym on) ∙ sym (drop-drop (end - start) start cards)) ∙
    take-append-drop (end - start) (drop start cards)

Ascend-last : (start : ℕ) (ends : List ℕ) (most : ℕ) → AscendTo start ends most → Ascend start ends (get_or (start ∷ ends) (length ends) 0)
Ascend-last start [] most ascends = refl
Ascend-last start (end ∷ ends) most ascends = (ascends.0, Ascend-last end ends most ascends.1)

pub last_at_most : (start : ℕ) (ends : List ℕ) (most : ℕ) → AscendTo start ends most → get_or (start ∷ ends) (length ends) 0 ≤ most
last_at_most start [] most ascends = ascends
last_at_most start (end ∷ ends) most ascends = last_at_most end ends most ascends.1

-- eight columns are the cards before the last end
module _ (cards ends : List ℕ) (most : ℕ) (eight : length ends ≡ 8) (ascends : AscendTo 0 ends most) (small : most ≤ length cards) where
  same_end : get_or (0 ∷ ends) (length ends) 0 ≡ get_or ends 7 0
  same_end = rw eight

  pub last_end : get_or ends 7 0 ≤ most
  last_end = rw same_end at (last_at_most 0 ends most ascends)

  pub all_cards_laid : flat_map (λ column. column) (columns_from 0 cards ends) ≡ take (get_or ends 7 0) cards
  all_cards_laid =
      let last = get_or ends 7 0 in
      let exact : Ascend 0 ends last = rw same_end at (Ascend-last 0 ends most ascends) in
      let within : last ≤ length cards = let a = last_end in omega arith in
      let size = length-take-le last cards within in
      ap (flat_map (λ column. column)) (sym (columns_in_front 0 cards ends last (AscendTo-up_to 0 ends last last (omega arith) exact) within)) ∙
      joined-columns_from 0 (take last cards) ends (rw size exact)
