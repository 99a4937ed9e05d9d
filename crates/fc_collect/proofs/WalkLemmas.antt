-- Lemmas of the search for the next header.
use Rattle.{fc_board.proofs.BoardLemmas.{All-left, All-right}, memchr.specs.Find.{is_byte, IsFirstByte}}
use Rattle.std.proofs.Common.{◌&&◌, ◌++◌, ◌+◌, ◌-◌, ◌<◌, ◌==◌, ◌↔◌, ◌∙◌, ◌∷◌, ◌≡◌, ◌≤◌, [], add-zero, All, ap}
use Rattle.std.proofs.Common.{append-nil, append_assoc, ap₂, arith, Bool, cond, drop, drop-drop, false, get_or, IsTrue}
use Rattle.std.proofs.Common.{length, length-take-le, List, None, refl, Some, subst, suc, sym, take, true, zero, ℕ}
use Rattle.std.proofs.lemmas.{Bool.{false_from_ne_true}, List.{drop_more}}
use Rattle.std.proofs.lemmas.List.Elements.{All-append, All-cons, All-head, All-nil}
use Rattle.std.proofs.lemmas.List.{get_or-drop, length-drop, take_more}
use Rattle.fc_record.specs.RecordTexts.{ends_line, header_mark, RecordText}
use Rattle.fc_collect.specs.inside.{begun_in, cut_in, finished_in, Passes, PassesNoHeader, Searched, text_at}
use Rattle.fc_collect.specs.{Promises.{IsSmall}, Records.{begun, finished, next_text}}
use Rattle.fc_collect.specs.declared.{engine.progress.Progress.{Progress}, streams.limits.Limits.{Limits}}

-- a byte that is no header goes to what is begun
pub finished-on : (progress : Progress) (xs : List ℕ) (at : ℕ) → at < length xs → (ends_line (take at xs) && get_or xs at 0 == header_mark) ≡ false
    → finished (text_at progress (take at xs)) (drop at xs) ≡ finished (text_at progress (take (at + 1) xs)) (drop (at + 1) xs)
finished-on progress xs at within none =
    let front = text_at progress (take at xs) in
    ap (finished front) (drop_more xs at 0 within)
    ∙ ap (λ b. cond b (front ∷ []) [] ++ finished (cond b (next_text front) (text_at progress (take at xs ++ get_or xs at 0 ∷ []))) (drop (at + 1) xs)) none
    ∙ ap (λ l. finished (text_at progress l) (drop (at + 1) xs)) (sym (take_more xs at 0 within))

pub begun-on : (progress : Progress) (xs : List ℕ) (at : ℕ) → at < length xs → (ends_line (take at xs) && get_or xs at 0 == header_mark) ≡ false
    → begun (text_at progress (take at xs)) (drop at xs) ≡ begun (text_at progress (take (at + 1) xs)) (drop (at + 1) xs)
begun-on progress xs at within none =
    let front = text_at progress (take at xs) in
    ap (begun front) (drop_more xs at 0 within)
    ∙ ap (λ b. begun (cond b (next_text front) (text_at progress (take at xs ++ get_or xs at 0 ∷ []))) (drop (at + 1) xs)) none
    ∙ ap (λ l. begun (text_at progress l) (drop (at + 1) xs)) (sym (take_more xs at 0 within))

-- bytes of which none is the mark are no headers
no_header : (xs : List ℕ) (at : ℕ) → (get_or xs at 0 == header_mark) ≡ false → (ends_line (take at xs) && get_or xs at 0 == header_mark) ≡ false
no_header xs at none = ap (λ b. ends_line (take at xs) && b) none ∙ elim (ends_line (take at xs)) as (λ b. (b && false) ≡ false) [
  | true ↦ refl
  | false ↦ refl
]

PassesNoHeader-none : (xs : List ℕ) (from : ℕ) → PassesNoHeader xs from from
PassesNoHeader-none xs from = record { finished_same = λ progress. refl; begun_same = λ progress. refl }

PassesNoHeader-one : (xs : List ℕ) (from at : ℕ) → at < length xs → (ends_line (take at xs) && get_or xs at 0 == header_mark) ≡ false → PassesNoHeader xs from at → PassesNoHeader xs from (at + 1)
PassesNoHeader-one xs from at within none passed = record {
  finished_same = λ progress. passed.finished_same progress ∙ finished-on progress xs at within none;
  begun_same = λ progress. passed.begun_same progress ∙ begun-on progress xs at within none;
}

-- so many bytes without the mark
PassesNoHeader-many : (xs : List ℕ) (from count : ℕ) → from + count ≤ length xs → ((k : ℕ) → k < count → (get_or xs (from + k) 0 == header_mark) ≡ false) → PassesNoHeader xs from (from + count)
PassesNoHeader-many xs from zero within none = subst (PassesNoHeader xs from) (sym (add-zero from)) (PassesNoHeader-none xs from)
PassesNoHeader-many xs from (suc count) within none =
    subst (PassesNoHeader xs from) (omega arith)
    (PassesNoHeader-one xs from (from + count) (omega arith) (no_header xs (from + count) (none count (omega arith)))
    (PassesNoHeader-many xs from count (omega arith) (λ k below. none k (omega arith))))

module _ (xs : List ℕ) (from : ℕ) (inside : from ≤ length xs) where
  -- the mark is not found after the place
  pub PassesNoHeader-none_found : IsFirstByte (is_byte header_mark) (drop from xs) None → PassesNoHeader xs from (length xs)
  PassesNoHeader-none_found nowhere =
      let long = length-drop from xs in
      subst (PassesNoHeader xs from) (omega (arith, long))
      (PassesNoHeader-many xs from (length (drop from xs)) (omega (arith, long))
      (λ k below. ap (λ byte. byte == header_mark) (sym (get_or-drop from xs k 0)) ∙ false_from_ne_true _ (nowhere k (omega arith) below)))

  -- or first so many bytes ahead
  pub PassesNoHeader-found : (ahead : ℕ) → IsFirstByte (is_byte header_mark) (drop from xs) (Some ahead) → PassesNoHeader xs from (from + ahead)
  PassesNoHeader-found ahead found =
      let long = length-drop from xs in
      PassesNoHeader-many xs from ahead (omega (arith, long, found.0.high))
      (λ k below. ap (λ byte. byte == header_mark) (sym (get_or-drop from xs k 0)) ∙ false_from_ne_true _ (found.0.before k (omega arith) below))

-- ---- parts of a list

-- ---- the walk

-- ---- the walk over the headers of what is held

-- the texts `done` end within the first `front` bytes held, and the next one has no header after its first byte before `from`
pub record Walks (old : Progress) (held : List ℕ) (searched : ℕ) (at : Progress) (front from : ℕ) (done : List RecordText) : Type 0 where
  pub within : front + from ≤ length held
  pub places : at.start + length (drop front held) ≡ old.start + length held
  pub finished : finished_in old held searched ≡ done ++ finished_in at (drop front held) from
  pub begun : begun_in old held searched ≡ begun_in at (drop front held) from

-- none is done
pub walks_first : (old : Progress) (held : List ℕ) (searched : ℕ) → searched ≤ length held → Walks old held searched old 0 searched []
walks_first old held searched within = record { within = omega arith; places = refl; finished = refl; begun = refl }

-- a header was found
pub walks_on : (old at new : Progress) (held rest bytes : List ℕ) (searched front from len : ℕ) (done : List RecordText)
    → Walks old held searched at front from done → rest ≡ drop front held → Searched rest from (Some len) → bytes ≡ take len (drop front held) → Passes at new bytes
    → Walks old held searched new (front + len) 1 (done ++ text_at at bytes ∷ [])
walks_on old at new held rest bytes searched front from len done so_far is_rest found_in is_bytes passes_in = record {
  within = omega (arith, found.1, length-drop front held);
  places = omega (arith, passes.start, length-take-le len follows (omega (arith, found.1)), so_far.places, length-drop front held, length-drop (front + len) held, found.1);
  finished =
      so_far.finished
      ∙ ap (λ l. done ++ l) ((found.3 at).0 ∙ ap₂ (λ text left. whole ∷ finished text left) (sym is_next) (sym is_left))
      ∙ sym (append_assoc done (whole ∷ []) (finished_in new next 1))
      ∙ ap (λ l. (done ++ text_at at l ∷ []) ++ finished_in new next 1) (sym is_bytes);
  begun = so_far.begun ∙ (found.3 at).1 ∙ ap₂ begun (sym is_next) (sym is_left);
}
  where
    follows : List ℕ
    follows = drop front held

    found : Searched follows from (Some len)
    found = subst (λ l. Searched l from (Some len)) is_rest found_in

    passes : Passes at new (take len follows)
    passes = subst (Passes at new) is_bytes passes_in

    whole : RecordText
    whole = text_at at (take len follows)

    next : List ℕ
    next = drop (front + len) held

    same : next ≡ drop len follows
    same = sym (drop-drop len front held ∙ ap (λ n. drop n held) (omega arith))

    is_left : drop 1 next ≡ drop (len + 1) follows
    is_left = ap (drop 1) same ∙ drop-drop 1 len follows ∙ ap (λ n. drop n follows) (omega arith)

    is_next : text_at new (take 1 next) ≡ next_text whole
    is_next =
        ap (text_at new) (ap (take 1) same ∙ found.2)
        ∙ ap₂ (λ number start. record { number = number; start = start; bytes = header_mark ∷ [] }) passes.number passes.start

-- no header is left
pub walks_last : (old at : Progress) (held rest : List ℕ) (searched front from : ℕ) (done : List RecordText)
    → Walks old held searched at front from done → rest ≡ drop front held → Searched rest from None
    → (finished_in old held searched ≡ done) × (begun_in old held searched ≡ text_at at (drop front held))
walks_last old at held rest searched front from done so_far is_rest found_in =
    (so_far.finished ∙ ap (λ l. done ++ l) (found at).0 ∙ append-nil done, so_far.begun ∙ (found at).1)
  where
    found : Searched (drop front held) from None
    found = subst (λ l. Searched l from None) is_rest found_in

-- the text before the header that was found is one of those held
pub walks_more : (old at : Progress) (held rest bytes : List ℕ) (searched front from len : ℕ) (done : List RecordText)
    → Walks old held searched at front from done → rest ≡ drop front held → Searched rest from (Some len) → bytes ≡ take len (drop front held)
    → (more : List RecordText) × (finished_in old held searched ≡ done ++ text_at at bytes ∷ more)
walks_more old at held rest bytes searched front from len done so_far is_rest found_in is_bytes = (
  finished (next_text (text_at at (take len (drop front held)))) (drop (len + 1) (drop front held)),
  so_far.finished ∙ ap (λ l. done ++ l) (found.3 at).0 ∙ ap (λ l. done ++ text_at at l ∷ finished (next_text (text_at at (take len (drop front held)))) (drop (len + 1) (drop front held))) (sym is_bytes),
)
  where
    found : Searched (drop front held) from (Some len)
    found = subst (λ l. Searched l from (Some len)) is_rest found_in

pub small_more : (limits : Limits) (old : Progress) (held : List ℕ) (searched : ℕ) (done more : List RecordText) (text : RecordText)
    → finished_in old held searched ≡ done ++ text ∷ more → All (IsSmall limits) (cut_in old held searched) → IsSmall limits text
small_more limits old held searched done more text same small =
    All-head (IsSmall limits) text more (All-right (IsSmall limits) done (text ∷ more) (subst (All (IsSmall limits)) same (All-left (IsSmall limits) (finished_in old held searched) _ small)))

-- ---- what loops say of slices and tests

pub taken : (held : List ℕ) (front len : ℕ) → take (front + len - front) (drop front held) ≡ take len (drop front held)
taken held front len = let same : front + len - front ≡ len = omega arith in ap (λ n. take n (drop front held)) same

pub untrue : (b : Bool) → b ≡ false → IsTrue b → ⊥
untrue b is_not is = absurd (cc)

-- all texts are small if those before the last one are and it is
pub small_last : (limits : Limits) (last : RecordText) (done all : List RecordText) (T : Type 0) → all ≡ done ++ last ∷ [] → All (IsSmall limits) done → (T ↔ IsSmall limits last) → T ↔ All (IsSmall limits) all
small_last limits last done all T same small one = (
  λ t. subst (All (IsSmall limits)) (sym same) (All-append (IsSmall limits) done (last ∷ []) small (All-cons (IsSmall limits) last [] (one.0 t) (All-nil (IsSmall limits)))),
  λ each. one.1 (All-head (IsSmall limits) last [] (All-right (IsSmall limits) done (last ∷ []) (subst (All (IsSmall limits)) same each))),
)
