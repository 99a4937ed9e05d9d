-- What the limits of a run that is given no others say.
use Rattle.std.proofs.Common.{◌&&◌, ◌*◌, ◌++◌, ◌+◌, ◌-◌, ◌<◌, ◌==◌, ◌∷◌, ◌≡◌, ◌≤◌, [], All, ap, append_assoc, ap₂}
use Rattle.std.proofs.Common.{arith, Bool, cond, drop, false, length, length-append, length-drop, length-take-le, List}
use Rattle.std.proofs.{Common.{refl, Some, subst, sym, take, true, ℕ}, lemmas.List.Elements.{All-cons, All-nil}}
use Rattle.fc_record.specs.RecordTexts.{ends_line, header_mark, RecordText}
use Rattle.fc_collect.specs.{inside.{cut_in, Searched, text_at}, Limits.{most_record_bytes}, Promises.{IsSmall}}
use Rattle.fc_collect.specs.Records.{begins_header, begun, begun_by, cut, finished, finished_by, has_content, longer}
use Rattle.fc_collect.specs.Records.{next_number, next_text}
use Rattle.fc_collect.specs.declared.{engine.progress.Progress.{Progress}, streams.limits.Limits.{Limits}}

-- the text has no number too many
abbrev pub IsNumbered : ℕ → RecordText → Type 0
IsNumbered most text = text.number ≤ most

abbrev Small : RecordText → Type 0
Small text = (length text.bytes ≤ 65536) × (text.number ≤ 65536)

-- ---- few bytes hold few texts: a header takes two bytes at least, with the line feed before it
cut_more : (text : RecordText) (byte : ℕ) (rest : List ℕ) → cut text (byte ∷ rest) ≡ finished_by text byte ++ cut (begun_by text byte) rest
cut_more text byte rest = append_assoc (finished_by text byte) (finished (begun_by text byte) rest) (begun (begun_by text byte) rest ∷ [])

abbrev one_if : Bool → ℕ
one_if b = cond b 1 0

one_if_le : (b : Bool) → one_if b ≤ 1
one_if_le true = omega arith
one_if_le false = omega arith

next_number_le : (text : RecordText) → next_number text ≤ text.number + 1
next_number_le text = elim (has_content text.bytes) as (λ b. cond b (text.number + 1) text.number ≤ text.number + 1) [
  | true ↦ omega arith
  | false ↦ omega arith
]

left_true : (a b : Bool) → (a && b) ≡ true → a ≡ true
left_true true b e = refl
left_true false b e = e

-- twice the number of the text, and one more where a header can follow
abbrev weight : RecordText → ℕ
weight text = 2 * text.number + one_if (ends_line text.bytes)

-- each byte adds one at most
few_texts : (most : ℕ) (text : RecordText) (bytes : List ℕ) → weight text + length bytes ≤ 2 * most + 1 → All (IsNumbered most) (cut text bytes)
few_texts most text [] few = All-cons (IsNumbered most) text [] (omega (arith, few)) (All-nil (IsNumbered most))
few_texts most text (byte ∷ rest) few =
    subst (All (IsNumbered most)) (sym (cut_more text byte rest)) (by_case (begins_header text byte) refl (few_texts most (next_text text) rest) (few_texts most (longer text byte) rest))
  where
    Follow : Bool → Type 0
    Follow begins = All (IsNumbered most) (cond begins (text ∷ []) [] ++ cut (cond begins (next_text text) (longer text byte)) rest)

    by_case : (begins : Bool) → begins_header text byte ≡ begins
        → (weight (next_text text) + length rest ≤ 2 * most + 1 → All (IsNumbered most) (cut (next_text text) rest))
        → (weight (longer text byte) + length rest ≤ 2 * most + 1 → All (IsNumbered most) (cut (longer text byte) rest))
        → Follow (begins_header text byte)
    by_case true e next more =
        let ends : one_if (ends_line text.bytes) ≡ 1 = ap one_if (left_true (ends_line text.bytes) (byte == header_mark) e) in
        subst Follow (sym e) (All-cons (IsNumbered most) text _ (omega (arith, few)) (next (omega (arith, few, ends, next_number_le text))))
    by_case false e next more = subst Follow (sym e) (more (omega (arith, few, one_if_le (ends_line (text.bytes ++ byte ∷ [])))))

-- a text is no longer than what there is
abbrev Short : ℕ → RecordText → Type 0
Short most text = length text.bytes ≤ most

short_texts : (most : ℕ) (text : RecordText) (bytes : List ℕ) → length text.bytes + length bytes ≤ most → All (Short most) (cut text bytes)
short_texts most text [] few = All-cons (Short most) text [] (omega (arith, few)) (All-nil (Short most))
short_texts most text (byte ∷ rest) few =
    subst (All (Short most)) (sym (cut_more text byte rest)) (by_case (begins_header text byte) (short_texts most (next_text text) rest) (short_texts most (longer text byte) rest))
  where
    Follow : Bool → Type 0
    Follow begins = All (Short most) (cond begins (text ∷ []) [] ++ cut (cond begins (next_text text) (longer text byte)) rest)

    by_case : (begins : Bool)
        → (1 + length rest ≤ most → All (Short most) (cut (next_text text) rest))
        → (length (text.bytes ++ byte ∷ []) + length rest ≤ most → All (Short most) (cut (longer text byte) rest))
        → Follow begins
    by_case true next more = All-cons (Short most) text _ (omega (arith, few)) (next (omega (arith, few)))
    by_case false next more = more (omega (arith, few, length-append text.bytes (byte ∷ [])))

both : (limits : Limits) (texts : List RecordText) → All (Short most_record_bytes) texts → All (IsNumbered limits.records) texts → All (IsSmall limits) texts
both limits texts short few = λ place d within. record { bytes = short place d within; number = few place d within }

-- a header was found, and neither the text before it is too large nor all that is from it on
pub small_found : (limits : Limits) (progress : Progress) (held : List ℕ) (searched len : ℕ) → Searched held searched (Some len) → length held + 2 * progress.number < 2 * limits.records
    → len ≤ most_record_bytes → length held - len ≤ most_record_bytes → All (IsSmall limits) (cut_in progress held searched)
small_found limits progress held searched len found few front rest =
    subst (All (IsSmall limits)) (sym all) (All-cons (IsSmall limits) whole _ (record { bytes = omega (arith, front, length-take-le len held (omega (arith, found.1))); number = omega (arith, few) })
    (both limits _ (short_texts most_record_bytes (next_text whole) later (omega (arith, rest, size, found.1))) (few_texts limits.records (next_text whole) later (omega (arith, few, size, found.1, next_number_le whole)))))
  where
    whole : RecordText
    whole = text_at progress (take len held)

    later : List ℕ
    later = drop (len + 1) held

    size : length later ≡ length held - (len + 1)
    size = length-drop (len + 1) held

    all : cut_in progress held searched ≡ whole ∷ cut (next_text whole) later
    all = ap₂ (λ texts text. texts ++ text ∷ []) (found.3 progress).0 (found.3 progress).1
