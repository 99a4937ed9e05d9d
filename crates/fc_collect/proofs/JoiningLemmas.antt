-- A collection after another one that ends with a line feed, where it begins with a header.
use Rattle.std.proofs.Common.{◌++◌, ◌+◌, ◌∙◌, ◌∷◌, ◌≡◌, [], ap, append-nil, append_assoc, ap₂, arith, Bool, cond, drop}
use Rattle.std.proofs.Common.{false, length, length-append, List, map, refl, sym, true, ℕ}
use Rattle.std.{proofs.lemmas.Grind.{flat_map-append}, specs.List.{flat_map}}
use Rattle.fc_record.specs.RecordTexts.{ends_line, header_mark, RecordText}
use Rattle.fc_collect.proofs.HeaderLemmas.{cut-header_starts}
use Rattle.fc_collect.proofs.{PrintingLemmas.{next_number-records, records_among-append}, RecordLemmas.{begun-number}}
use Rattle.fc_collect.proofs.RecordLemmas.{begun-place, cut-append, cut-induction, finished-append}
use Rattle.fc_collect.proofs.RecordLemmas.{finished_output-append, mark_is, records_of-append, records_of-last}
use Rattle.fc_collect.specs.{Pieces.{header_starts, placed_after}, Promises.{Begins}, Records.{begins_header, begun}}
use Rattle.fc_collect.specs.Records.{begun_by, cut, finished, finished_output, finished_records, has_content, if_record}
use Rattle.fc_collect.specs.Records.{longer, next_number, next_text, nothing, output_of_records, records_among}
use Rattle.fc_collect.specs.Records.{records_of, whole_output}

-- ---- whether a line has ended

ends_line-after : (xs : List ℕ) (byte : ℕ) (ys : List ℕ) → ends_line (xs ++ byte ∷ ys) ≡ ends_line (byte ∷ ys)
ends_line-after [] byte ys = refl
ends_line-after (x ∷ []) byte ys = refl
ends_line-after (x ∷ y ∷ xs) byte ys = ends_line-after (y ∷ xs) byte ys

-- one more byte of what is begun
begun_by-ends : (text : RecordText) (byte : ℕ) (rest : List ℕ)
    → ends_line ((begun_by text byte).bytes ++ rest) ≡ ends_line (text.bytes ++ byte ∷ rest)
begun_by-ends text byte rest = by_test (begins_header text byte) refl
  where
    by_test : (b : Bool) → begins_header text byte ≡ b
        → ends_line ((cond b (next_text text) (longer text byte)).bytes ++ rest) ≡ ends_line (text.bytes ++ byte ∷ rest)
    by_test true e = ap (λ n. ends_line (n ∷ rest)) (sym (mark_is text byte e)) ∙ sym (ends_line-after text.bytes byte rest)
    by_test false e = ap ends_line (append_assoc text.bytes (byte ∷ []) rest)

pub begun-ends_from : (text : RecordText) (bytes : List ℕ) → ends_line (begun text bytes).bytes ≡ ends_line (text.bytes ++ bytes)
begun-ends_from text [] = ap ends_line (sym (append-nil text.bytes))
begun-ends_from text (byte ∷ bytes) = begun-ends_from (begun_by text byte) bytes ∙ begun_by-ends text byte bytes

-- a header after a collection whose last line has ended begins a text
begins_after : (x : List ℕ) → ends_line x ≡ true → begins_header (begun nothing x) header_mark ≡ true
begins_after x ended = rw (begun-ends_from nothing x ∙ ended) refl

-- ---- texts after others

pub next_text-after : (records bytes : ℕ) (text : RecordText)
    → next_text (placed_after records bytes text) ≡ placed_after records bytes (next_text text)
next_text-after records bytes text =
    ap₂ (λ number start. record { number = number; start = start; bytes = header_mark ∷ [] }) (by_test (has_content text.bytes)) (omega arith)
  where
    by_test : (b : Bool) → cond b (records + text.number + 1) (records + text.number) ≡ records + cond b (text.number + 1) text.number
    by_test true = omega arith
    by_test false = refl

pub cut-after : (records bytes : ℕ) (text : RecordText) (rest : List ℕ)
    → cut (placed_after records bytes text) rest ≡ map (placed_after records bytes) (cut text rest)
cut-after records bytes text rest =
    cut-induction (λ text rest texts. cut (placed_after records bytes text) rest ≡ map (placed_after records bytes) texts)
    (λ text. refl)
    (λ text byte rest e same. rw (e, next_text-after records bytes text, same))
    (λ text byte rest e same. rw (e, same))
    text rest

-- what a header begins after a collection is what one begins at the front, placed after it
next_text-begun : (x : List ℕ) → next_text (begun nothing x) ≡ placed_after (length (records_of x)) (length x) (next_text nothing)
next_text-begun x = rw (number, start)
  where
    last : RecordText
    last = begun nothing x

    number : next_number last ≡ length (records_of x) + 1
    number =
        let one = next_number-records last in
        let all : length (records_of x) ≡ length (finished_records x) + length (if_record last) =
        rw (records_of-last x, length-append (finished_records x) (if_record last)) in
        omega (arith, one, all, begun-number nothing x)

    start : last.start + length last.bytes ≡ length x + 0
    start = let place = begun-place nothing x in omega (arith, place)

pub texts-joined : (x y : List ℕ) → ends_line x ≡ true
    → cut nothing (x ++ header_mark ∷ y)
    ≡ cut nothing x ++ map (placed_after (length (records_of x)) (length x)) (drop 1 (cut nothing (header_mark ∷ y)))
texts-joined x y ended = rw (
  cut-append nothing x (header_mark ∷ y),
  begins_after x ended,
  ← append_assoc (finished nothing x) (begun nothing x ∷ []) _,
  next_text-begun x,
  cut-after (length (records_of x)) (length x) (next_text nothing) y,
)

-- the records among texts that are placed after others
pub records_among-after : (records bytes : ℕ) (texts : List RecordText)
    → records_among (map (placed_after records bytes) texts) ≡ map (placed_after records bytes) (records_among texts)
records_among-after records bytes [] = refl
records_among-after records bytes (text ∷ texts) = by_test (has_content text.bytes) (records_among-after records bytes texts)
  where
    by_test : (b : Bool) → records_among (map (placed_after records bytes) texts) ≡ map (placed_after records bytes) (records_among texts)
        → cond b (placed_after records bytes text ∷ []) [] ++ records_among (map (placed_after records bytes) texts)
        ≡ map (placed_after records bytes) (cond b (text ∷ []) [] ++ records_among texts)
    by_test true same = rw same
    by_test false same = same

pub records-joined : (x y : List ℕ) → ends_line x ≡ true
    → records_of (x ++ header_mark ∷ y) ≡ records_of x ++ map (placed_after (length (records_of x)) (length x)) (records_of (header_mark ∷ y))
records-joined x y ended =
    ap records_among (texts-joined x y ended)
    ∙ records_among-append (cut nothing x) _
    ∙ ap (λ l. records_of x ++ l) (records_among-after (length (records_of x)) (length x) (drop 1 (cut nothing (header_mark ∷ y))))

-- ---- output

pub output-joined : (output_of : RecordText → List ℕ) (x y : List ℕ) → ends_line x ≡ true
    → Begins (output_of_records output_of x) (output_of_records output_of (x ++ header_mark ∷ y))
output-joined output_of x y ended = (_, sym (ap (flat_map output_of) (records-joined x y ended) ∙ flat_map-append output_of (records_of x) _))

-- what is printed so far begins what is printed of more
pub finished-begins : (output_of : RecordText → List ℕ) (x y : List ℕ) → Begins (finished_output output_of x) (finished_output output_of (x ++ y))
finished-begins output_of x y = (_, sym (finished_output-append output_of x y))

pub begun-begins : (output_of : RecordText → List ℕ) (x y : List ℕ) → Begins (finished_output output_of x) (output_of_records output_of (x ++ y))
begun-begins output_of x y = (_, sym (ap (flat_map output_of) (records_of-append x y) ∙ flat_map-append output_of (finished_records x) _))

-- ---- where a read failed

-- one text alone is only begun
none_of_one : (texts : List RecordText) (text : RecordText) (starts : List ℕ) → map (λ text. text.start) (texts ++ text ∷ []) ≡ starts
    → length starts ≡ 1 → texts ≡ []
none_of_one [] text starts same one = refl
none_of_one (first ∷ []) text starts same one = let long = ap length same in absurd (omega (arith, long, one))
none_of_one (first ∷ second ∷ rest) text starts same one = let long = ap length same in absurd (omega (arith, long, one))

-- where no header begins nothing is finished
finished-none : (x : List ℕ) → header_starts x ≡ [] → finished nothing x ≡ []
finished-none x none = none_of_one (finished nothing x) (begun nothing x) (0 ∷ header_starts x) (cut-header_starts x) (ap (λ l. length (0 ∷ l)) none)

pub finished_records-none : (x : List ℕ) → header_starts x ≡ [] → finished_records x ≡ []
finished_records-none x none = ap records_among (finished-none x none)

pub output-none : (output_of : RecordText → List ℕ) (x : List ℕ) → header_starts x ≡ [] → finished_output output_of x ≡ []
output-none output_of x none = ap (flat_map output_of) (finished_records-none x none)

-- after the one header no further text is finished
finished-one : (y : List ℕ) → header_starts (header_mark ∷ y) ≡ 0 ∷ [] → finished (next_text nothing) y ≡ []
finished-one y one =
    none_of_one (finished (next_text nothing) y) (begun (next_text nothing) y) (header_starts (header_mark ∷ y))
    (tail (cut-header_starts (header_mark ∷ y))) (ap length one)
  where
    tail : {a b : ℕ} {xs ys : List ℕ} → a ∷ xs ≡ b ∷ ys → xs ≡ ys
    tail e = ap (drop 1) e

-- the begun texts of the same bytes, wherever they are, are finished alike
finished-after : (records bytes : ℕ) (text : RecordText) (rest : List ℕ) → finished text rest ≡ []
    → finished (placed_after records bytes text) rest ≡ []
finished-after records bytes text rest none =
    none_of_one (finished (placed_after records bytes text) rest) (begun (placed_after records bytes text) rest)
    (map (λ text. text.start) (cut (placed_after records bytes text) rest)) refl
    (rw (cut-after records bytes text rest, none))

-- so of what is read on up to one more header the records before it are finished
pub finished_records-failed : (x y : List ℕ) → ends_line x ≡ true → header_starts (header_mark ∷ y) ≡ 0 ∷ []
    → finished_records (x ++ header_mark ∷ y) ≡ records_of x
finished_records-failed x y ended one = rw (
  finished-append nothing x (header_mark ∷ y),
  begins_after x ended,
  next_text-begun x,
  finished-after (length (records_of x)) (length x) (next_text nothing) y (finished-one y one),
)

pub output-failed : (output_of : RecordText → List ℕ) (x y : List ℕ) → ends_line x ≡ true → header_starts (header_mark ∷ y) ≡ 0 ∷ []
    → finished_output output_of (x ++ header_mark ∷ y) ≡ output_of_records output_of x
output-failed output_of x y ended one = ap (flat_map output_of) (finished_records-failed x y ended one)

-- and of that with what is printed at the end
pub whole-begins : (output_of : RecordText → List ℕ) (ending : List RecordText → List ℕ) (x y : List ℕ)
    → Begins (finished_output output_of x) (whole_output output_of ending (x ++ y))
whole-begins output_of ending x y =
    let begins = begun-begins output_of x y in (
      begins.0 ++ ending (records_of (x ++ y)),
      sym (append_assoc (finished_output output_of x) begins.0 (ending (records_of (x ++ y))))
          ∙ ap (λ text. text ++ ending (records_of (x ++ y))) begins.1,
    )
