-- Laws of the texts that bytes are cut into, byte by byte.
use Rattle.std.proofs.Common.{◌++◌, ◌+◌, ◌∙◌, ◌∷◌, ◌≡◌, [], ap, append-nil, append_assoc, ap₂, arith, Bool, cond, eqb}
use Rattle.std.proofs.Common.{false, length, length-append, List, refl, subst, sym, true, ℕ}
use Rattle.std.{proofs.lemmas.{Bool.{and_parts, eqb-true}, Grind.{flat_map-append}}, specs.List.{flat_map}}
use Rattle.fc_record.specs.RecordTexts.{ends_line, header_mark, RecordText}
use Rattle.fc_collect.{proofs.PrintingLemmas.{records_among-append}, specs.Records.{begins_header, begun, begun_by}}
use Rattle.fc_collect.specs.Records.{cut, finished, finished_by, finished_output, finished_records, has_content}
use Rattle.fc_collect.specs.Records.{if_record, longer, next_number, next_text, nothing, records_among, records_of}

-- ---- some bytes and then others

pub begun-append : (text : RecordText) (x y : List ℕ) → begun text (x ++ y) ≡ begun (begun text x) y
begun-append text [] y = refl
begun-append text (byte ∷ x) y = begun-append (begun_by text byte) x y

pub finished-append : (text : RecordText) (x y : List ℕ) → finished text (x ++ y) ≡ finished text x ++ finished (begun text x) y
finished-append text [] y = refl
finished-append text (byte ∷ x) y =
    ap (λ l. finished_by text byte ++ l) (finished-append (begun_by text byte) x y)
    ∙ sym (append_assoc (finished_by text byte) (finished (begun_by text byte) x) _)

pub cut-append : (text : RecordText) (x y : List ℕ) → cut text (x ++ y) ≡ finished text x ++ cut (begun text x) y
cut-append text x y =
    ap₂ (λ l t. l ++ t ∷ []) (finished-append text x y) (begun-append text x y)
    ∙ append_assoc (finished text x) (finished (begun text x) y) _

-- the records that some bytes and then others finish
pub finished_among-append : (first : RecordText) (x y : List ℕ) → records_among (finished first (x ++ y)) ≡ records_among (finished first x) ++ records_among (finished (begun first x) y)
finished_among-append first x y = ap records_among (finished-append first x y) ∙ records_among-append (finished first x) (finished (begun first x) y)

pub finished_records-append : (x y : List ℕ) → finished_records (x ++ y) ≡ finished_records x ++ records_among (finished (begun nothing x) y)
finished_records-append = finished_among-append nothing

pub records_of-append : (x y : List ℕ) → records_of (x ++ y) ≡ finished_records x ++ records_among (cut (begun nothing x) y)
records_of-append x y = ap records_among (cut-append nothing x y) ∙ records_among-append (finished nothing x) (cut (begun nothing x) y)

-- the last text is a record or none
pub records_among-last : (first : RecordText) (x : List ℕ) → records_among (cut first x) ≡ records_among (finished first x) ++ if_record (begun first x)
records_among-last first x = records_among-append (finished first x) (begun first x ∷ []) ∙ ap (λ l. records_among (finished first x) ++ l) (append-nil (if_record (begun first x)))

pub records_of-last : (x : List ℕ) → records_of x ≡ finished_records x ++ if_record (begun nothing x)
records_of-last = records_among-last nothing

pub finished_output-append : (output_of : RecordText → List ℕ) (x y : List ℕ)
    → finished_output output_of (x ++ y) ≡ finished_output output_of x ++ flat_map output_of (records_among (finished (begun nothing x) y))
finished_output-append output_of x y =
    ap (flat_map output_of) (finished_records-append x y) ∙ flat_map-append output_of (finished_records x) _

-- ---- places

-- what is begun ends where the bytes end
pub begun-place : (text : RecordText) (x : List ℕ) → (begun text x).start + length (begun text x).bytes ≡ text.start + length text.bytes + length x
begun-place text [] = omega arith
begun-place text (byte ∷ x) = begun-place (begun_by text byte) x ∙ one (begins_header text byte)
  where
    one : (b : Bool) → (let next = cond b (next_text text) (longer text byte) in next.start + length next.bytes + length x) ≡ text.start + length text.bytes + length (byte ∷ x)
    one true = omega arith
    one false = omega (arith, length-append text.bytes (byte ∷ []))

-- numbers count records
pub begun-number : (text : RecordText) (x : List ℕ) → (begun text x).number ≡ text.number + length (records_among (finished text x))
begun-number text [] = omega arith
begun-number text (byte ∷ x) = by_test (begins_header text byte) (begun-number (next_text text) x) (begun-number (longer text byte) x)
  where
    next : Bool → RecordText
    next b = cond b (next_text text) (longer text byte)

    by_record : (k : Bool) (n : ℕ) (all : List RecordText) → n ≡ cond k (text.number + 1) text.number + length (records_among all)
        → n ≡ text.number + length (cond k (text ∷ []) [] ++ records_among all)
    by_record true n all e = omega (arith, e)
    by_record false n all e = e

    by_test : (b : Bool) → (begun (next true) x).number ≡ (next true).number + length (records_among (finished (next true) x))
        → (begun (next false) x).number ≡ (next false).number + length (records_among (finished (next false) x))
        → (begun (next b) x).number ≡ text.number + length (records_among (cond b (text ∷ []) [] ++ finished (next b) x))
    by_test true at_header on = by_record (has_content text.bytes) _ (finished (next true) x) at_header
    by_test false at_header on = on

-- ---- the texts of a collection, one byte after another

-- the texts with one byte more in front, where it begins a header or not
abbrev cut_by : Bool → RecordText → ℕ → List ℕ → List RecordText
cut_by b text byte bytes =
    let next = cond b (next_text text) (longer text byte) in
    (cond b (text ∷ []) [] ++ finished next bytes) ++ begun next bytes ∷ []

-- a fact on what texts are cut, byte by byte
pub cut-induction : (P : RecordText → List ℕ → List RecordText → Type 0)
    → ((text : RecordText) → P text [] (text ∷ []))
    → ((text : RecordText) (byte : ℕ) (bytes : List ℕ) → begins_header text byte ≡ true → P (next_text text) bytes (cut (next_text text) bytes)
    → P text (byte ∷ bytes) (text ∷ cut (next_text text) bytes))
    → ((text : RecordText) (byte : ℕ) (bytes : List ℕ) → begins_header text byte ≡ false → P (longer text byte) bytes (cut (longer text byte) bytes)
    → P text (byte ∷ bytes) (cut (longer text byte) bytes))
    → (text : RecordText) (bytes : List ℕ) → P text bytes (cut text bytes)
cut-induction P last at on text [] = last text
cut-induction P last at on text (byte ∷ bytes) =
    by_test (begins_header text byte) refl (cut-induction P last at on (next_text text) bytes) (cut-induction P last at on (longer text byte) bytes)
  where
    by_test : (b : Bool) → begins_header text byte ≡ b → P (next_text text) bytes (cut (next_text text) bytes) → P (longer text byte) bytes (cut (longer text byte) bytes)
        → P text (byte ∷ bytes) (cut_by b text byte bytes)
    by_test true e next further = at text byte bytes e next
    by_test false e next further = on text byte bytes e further

-- the byte that begins a header
pub mark_is : (text : RecordText) (byte : ℕ) → begins_header text byte ≡ true → byte ≡ header_mark
mark_is text byte e = eqb-true byte header_mark (and_parts (ends_line text.bytes) (eqb byte header_mark) e).1

-- each text begins where the one before it ends
abbrev PlacedFrom : ℕ → List RecordText → Type 0
PlacedFrom place [] = Unit {0}
PlacedFrom place (text ∷ rest) = (text.start ≡ place) × PlacedFrom (place + length text.bytes) rest

cut-PlacedFrom : (text : RecordText) (bytes : List ℕ) → PlacedFrom text.start (cut text bytes)
cut-PlacedFrom text bytes =
    cut-induction (λ text bytes texts. PlacedFrom text.start texts) (λ text. (refl, tt)) (λ text byte bytes e placed. (refl, placed)) (λ text byte bytes e placed. placed)
    text bytes

placed_at : (place : ℕ) (before after : List RecordText) (text : RecordText) → PlacedFrom place (before ++ text ∷ after) → text.start ≡ place + length (flat_map (λ text. text.bytes) before)
placed_at place [] after text placed = omega (arith, placed.0)
placed_at place (first ∷ before) after text placed =
    let later = placed_at (place + length first.bytes) before after text placed.1 in
    omega (arith, later, length-append first.bytes (flat_map (λ text. text.bytes) before))

pub cut-start : (collection : List ℕ) (before after : List RecordText) (text : RecordText) → cut nothing collection ≡ before ++ text ∷ after
    → text.start ≡ length (flat_map (λ text. text.bytes) before)
cut-start collection before after text same =
    let at = placed_at 0 before after text (subst (PlacedFrom 0) same (cut-PlacedFrom nothing collection)) in
    omega (arith, at)

-- each record has the number after that of the one before it
abbrev pub NumberedFrom : ℕ → List RecordText → Type 0
NumberedFrom number [] = Unit {0}
NumberedFrom number (text ∷ rest) = (text.number ≡ number) × NumberedFrom (number + 1) rest

if_record-NumberedFrom : (text : RecordText) (rest : List RecordText) → NumberedFrom (next_number text) rest → NumberedFrom text.number (if_record text ++ rest)
if_record-NumberedFrom text rest numbered = by_test (has_content text.bytes) numbered
  where
    by_test : (b : Bool) → NumberedFrom (cond b (text.number + 1) text.number) rest → NumberedFrom text.number (cond b (text ∷ []) [] ++ rest)
    by_test true h = (refl, h)
    by_test false h = h

pub cut-NumberedFrom : (text : RecordText) (bytes : List ℕ) → NumberedFrom text.number (records_among (cut text bytes))
cut-NumberedFrom text bytes =
    cut-induction (λ text bytes texts. NumberedFrom text.number (records_among texts))
    (λ text. if_record-NumberedFrom text [] tt)
    (λ text byte bytes e numbered. if_record-NumberedFrom text (records_among (cut (next_text text) bytes)) numbered)
    (λ text byte bytes e numbered. numbered)
    text bytes

numbered_at : (number : ℕ) (before after : List RecordText) (text : RecordText) → NumberedFrom number (before ++ text ∷ after) → text.number ≡ number + length before
numbered_at number [] after text numbered = omega (arith, numbered.0)
numbered_at number (first ∷ before) after text numbered = let later = numbered_at (number + 1) before after text numbered.1 in omega (arith, later)

pub cut-number : (collection : List ℕ) (before after : List RecordText) (text : RecordText) → records_of collection ≡ before ++ text ∷ after → text.number ≡ length before + 1
cut-number collection before after text same =
    let at = numbered_at 1 before after text (subst (NumberedFrom 1) same (cut-NumberedFrom nothing collection)) in
    omega (arith, at)

-- the texts are the bytes
pub cut-bytes : (collection : List ℕ) → flat_map (λ text. text.bytes) (cut nothing collection) ≡ collection
cut-bytes collection =
    cut-induction (λ text bytes texts. flat_map (λ text. text.bytes) texts ≡ text.bytes ++ bytes)
    (λ text. refl)
    (λ text byte bytes e same. ap (λ l. text.bytes ++ l) same ∙ ap (λ n. text.bytes ++ n ∷ bytes) (sym (mark_is text byte e)))
    (λ text byte bytes e same. same ∙ append_assoc text.bytes (byte ∷ []) bytes)
    nothing collection
