-- A collection is read piece by piece, where each piece is handed the number and the place at which it is.
use Rattle.std.proofs.Common.{◌++◌, ◌+◌, ◌-◌, ◌↔◌, ◌∙◌, ◌∷◌, ◌≡◌, ◌≤◌, [], All, ap, append-nil, append_assoc, ap₂}
use Rattle.std.proofs.Common.{arith, Bool, cond, false, length, length-append, List, map, refl, sym, true, ℕ}
use Rattle.std.proofs.lemmas.Grind.{flat_map-append}
use Rattle.std.proofs.lemmas.List.Elements.{All-append, All-cons, All-head, All-map, All-nil, All-tail, All-weaker}
use Rattle.std.{proofs.lemmas.List.{map-append, Sums.{sum_by-append}}, specs.List.{count_by, flat_map}}
use Rattle.{fc_board.proofs.BoardLemmas.{All-left, All-right}, fc_collect.specs.declared.streams.limits.Limits.{Limits}}
use Rattle.fc_record.specs.RecordTexts.{ends_line, header_mark, RecordText}
use Rattle.fc_collect.proofs.JoiningLemmas.{begun-ends_from, cut-after, next_text-after as next_text-placed}
use Rattle.fc_collect.proofs.JoiningLemmas.{records_among-after}
use Rattle.fc_collect.proofs.PrintingLemmas.{next_number-records, records_among-append}
use Rattle.fc_collect.proofs.RecordLemmas.{begun-number, begun-place, cut-append, cut-induction, records_among-last}
use Rattle.fc_collect.specs.{Limits.{most_record_bytes}, Pieces.{IsPiece, outputs_of_pieces, placed_after}}
use Rattle.fc_collect.specs.{Promises.{IsSmall, IsWithinLimits}, Records.{begins_header, begun, begun_by, cut}}
use Rattle.fc_collect.specs.Records.{finished, finished_by, finished_from, finished_records, first_of, if_record}
use Rattle.fc_collect.specs.Records.{limits_after, longer, next_number, next_text, nothing, records_among, records_from}
use Rattle.fc_collect.specs.Records.{records_of}

module _ (limits : Limits) (x : List ℕ) (ended : ends_line x ≡ true) where
  abbrev last : RecordText
  last = begun (first_of limits) x

  -- a header after it begins a text
  begins_after : begins_header last header_mark ≡ true
  begins_after = rw (begun-ends_from (first_of limits) x ∙ ended) refl

  -- which is the one that begins where the next piece is handed in
  next_text-after : next_text last ≡ next_text (first_of (limits_after limits x))
  next_text-after = rw (number, start)
    where
      number : next_number last ≡ limits.number + length (records_from limits x)
      number =
          let one = next_number-records last in
          let all : length (records_from limits x) ≡ length (finished_from limits x) + length (if_record last) =
          rw (records_among-last (first_of limits) x, length-append (finished_from limits x) (if_record last)) in
          omega (arith, one, all, begun-number (first_of limits) x)

      start : last.start + length last.bytes ≡ limits.place + length x + 0
      start = let place = begun-place (first_of limits) x in omega (arith, place)

  pub texts-pieces : (y : List ℕ)
      → cut (first_of limits) (x ++ header_mark ∷ y) ≡ cut (first_of limits) x ++ cut (next_text (first_of (limits_after limits x))) y
  texts-pieces y = rw (
    cut-append (first_of limits) x (header_mark ∷ y),
    begins_after,
    ← append_assoc (finished (first_of limits) x) (last ∷ []) _,
    next_text-after,
  )

  pub records-pieces : (y : List ℕ)
      → records_from limits (x ++ header_mark ∷ y) ≡ records_from limits x ++ records_from (limits_after limits x) (header_mark ∷ y)
  records-pieces y = ap records_among (texts-pieces y) ∙ records_among-append (cut (first_of limits) x) _

  pub output-pieces : (output_of : RecordText → List ℕ) (y : List ℕ)
      → flat_map output_of (records_from limits (x ++ header_mark ∷ y))
      ≡ flat_map output_of (records_from limits x) ++ flat_map output_of (records_from (limits_after limits x) (header_mark ∷ y))
  output-pieces output_of y = rw (records-pieces y, flat_map-append output_of (records_from limits x) _)

  pub count-pieces : (refuses : RecordText → Bool) (y : List ℕ)
      → count_by refuses (records_from limits (x ++ header_mark ∷ y))
      ≡ count_by refuses (records_from limits x) + count_by refuses (records_from (limits_after limits x) (header_mark ∷ y))
  count-pieces refuses y = rw (records-pieces y, sum_by-append (λ text. cond (refuses text) 1 0) (records_from limits x) _)

-- where all texts are small, the first one has no number too great
first-number : (limits : Limits) (text : RecordText) (bytes : List ℕ) → All (IsSmall limits) (cut text bytes) → text.number ≤ limits.records
first-number limits text bytes =
    cut-induction (λ text bytes texts. All (IsSmall limits) texts → text.number ≤ limits.records)
    (λ text small. (All-head (IsSmall limits) text [] small).number)
    (λ text byte bytes e next small. (All-head (IsSmall limits) text _ small).number)
    (λ text byte bytes e on small. on small)
    text bytes

pub within-pieces : (limits : Limits) (x : List ℕ) (ended : ends_line x ≡ true) (y : List ℕ)
    → IsWithinLimits limits (x ++ header_mark ∷ y) ↔ (IsWithinLimits limits x × IsWithinLimits (limits_after limits x) (header_mark ∷ y))
within-pieces limits x ended y = (apart, together)
  where
    after : Limits
    after = limits_after limits x

    next : RecordText
    next = next_text (first_of after)

    apart : IsWithinLimits limits (x ++ header_mark ∷ y) → IsWithinLimits limits x × IsWithinLimits after (header_mark ∷ y)
    apart within =
        let all = rw (texts-pieces limits x ended y) at within.texts in
        let later = All-right (IsSmall limits) (cut (first_of limits) x) (cut next y) all in
        let size = length-append x (header_mark ∷ y) in (
          record { bytes = omega (arith, within.bytes, size); texts = All-left (IsSmall limits) (cut (first_of limits) x) (cut next y) all },
          record {
            bytes = omega (arith, within.bytes, size);
            texts = All-cons (IsSmall after) (first_of after) (cut next y) (record { bytes = omega arith; number = first-number limits next y later })
                (All-weaker (IsSmall limits) (IsSmall after) (λ text small. record { bytes = small.bytes; number = small.number })
                (cut next y) later);
          },
        )

    together : IsWithinLimits limits x × IsWithinLimits after (header_mark ∷ y) → IsWithinLimits limits (x ++ header_mark ∷ y)
    together (first, then) =
        let later =
        All-weaker (IsSmall after) (IsSmall limits) (λ text small. record { bytes = small.bytes; number = small.number }) (cut next y)
        (All-tail (IsSmall after) (first_of after) (cut next y) then.texts) in
        let size = length-append x (header_mark ∷ y) in
        record {
          bytes = omega (arith, then.bytes, size);
          texts = rw (texts-pieces limits x ended y) (All-append (IsSmall limits) (cut (first_of limits) x) (cut next y) first.texts later);
        }

-- ---- many pieces

pub outputs-pieces : (output_of : RecordText → List ℕ) (limits : Limits) (x : List ℕ) (pieces : List (List ℕ)) → ends_line x ≡ true
    → All IsPiece pieces
    → flat_map output_of (records_from limits (x ++ flat_map (λ piece. piece) pieces)) ≡ outputs_of_pieces output_of limits (x ∷ pieces)
outputs-pieces output_of limits x [] ended are = rw (append-nil x, append-nil (flat_map output_of (records_from limits x)))
outputs-pieces output_of limits x (piece ∷ rest) ended are =
    let is = All-head IsPiece piece rest are in
    let more = flat_map (λ piece. piece) rest in
    let printed = flat_map output_of (records_from limits x) in
    ap (λ piece. flat_map output_of (records_from limits (x ++ (piece ++ more)))) is.begins
    ∙ output-pieces limits x ended output_of (is.rest ++ more)
    ∙ ap (λ piece. printed ++ flat_map output_of (records_from (limits_after limits x) (piece ++ more))) (sym is.begins)
    ∙ ap (λ l. printed ++ l) (outputs-pieces output_of (limits_after limits x) piece rest is.ended (All-tail IsPiece piece rest are))

-- ---- a piece by itself

module _ (records bytes : ℕ) where
  abbrev placed : RecordText → RecordText
  placed text = placed_after records bytes text

  begun_by-placed : (text : RecordText) (byte : ℕ) → begun_by (placed text) byte ≡ placed (begun_by text byte)
  begun_by-placed text byte = by (begins_header text byte)
    where
      by : (b : Bool) → cond b (next_text (placed text)) (longer (placed text) byte) ≡ placed (cond b (next_text text) (longer text byte))
      by true = next_text-placed records bytes text
      by false = refl

  finished_by-placed : (text : RecordText) (byte : ℕ) → finished_by (placed text) byte ≡ map placed (finished_by text byte)
  finished_by-placed text byte = by (begins_header text byte)
    where
      by : (b : Bool) → cond b (placed text ∷ []) [] ≡ map placed (cond b (text ∷ []) [])
      by true = refl
      by false = refl

  finished-placed : (text : RecordText) (read : List ℕ) → finished (placed text) read ≡ map placed (finished text read)
  finished-placed text [] = refl
  finished-placed text (byte ∷ read) = rw (
    finished_by-placed text byte,
    begun_by-placed text byte,
    finished-placed (begun_by text byte) read,
    map-append placed (finished_by text byte) (finished (begun_by text byte) read),
  )

module _ (limits : Limits) (read : List ℕ) (some : 1 ≤ limits.number) where
  first-placed : first_of limits ≡ placed_after (limits.number - 1) limits.place nothing
  first-placed = ap₂ (λ number start. record { number = number; start = start; bytes = [] }) (omega (arith, some)) (omega arith)

  pub records-placed : records_from limits read ≡ map (placed_after (limits.number - 1) limits.place) (records_of read)
  records-placed =
      ap (λ text. records_among (cut text read)) first-placed ∙ ap records_among (cut-after (limits.number - 1) limits.place nothing read)
      ∙ records_among-after (limits.number - 1) limits.place (cut nothing read)

  pub finished_records-placed : finished_from limits read ≡ map (placed_after (limits.number - 1) limits.place) (finished_records read)
  finished_records-placed = rw (
    first-placed,
    finished-placed (limits.number - 1) limits.place nothing read,
    records_among-after (limits.number - 1) limits.place (finished nothing read),
  )

  -- no text of it is too large, nor a record too many
  abbrev Few : RecordText → Type 0
  Few text = (length text.bytes ≤ most_record_bytes) × (limits.number - 1 + text.number ≤ limits.records)

  texts-placed : cut (first_of limits) read ≡ map (placed_after (limits.number - 1) limits.place) (cut nothing read)
  texts-placed = rw (first-placed, cut-after (limits.number - 1) limits.place nothing read)

  small-few : (texts : List RecordText) → All (IsSmall limits) (map (placed_after (limits.number - 1) limits.place) texts) → All Few texts
  small-few [] small = All-nil Few
  small-few (text ∷ texts) small =
      let rest = map (placed_after (limits.number - 1) limits.place) texts in
      let first = All-head (IsSmall limits) (placed_after (limits.number - 1) limits.place text) rest small in
      All-cons Few text texts (first.bytes, first.number)
      (small-few texts (All-tail (IsSmall limits) (placed_after (limits.number - 1) limits.place text) rest small))

  pub within-placed : IsWithinLimits limits read ↔ ((limits.place + length read ≤ limits.bytes) × All Few (cut nothing read))
  within-placed = (
    λ within. (within.bytes, small-few (cut nothing read) (rw texts-placed at within.texts)),
    λ (short, few). record {
      bytes = short;
      texts =
          let there = placed_after (limits.number - 1) limits.place in
          let each = All-weaker Few (λ text. IsSmall limits (there text)) (λ text one. record { bytes = one.0; number = one.1 })
          (cut nothing read) few in
          rw texts-placed (All-map (IsSmall limits) there (cut nothing read) each);
    },
  )
