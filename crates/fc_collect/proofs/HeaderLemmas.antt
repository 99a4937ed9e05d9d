-- Where headers begin: byte by byte, and by lines.
use Rattle.std.proofs.Common.{◌&&◌, ◌++◌, ◌+◌, ◌==◌, ◌∷◌, ◌≡◌, [], All, ap, append-nil, append_assoc, arith, Bool, cond}
use Rattle.std.proofs.Common.{drop, false, length, length-append, List, map, refl, sym, true, ℕ}
use Rattle.std.{proofs.lemmas.{Bool.{eqb-true}, List.Elements.{All-cons, All-nil}}, specs.List.{flat_map}}
use Rattle.fc_text.specs.{Bytes.{line_feed}, Lines.{in_line, lines_from, Piece}}
use Rattle.fc_record.{proofs.TextLineLemmas.{ends_line-last}, specs.RecordTexts.{ends_line, header_mark, RecordText}}
use Rattle.fc_collect.{proofs.RecordLemmas.{cut-induction, mark_is}, specs.Pieces.{header_start, header_starts}}
use Rattle.fc_collect.specs.Records.{begins_header, cut, longer, next_text, nothing}

-- where headers begin in bytes at this place, whether or not a line begins there
abbrev pub marks : Bool → ℕ → List ℕ → List ℕ
marks begins place [] = []
marks begins place (byte ∷ rest) = cond (begins && byte == header_mark) (place ∷ []) [] ++ marks (byte == line_feed) (place + 1) rest

-- ---- by lines

abbrev pub starts_of : List Piece → List ℕ
starts_of lines = flat_map header_start lines

no_mark : (b : Bool) (byte : ℕ) → byte == line_feed ≡ true → (b && byte == header_mark) ≡ false
no_mark true byte e = rw (eqb-true byte line_feed e) refl
no_mark false byte e = refl

in_line-starts : (place byte : ℕ) (lines : List Piece)
    → starts_of (in_line place byte lines) ≡ cond (byte == header_mark) (place ∷ []) [] ++ starts_of (drop 1 lines)
in_line-starts place byte [] = refl
in_line-starts place byte (line ∷ lines) = refl

in_line-rest : (place byte : ℕ) (lines : List Piece) → drop 1 (in_line place byte lines) ≡ drop 1 lines
in_line-rest place byte [] = refl
in_line-rest place byte (line ∷ lines) = refl

pub marks-lines : (place : ℕ) (bytes : List ℕ)
    → (marks true place bytes ≡ starts_of (lines_from place bytes)) × (marks false place bytes ≡ starts_of (drop 1 (lines_from place bytes)))
marks-lines place [] = (refl, refl)
marks-lines place (byte ∷ rest) = by_test (byte == line_feed) refl (marks-lines (place + 1) rest)
  where
    lines : List Piece
    lines = lines_from (place + 1) rest

    all : Bool → List Piece
    all b = cond b (record { start = place; bytes = [] } ∷ lines) (in_line place byte lines)

    by_test : (b : Bool) → byte == line_feed ≡ b
        → (marks true (place + 1) rest ≡ starts_of lines) × (marks false (place + 1) rest ≡ starts_of (drop 1 lines))
        → (cond (byte == header_mark) (place ∷ []) [] ++ marks b (place + 1) rest ≡ starts_of (all b))
        × (marks b (place + 1) rest ≡ starts_of (drop 1 (all b)))
    by_test true e later = (rw (no_mark true byte e, later.0), later.0)
    by_test false e later = (
      rw (later.1, in_line-starts place byte lines),
      rw (later.1, in_line-rest place byte lines),
    )

pub header_starts-marks : (bytes : List ℕ) → header_starts bytes ≡ marks true 0 bytes
header_starts-marks bytes = sym (marks-lines 0 bytes).0

-- ---- starts of the texts

cut-starts : (text : RecordText) (bytes : List ℕ)
    → map (λ text. text.start) (cut text bytes) ≡ text.start ∷ marks (ends_line text.bytes) (text.start + length text.bytes) bytes
cut-starts text bytes =
    cut-induction (λ text bytes texts. map (λ text. text.start) texts
    ≡ text.start ∷ marks (ends_line text.bytes) (text.start + length text.bytes) bytes)
    (λ text. refl)
    (λ text byte bytes e same. rw (same, e, mark_is text byte e))
    (λ text byte bytes e same.
    let more : (longer text byte).start + length (longer text byte).bytes ≡ text.start + length text.bytes + 1 =
    omega (arith, length-append text.bytes (byte ∷ [])) in
    rw (same, ends_line-last text.bytes byte, more, e))
    text bytes

pub cut-header_starts : (collection : List ℕ) → map (λ text. text.start) (cut nothing collection) ≡ 0 ∷ header_starts collection
cut-header_starts collection = rw (cut-starts nothing collection, (marks-lines 0 collection).0)

-- ---- headers within a text

-- a line begins after these bytes
abbrev pub ends_from : Bool → List ℕ → Bool
ends_from begins [] = begins
ends_from begins (byte ∷ rest) = ends_from (byte == line_feed) rest

ends_from-line : (bytes : List ℕ) → ends_from true bytes ≡ ends_line bytes
ends_from-line [] = refl
ends_from-line (byte ∷ []) = refl
ends_from-line (byte ∷ next ∷ rest) = ends_from-line (next ∷ rest)

marks-append : (begins : Bool) (place : ℕ) (x y : List ℕ)
    → marks begins place (x ++ y) ≡ marks begins place x ++ marks (ends_from begins x) (place + length x) y
marks-append begins place [] y = ap (λ n. marks begins n y) (omega arith)
marks-append begins place (byte ∷ x) y =
    let here = cond (begins && byte == header_mark) (place ∷ []) [] in
    let more = marks (ends_from (byte == line_feed) x) (place + length (byte ∷ x)) y in
    let place_after : place + 1 + length x ≡ place + length (byte ∷ x) = omega arith in
    rw (marks-append (byte == line_feed) (place + 1) x y, place_after, append_assoc here (marks (byte == line_feed) (place + 1) x) more)

-- one byte more that begins no header
header_starts-longer : (text : RecordText) (byte : ℕ) → begins_header text byte ≡ false
    → header_starts (text.bytes ++ byte ∷ []) ≡ header_starts text.bytes
header_starts-longer text byte none = rw (
  header_starts-marks (text.bytes ++ byte ∷ []),
  marks-append true 0 text.bytes (byte ∷ []),
  ends_from-line text.bytes,
  none,
  append-nil (marks true 0 text.bytes),
  header_starts-marks text.bytes,
)

-- the headers of the first text are these, and each other text begins with its one header
abbrev pub HasHeaders : List ℕ → List RecordText → Type 0
HasHeaders starts [] = Unit {0}
HasHeaders starts (text ∷ rest) = (header_starts text.bytes ≡ starts) × All (λ other. header_starts other.bytes ≡ 0 ∷ []) rest

all_headed : (texts : List RecordText) → HasHeaders (0 ∷ []) texts → All (λ (other : RecordText). header_starts other.bytes ≡ 0 ∷ []) texts
all_headed [] h = All-nil (λ (other : RecordText). header_starts other.bytes ≡ 0 ∷ [])
all_headed (other ∷ rest) h = All-cons (λ (other : RecordText). header_starts other.bytes ≡ 0 ∷ []) other rest h.0 h.1

pub cut-HasHeaders : (text : RecordText) (bytes : List ℕ) → HasHeaders (header_starts text.bytes) (cut text bytes)
cut-HasHeaders text bytes =
    cut-induction (λ text bytes texts. HasHeaders (header_starts text.bytes) texts)
    (λ text. (refl, All-nil (λ (other : RecordText). header_starts other.bytes ≡ 0 ∷ [])))
    (λ text byte bytes e has. (refl, all_headed (cut (next_text text) bytes) has))
    (λ text byte bytes e has. rw (header_starts-longer text byte e) at has)
    text bytes
