-- Lemmas on whole lines at the front of a text, and on those that are no header.
use Rattle.{fc_import.specs.{Import.{HasNoHeader}, inside.{AreWhole}}, memchr.specs.Find.{is_byte, Nowhere, Passes}}
use Rattle.std.proofs.Common.{◌++◌, ◌+◌, ◌<◌, ◌==◌, ◌∙◌, ◌∷◌, ◌≡◌, ◌≤◌, [], All, ap, arith, Bool, drop, false, get_or}
use Rattle.std.proofs.Common.{if◌then◌else◌, length, List, refl, subst, suc, sym, take, true, zero, ℕ}
use Rattle.std.proofs.lemmas.Bool.{eqb-true}
use Rattle.std.proofs.lemmas.List.{Elements.{All-append, All-cons, All-head, All-map, All-nil, All-tail}, length-drop}
use Rattle.std.proofs.Math.Seq.{take-add}
use Rattle.fc_text.{proofs.LineLemmas.{in_line-first, InLine, lines_from-moved}, specs.Bytes.{line_feed}}
use Rattle.fc_text.specs.Lines.{in_line, lines_from, moved, Piece}
use Rattle.fc_record.{proofs.TextLineLemmas.{ends-after, lines_after}, specs.Grammar.{begins_with}}
use Rattle.fc_record.specs.RecordTexts.{ends_line, header_mark}

-- whole lines after others that end
pub lines_more : (text : List ℕ) (at len : ℕ) → at < length text → ends_line (take at text) ≡ true → AreWhole (drop at text) len
    → (at + len ≤ length text) × (at + len < length text → ends_line (take (at + len) text) ≡ true)
lines_more text at len inside ends more = (
  omega (arith, more.within, length-drop at text, inside),
  λ less. ap ends_line (take-add at len text) ∙ ends-after (take at text) (take len (drop at text)) ends (more.whole (omega (arith, less, length-drop at text))),
)

-- whole lines after whole lines
pub whole_after : (text : List ℕ) (at len : ℕ) → at < length text → AreWhole text at → AreWhole (drop at text) len → AreWhole text (at + len)
whole_after text at len inside before more =
    let (within, whole) = lines_more text at len inside (before.whole inside) more in
    record { some = omega (arith, more.some); within = within; whole = whole }

-- ---- one line

no_longer : (place byte : ℕ) (lines : List Piece) → length lines ≤ 1 → length (in_line place byte lines) ≤ 1
no_longer place byte [] one = omega arith
no_longer place byte (line ∷ lines) one = one

pub alone : (place byte : ℕ) (test : Bool) → length (if test then record { start = place; bytes = [] } ∷ [] else in_line place byte []) ≤ 1
alone place byte true = omega arith
alone place byte false = omega arith

-- a text has no line after its first line feed
pub one_line : (place : ℕ) (text : List ℕ) (end : ℕ) → Nowhere (Passes (is_byte line_feed) text) 0 end → length (lines_from place (take (suc end) text)) ≤ 1
one_line place [] end none = omega arith
one_line place (byte ∷ rest) zero none = alone place byte (byte == line_feed)
one_line place (byte ∷ rest) (suc end) none =
    subst (λ lines. length lines ≤ 1) (sym (in_line-first place byte (take (suc end) rest) (λ is. none 0 (omega arith) (omega arith) (ap (λ byte. byte == line_feed) is))))
    (no_longer place byte (lines_from (place + 1) (take (suc end) rest)) (one_line (place + 1) rest end (λ at low high. none (suc at) (omega arith) (omega (arith, high)))))

-- the first line feed after bytes that are none
pub first_feed : (line rest : List ℕ) (place : ℕ) → All InLine line → Passes (is_byte line_feed) (line ++ line_feed ∷ rest) place
    → Nowhere (Passes (is_byte line_feed) (line ++ line_feed ∷ rest)) 0 place → place ≡ length line
first_feed [] rest zero are is none = refl
first_feed [] rest (suc place) are is none = absurd (none 0 (omega arith) (omega arith) refl)
first_feed (byte ∷ line) rest zero are is none = absurd (All-head InLine byte line are (eqb-true byte line_feed is))
first_feed (byte ∷ line) rest (suc place) are is none =
    ap suc (first_feed line rest place (All-tail InLine byte line are) is (λ at low high. none (suc at) (omega arith) (omega (arith, high))))

pub some_feed : (line rest : List ℕ) → ¬ Nowhere (Passes (is_byte line_feed) (line ++ line_feed ∷ rest)) 0 (length (line ++ line_feed ∷ rest))
some_feed [] rest none = none 0 (omega arith) (omega arith) refl
some_feed (byte ∷ line) rest none = some_feed line rest (λ at low high. none (suc at) (omega arith) (omega (arith, high)))

-- ---- no header

abbrev IsNoHeader : Piece → Type 0
IsNoHeader line = begins_with header_mark line.bytes ≡ false

first_line : (byte : ℕ) (lines : List Piece) (test : Bool) → length (if test then record { start = 0; bytes = [] } ∷ lines else in_line 0 byte lines) ≤ 1 → (byte == header_mark) ≡ false
    → All IsNoHeader (if test then record { start = 0; bytes = [] } ∷ lines else in_line 0 byte lines)
first_line byte [] true one other = All-cons IsNoHeader (record { start = 0; bytes = [] }) [] refl (All-nil IsNoHeader)
first_line byte (line ∷ lines) true one other = absurd (omega (arith, one))
first_line byte [] false one other = All-cons IsNoHeader (record { start = 0; bytes = byte ∷ [] }) [] other (All-nil IsNoHeader)
first_line byte (line ∷ []) false one other = All-cons IsNoHeader (record { start = 0; bytes = byte ∷ line.bytes }) [] other (All-nil IsNoHeader)
first_line byte (line ∷ next ∷ lines) false one other = absurd (omega (arith, one))

-- a line that does not begin with the mark of a header
pub no_header_alone : (line : List ℕ) → length (lines_from 0 line) ≤ 1 → begins_with header_mark line ≡ false → HasNoHeader line
no_header_alone [] one other = All-nil IsNoHeader
no_header_alone (byte ∷ rest) one other = first_line byte (lines_from (0 + 1) rest) (byte == line_feed) one other

-- lines without a header and lines without one after them
pub no_header_after : (text more : List ℕ) → ends_line text ≡ true → HasNoHeader text → HasNoHeader more → HasNoHeader (text ++ more)
no_header_after text more ends none none_more =
    let none_moved = subst (All IsNoHeader) (sym (lines_from-moved (length text) 0 more)) (All-map IsNoHeader (moved (length text)) (lines_from 0 more) none_more) in
    subst (All IsNoHeader) (sym (lines_after 0 text more ends))
    (All-append IsNoHeader (lines_from 0 text) (lines_from (0 + length text) more) none (subst (λ place. All IsNoHeader (lines_from place more)) (omega arith) none_moved))

-- ---- where a text begins

pub begins_front : (text : List ℕ) (len : ℕ) → 0 < len → begins_with header_mark (take len text) ≡ begins_with header_mark text
begins_front text zero some = absurd (omega (arith, some))
begins_front [] (suc len) some = refl
begins_front (byte ∷ rest) (suc len) some = refl

pub begins_at : (text : List ℕ) (at : ℕ) → begins_with header_mark (drop at text) ≡ (get_or text at 0 == header_mark)
begins_at [] zero = refl
begins_at [] (suc at) = refl
begins_at (byte ∷ rest) zero = refl
begins_at (byte ∷ rest) (suc at) = begins_at rest at
