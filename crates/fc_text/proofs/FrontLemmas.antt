-- The front of a line, which says what the line holds.
use Rattle.std.proofs.Common.{◌&&◌, ◌+◌, ◌<◌, ◌||◌, ◌∙◌, ◌∷◌, ◌≡◌, ◌≢◌, ◌≤◌, [], ap, arith, Bool, cond, drop, eqb}
use Rattle.std.proofs.Common.{false, get_or, length, List, not, refl, suc, take, true, ℕ}
use Rattle.std.proofs.lemmas.{Bool.Decides.{nat_tests}, List.{Folds.{list_any_at}, Sums.{passes_at_first}}}
use Rattle.std.specs.{Char.{to_ascii_lowercase}, List.{before_first, list_any, position_or_len}}
use Rattle.std.specs.Str.{str_eq_ignore_ascii_case}
use Rattle.std.proofs.Math.{Bool.{and-false}, Numerals.{one-add}}
use Rattle.fc_text.specs.{Bytes.{is_gap}, Lines.{words_from}, reader.{begins_head, IsHead}}
use Rattle.fc_text.specs.Rows.{cells_names, column_row, heights_names, is_colon, is_named, named_row, Row, row_of}
use Rattle.fc_text.specs.declared.board.reader.Section.{Section, TheVariants.{Column, Foundations, Freecells}}

-- ---- names

-- no byte is of the kind where the first one would be at the end
none_before_end : {X : Type 0} (p : X → Bool) (xs : List X) → position_or_len p xs ≡ length xs → list_any p xs ≡ false
none_before_end p [] e = refl
none_before_end p (x ∷ xs) e = by_first (p x) e (none_before_end p xs)
  where
    by_first : (b : Bool) → cond (not b) (1 + position_or_len p xs) 0 ≡ suc (length xs)
        → (position_or_len p xs ≡ length xs → list_any p xs ≡ false) → (b || list_any p xs) ≡ false
    by_first true e later = absurd (omega arith)
    by_first false e later = later (omega arith)

-- what a line is by whether it has a name
by_names : (start : ℕ) (bytes : List ℕ) (heights cells : Bool) → is_named heights_names bytes ≡ heights → is_named cells_names bytes ≡ cells
    → row_of start bytes ≡ cond heights (named_row Foundations start bytes) (cond cells (named_row Freecells start bytes) (column_row start bytes))
by_names start bytes heights cells eh ec =
    ap (λ b. cond b (named_row Foundations start bytes) (cond (is_named cells_names bytes) (named_row Freecells start bytes) (column_row start bytes))) eh
    ∙ ap (λ b. cond heights (named_row Foundations start bytes) (cond b (named_row Freecells start bytes) (column_row start bytes))) ec

-- a name is before a colon
named : (names : List (List ℕ)) (bytes : List ℕ) (b : Bool) → position_or_len is_colon bytes < length bytes
    → list_any (str_eq_ignore_ascii_case (take (position_or_len is_colon bytes) bytes)) names ≡ b → is_named names bytes ≡ b
named names bytes b inside e =
    ap (λ c. c && list_any (str_eq_ignore_ascii_case (before_first is_colon bytes)) names)
    (list_any_at is_colon bytes (position_or_len is_colon bytes) 0 inside (passes_at_first is_colon bytes 0 inside))
    ∙ e

not_named : (names : List (List ℕ)) (bytes : List ℕ) → position_or_len is_colon bytes ≡ length bytes → is_named names bytes ≡ false
not_named names bytes e = rw (none_before_end is_colon bytes e)

named_head : (section : Section) (start : ℕ) (bytes : List ℕ)
    → named_row section start bytes ≡ record { section = section; start = start; words = words_from is_gap (start + (position_or_len is_colon bytes + 1)) (drop (position_or_len is_colon bytes + 1) bytes) }
named_head section start bytes =
    let place : start + position_or_len is_colon bytes + 1 ≡ start + (position_or_len is_colon bytes + 1) = omega arith in rw place

heights_at : (start : ℕ) (bytes : List ℕ) → position_or_len is_colon bytes < length bytes
    → list_any (str_eq_ignore_ascii_case (take (position_or_len is_colon bytes) bytes)) heights_names ≡ true
    → IsHead start bytes Foundations (position_or_len is_colon bytes + 1)
heights_at start bytes inside e =
    by_names start bytes true (is_named cells_names bytes) (named heights_names bytes true inside e) refl ∙ named_head Foundations start bytes

cells_at : (start : ℕ) (bytes : List ℕ) → position_or_len is_colon bytes < length bytes
    → list_any (str_eq_ignore_ascii_case (take (position_or_len is_colon bytes) bytes)) heights_names ≡ false
    → list_any (str_eq_ignore_ascii_case (take (position_or_len is_colon bytes) bytes)) cells_names ≡ true
    → IsHead start bytes Freecells (position_or_len is_colon bytes + 1)
cells_at start bytes inside eh ec =
    by_names start bytes false true (named heights_names bytes false inside eh) (named cells_names bytes true inside ec) ∙ named_head Freecells start bytes

pub heights_head : (start : ℕ) (bytes : List ℕ) (place : ℕ) → place ≡ position_or_len is_colon bytes → place < length bytes
    → list_any (str_eq_ignore_ascii_case (take place bytes)) heights_names ≡ true → IsHead start bytes Foundations (place + 1)
heights_head start bytes place e = rw e (heights_at start bytes)

pub cells_head : (start : ℕ) (bytes : List ℕ) (place : ℕ) → place ≡ position_or_len is_colon bytes → place < length bytes
    → list_any (str_eq_ignore_ascii_case (take place bytes)) heights_names ≡ false
    → list_any (str_eq_ignore_ascii_case (take place bytes)) cells_names ≡ true
    → IsHead start bytes Freecells (place + 1)
cells_head start bytes place e = rw e (cells_at start bytes)

-- ---- columns

bare : (start byte : ℕ) (rest : List ℕ) → is_colon byte ≡ false
    → column_row start (byte ∷ rest) ≡ record { section = Column; start = start; words = words_from is_gap start (byte ∷ rest) }
bare start byte rest e = rw e

abbrev column_from : ℕ → List ℕ → ℕ → Row
column_from start bytes place = record { section = Column; start = start; words = words_from is_gap place bytes }

from_start : (start : ℕ) (bytes : List ℕ) → column_from start bytes start ≡ column_from start bytes (start + 0)
from_start start bytes = ap (column_from start bytes) (omega arith)

first_is_not : (byte : ℕ) (rest : List ℕ) → 0 < position_or_len is_colon (byte ∷ rest) → is_colon byte ≡ false
first_is_not byte rest h = ensured (is_colon byte) h
  where
    ensured : (b : Bool) → 0 < cond (not b) (1 + position_or_len is_colon rest) 0 → b ≡ false
    ensured true h = absurd (omega arith)
    ensured false h = refl

unnamed : (start : ℕ) (bytes : List ℕ) → is_named heights_names bytes ≡ false → is_named cells_names bytes ≡ false
    → row_of start bytes ≡ column_row start bytes
unnamed start bytes eh ec = by_names start bytes false false eh ec

bare_head : (start : ℕ) (bytes : List ℕ) → (length bytes ≢ 0 → 0 < position_or_len is_colon bytes)
    → is_named heights_names bytes ≡ false → is_named cells_names bytes ≡ false → IsHead start bytes Column 0
bare_head start [] later eh ec = unnamed start [] eh ec
bare_head start (byte ∷ rest) later eh ec =
    unnamed start (byte ∷ rest) eh ec ∙ bare start byte rest (first_is_not byte rest (later (omega arith))) ∙ from_start start (byte ∷ rest)

pub plain_head : (start : ℕ) (bytes : List ℕ) → position_or_len is_colon bytes ≡ length bytes → IsHead start bytes Column 0
plain_head start bytes e = bare_head start bytes (λ some. omega (arith, e, some)) (not_named heights_names bytes e) (not_named cells_names bytes e)

-- ---- the first byte

-- a name begins with one of four letters
no_letter : (byte : ℕ) → begins_head byte ≡ false → (eqb (to_ascii_lowercase byte) 100 ≡ false) × (eqb (to_ascii_lowercase byte) 102 ≡ false)
no_letter byte e = (grind (arith, nat_tests), grind (arith, nat_tests))

no_name : (byte : ℕ) (rest : List ℕ) → begins_head byte ≡ false
    → (list_any (str_eq_ignore_ascii_case (byte ∷ rest)) heights_names ≡ false) × (list_any (str_eq_ignore_ascii_case (byte ∷ rest)) cells_names ≡ false)
no_name byte rest e =
    let unlike = no_letter byte e in (
      rw (unlike.0, unlike.1),
      rw unlike.1,
    )

not_colon : (byte : ℕ) → begins_head byte ≡ false → is_colon byte ≡ false
not_colon byte e = grind (arith, nat_tests)

-- a line that begins so has no name
unnamed_front : (names : List (List ℕ)) (byte : ℕ) (rest : List ℕ) → is_colon byte ≡ false
    → ((others : List ℕ) → list_any (str_eq_ignore_ascii_case (byte ∷ others)) names ≡ false) → is_named names (byte ∷ rest) ≡ false
unnamed_front names byte rest colon unlike =
    ap (λ name. list_any is_colon (byte ∷ rest) && list_any (str_eq_ignore_ascii_case name) names) front
    ∙ ap (λ b. list_any is_colon (byte ∷ rest) && b) (unlike (take (position_or_len is_colon rest) rest))
    ∙ and-false (list_any is_colon (byte ∷ rest))
  where
    front : before_first is_colon (byte ∷ rest) ≡ byte ∷ take (position_or_len is_colon rest) rest
    front =
        ap (λ b. take (cond (not b) (1 + position_or_len is_colon rest) 0) (byte ∷ rest)) colon
        ∙ ap (λ n. take n (byte ∷ rest)) (one-add (position_or_len is_colon rest))

-- a line that begins with another byte is a column without a colon
pub bare_front : (start : ℕ) (bytes : List ℕ) → 1 ≤ length bytes → begins_head (get_or bytes 0 0) ≡ false → IsHead start bytes Column 0
bare_front start [] some unlike = absurd (omega (arith, some))
bare_front start (byte ∷ rest) some unlike =
    let colon = not_colon byte unlike in
    unnamed start (byte ∷ rest)
    (unnamed_front heights_names byte rest colon (λ others. (no_name byte others unlike).0))
    (unnamed_front cells_names byte rest colon (λ others. (no_name byte others unlike).1))
    ∙ bare start byte rest colon ∙ from_start start (byte ∷ rest)
