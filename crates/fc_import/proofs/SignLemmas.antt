-- Lemmas on characters, and on what stands for them in a text.
use Rattle.std.proofs.Common.{◌&&◌, ◌++◌, ◌+◌, ◌<◌, ◌==◌, ◌||◌, ◌∙◌, ◌∷◌, ◌≡◌, [], All, ap, ap₂, arith, Bool, false}
use Rattle.std.proofs.Common.{get_or, if◌then◌else◌, inl, inr, length, List, map, nat_le, refl, suc, sym, true, zero, ℕ}
use Rattle.std.proofs.lemmas.Bool.{Decides.{leb_tells}, lt-leb, ne_eqb}
use Rattle.std.proofs.lemmas.List.{FromFn.{get_or-range_with_len, length-range_with_len}, get_or-map}
use Rattle.std.{proofs.lemmas.Str.{chars-IsAscii, IsUtf8-from_ascii, utf8_lossy-IsUtf8}, specs.Char.{encode_utf8}}
use Rattle.std.specs.{Prelude.{chars, slice_index}, Str.{IsAscii, IsUtf8, Lossy.{utf8_lossy}}}
use Rattle.fc_card.specs.{places}
use Rattle.fc_import.specs.{inside.{is_alone}, Words.{decoded, letters_of, stands_for, text_read}}

-- ---- characters of one byte

abbrev ascii : ℕ → Bool × List ℕ
ascii byte = if is_alone byte then (byte == 0x0D, stands_for byte) else (false, byte ∷ [])

abbrev itself : ℕ → Bool × List ℕ
itself byte = (false, byte ∷ [])

all_signs : map ascii (places 128) ≡ map itself (places 128)
unfolding encode_utf8
all_signs = refl

sign_at : (byte : ℕ) → byte < 128 → ascii byte ≡ itself byte
sign_at byte low =
    let there = get_or-range_with_len 0 128 byte 0 low in
    let same : 0 + byte ≡ byte = omega arith in
    let long : byte < length (places 128) = omega (arith, length-range_with_len 0 128, low) in
    sym (get_or-map ascii (places 128) byte 0 (false, []) long ∙ ap ascii (there ∙ same))
    ∙ ap (λ signs. get_or signs byte (false, [])) all_signs
    ∙ get_or-map itself (places 128) byte 0 (false, []) long ∙ ap itself (there ∙ same)

both_off : (a c : Bool) → ((a && false) || (c && false)) ≡ false
both_off true true = refl
both_off true false = refl
both_off false true = refl
both_off false false = refl

low_alone : (byte : ℕ) → is_alone byte ≡ true → byte < 128
low_alone byte alone = elim (leb_tells byte 127) [
  | inl low ↦ omega (arith, low.1)
  | inr high ↦
      let none = ap₂ (λ first second. (nat_le 0 byte && first) || (nat_le 14 byte && second)) (lt-leb byte 10 (omega (arith, high.1))) high.0 ∙ both_off (nat_le 0 byte) (nat_le 14 byte) in
      absurd (let e = sym alone ∙ none in cc)
]

-- a byte of ASCII that ends no line, or a line feed, stands for itself
alone_stays : (byte : ℕ) → is_alone byte ≡ true → (byte == 0x0D, stands_for byte) ≡ itself byte
alone_stays byte alone =
    sym (ap (λ test. if test then (byte == 0x0D, stands_for byte) else itself byte) alone)
    ∙ sign_at byte (low_alone byte alone)

-- ---- texts of such bytes

letters_stay : (text : List ℕ) → All (λ byte. is_alone byte ≡ true) text → letters_of false text ≡ text
letters_stay [] all = refl
letters_stay (byte ∷ rest) all =
    let stays = alone_stays byte (all 0 0 (omega arith)) in
    ap₂ (λ letters after. letters ++ letters_of after rest) (ap (λ sign. sign.1) stays) (ap (λ sign. sign.0) stays)
    ∙ ap (λ more. byte ∷ more) (letters_stay rest (λ place none inside. all (suc place) none (omega (arith, inside))))

is_ascii : (text : List ℕ) → All (λ byte. is_alone byte ≡ true) text → IsAscii text
is_ascii [] all place = omega arith
is_ascii (byte ∷ rest) all zero = low_alone byte (all 0 0 (omega arith))
is_ascii (byte ∷ rest) all (suc place) =
    is_ascii rest (λ place none inside. all (suc place) none (omega (arith, inside))) place

-- bytes that begin with no mark of UTF-16 are read as UTF-8
no_mark : (bytes : List ℕ) → slice_index bytes 0 < 0xFE → decoded bytes ≡ utf8_lossy bytes
no_mark bytes low =
    let first = ne_eqb (slice_index bytes 0) 0xFF (λ same. omega (arith, same, low)) in
    let second = ne_eqb (slice_index bytes 0) 0xFE (λ same. omega (arith, same, low)) in
    grind (arith, first, second)

-- and are it, if they are UTF-8
pub utf_8_stays : (bytes : List ℕ) → IsUtf8 bytes → slice_index bytes 0 < 0xFE → decoded bytes ≡ bytes
utf_8_stays bytes utf_8 low = no_mark bytes low ∙ utf8_lossy-IsUtf8 bytes utf_8

-- a text of ASCII that ends lines by line feeds alone is read as it is
pub all_stay : (text : List ℕ) → All (λ byte. is_alone byte ≡ true) text → text_read text ≡ text
all_stay text all =
    let ascii = is_ascii text all in
    let low : slice_index text 0 < 0xFE = omega (arith, ascii 0) in
    ap (λ text. letters_of false (chars text)) (utf_8_stays text (IsUtf8-from_ascii text ascii) low)
    ∙ ap (letters_of false) (chars-IsAscii text ascii)
    ∙ letters_stay text all
