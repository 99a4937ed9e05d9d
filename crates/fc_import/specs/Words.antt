-- The cards that the words of a text name.
use Rattle.std.specs.{Char.Utf16.{utf16_lossy_chars}, List.{flat_map}, Prelude.{◌%◌, ◌&&◌, ◌*◌}}
use Rattle.std.specs.Prelude.{◌++◌, ◌+◌, ◌-◌, ◌/◌, ◌==◌, ◌||◌, ◌∷◌, [], Bool, chars, codes, drop}
use Rattle.std.specs.Prelude.{encode_utf8, false, if◌then◌else◌, List, nat_le, slice_index, true, ℕ}
use Rattle.std.specs.Str.{encode_utf8_all, Lossy.{utf8_lossy}}
use Rattle.{fc_card.specs.Types.{Card, Text}, fc_import.specs.Scan.{named_cards}}
use Rattle.fc_text.specs.{Bytes.{blank, line_feed}, Lines.{lines_from}}

-- -------- The text that the bytes of a file are. From: Unicode's UTF-16 and UTF-8, and the byte order mark.

-- the units of two bytes, of which the first is the high one or the low one; a byte alone at the end is a sign that cannot be read
abbrev pub units_of : Bool → Text → List ℕ
units_of high_first [] = []
units_of high_first (byte ∷ []) = 0xFFFD ∷ []
units_of high_first (first ∷ second ∷ rest) = (if high_first then 256 * first + second else 256 * second + first) ∷ units_of high_first rest

-- UTF-16 by its mark, and else UTF-8, with U+FFFD for what is neither
abbrev pub decoded : Text → Text
decoded bytes =
    if slice_index bytes 0 == 0xFF && slice_index bytes 1 == 0xFE then encode_utf8_all (utf16_lossy_chars (units_of false (drop 2 bytes)))
    else if slice_index bytes 0 == 0xFE && slice_index bytes 1 == 0xFF then encode_utf8_all (utf16_lossy_chars (units_of true (drop 2 bytes)))
    else utf8_lossy bytes

-- -------- What each character stands for. From: Unicode's signs of suits and playing cards, its letters as wide as signs of Chinese, its ends of lines and its spaces.

abbrev pub is_between : ℕ → ℕ → ℕ → Bool
is_between low high number = nat_le low number && nat_le number high

-- `-` for hyphens, dashes and the sign of minus; three dots for the ellipsis; a blank for the spaces and the other marks of general punctuation, the no-break space, and the space as wide as a sign of Chinese; `>` for arrows; and any other for itself
abbrev pub mark_for : ℕ → Text
mark_for number =
    if is_between 0x2010 0x2015 number || number == 0x2212 then 0x2D ∷ []
    else if number == 0x2026 then 0x2E ∷ 0x2E ∷ 0x2E ∷ []
    else if number == 0xA0 || is_between 0x2000 0x205F number || number == 0x3000 then blank ∷ []
    else if is_between 0x2190 0x21FF number || is_between 0x279C 0x27BE number then 0x3E ∷ []
    else encode_utf8 number

-- what stands for a character:
-- the letter of ♠ ♡ ♢ ♣ ♤ ♥ ♦ ♧;
-- the two letters and a blank of a playing card from 🂡 to 🃞, of which each suit has the ranks from 1 to 14, and a knight for 12;
-- the letter, digit or mark that is as wide as a sign of Chinese;
-- a line feed for line tabulation, form feed and carriage return, next line, and the separators of lines and of paragraphs;
-- nothing for marks that no reader sees: of direction, of joining, of how a sign looks, the soft hyphen and the byte order mark;
-- a mark for dashes, spaces and arrows
abbrev pub stands_for : ℕ → Text
stands_for number =
    if is_between 0x2660 0x2667 number then slice_index (codes "SHDC") (number % 4) ∷ []
    else if is_between 0x1F0A0 0x1F0DF number && (is_between 1 11 (number % 16) || is_between 13 14 (number % 16))
    then slice_index (codes "?A23456789TJ?QK?") (number % 16) ∷ slice_index (codes "SHDC") (number / 16 - 0x1F0A) ∷ blank ∷ []
    else if is_between 0xFF01 0xFF5E number then (number - 0xFEE0) ∷ []
    else if is_between 0x0B 0x0D number || number == 0x85 || is_between 0x2028 0x2029 number then line_feed ∷ []
    else if number == 0xAD || number == 0x61C || is_between 0x200C 0x200F number || is_between 0x202A 0x202E number
    || is_between 0x2060 0x206F number || is_between 0xFE00 0xFE0F number || number == 0xFEFF then []
    else mark_for number

-- what stands for characters, of which the first comes right after a carriage return or not; a line feed there is nothing
abbrev pub letters_of : (after_return : Bool) → List ℕ → Text
letters_of after_return [] = []
letters_of after_return (sign ∷ signs) = (if after_return && sign == line_feed then [] else stands_for sign) ++ letters_of (sign == 0x0D) signs

-- the text of a file, with a line feed at the end of each line and letters for the signs of suits
abbrev pub text_read : Text → Text
text_read bytes = letters_of false (chars (decoded bytes))

-- -------- The cards of lines. From: how sites, books and solvers write them.

-- cards in one place and then 52, which is no card, as their end; nothing where there are none
abbrev pub ended : List Card → List ℕ
ended [] = []
ended (card ∷ cards) = card ∷ cards ++ 52 ∷ []

-- the cards that each line of a text names, and all of them in their order
abbrev pub named_lines : Text → List ℕ
named_lines text = flat_map (λ line. ended (named_cards line.bytes)) (lines_from 0 text)

abbrev pub named_in : Text → List Card
named_in text = flat_map (λ line. named_cards line.bytes) (lines_from 0 text)
