-- The header that is printed says what the record's header said, and the name that it is printed with.
use Rattle.std.proofs.Common.{◌%◌, ◌&&◌, ◌++◌, ◌+◌, ◌-◌, ◌/◌, ◌<◌, ◌==◌, ◌^◌, ◌∙◌, ◌∷◌, ◌≡◌, ◌≤◌, [], All, ap}
use Rattle.std.proofs.Common.{append-nil, append_assoc, ap₂, arith, Bool, codes, cond, drop, Err, false, leb, length}
use Rattle.std.proofs.Common.{List, ltb, None, not, Ok, Option, refl, Result, Some, subst, suc, sym, take, true, zero}
use Rattle.std.proofs.{Common.{ℕ}, lemmas.Bool.{and_parts, Decides.{nat_tests}, le-leb, leb-true, ne_eqb}}
use Rattle.std.proofs.lemmas.Fmt.{decimal_is_IsNumeral, length-decimal-le}
use Rattle.std.proofs.lemmas.List.Elements.{All-append, All-cons, All-head, All-nil, All-tail, All-weaker}
use Rattle.std.proofs.lemmas.{List.Sums.{AllPass-from_list_all, list_all-from_AllPass}, Str.Parse.{digit_from_value}}
use Rattle.std.proofs.Math.Seq.{drop-append-add, take-append_seam}
use Rattle.std.specs.{Fmt.{decimal, digit_glyph, digits, digits_onto}, List.{list_all, position_or_len}}
use Rattle.std.specs.Str.Parse.{AllDigits}
use Rattle.fc_board.specs.Games.{game_of, variant_word}
use Rattle.fc_board.specs.declared.rule.Variant.{TheVariants.{BakersGame, EightOff, FreeCell}, Variant}
use Rattle.fc_text.proofs.{LineLemmas.{InLine}, PrintedTextLemmas.{no_return}}
use Rattle.fc_text.proofs.WordLemmas.{after_separator, EndsWord, first_word, words_from-AreWords}
use Rattle.fc_text.specs.{Bytes.{blank, is_gap, line_feed}, Lines.{IsWord, Piece, trim_carriage_return, words_from}}
use Rattle.fc_record.specs.Grammar.{Accepted, after_header, begins_with, Contents, contents_of, fault_at, header_line}
use Rattle.fc_record.specs.Grammar.{Heading, heading_by, heading_of, heading_of_words, is_line_feed, is_name, Reading}
use Rattle.fc_record.specs.Grammar.{reading_by, reading_of, reading_with, Refused, variant_named, with_header}
use Rattle.fc_record.specs.{Grammar.{without_header}, Printing.{header_text, name_of}, RecordTexts.{header_mark}}
use Rattle.fc_record.specs.declared.record.{RecordFault.{RecordFault}, RecordFaultKind.TheVariants.{BadHeader}}

-- ---- names

-- a name that a header can give
pub record IsGiven (name : List ℕ) : Type 0 where
  pub is_one : is_name name ≡ true
  pub some : 0 < length name

-- what an accepted header says, where there is one: without one, what was handed in
pub data IsHeading (variant : Variant) : Bool → Heading → Type 0 where
  without : IsHeading variant false (without_header variant)
  unnamed : (own : Variant) → IsHeading variant true (with_header own None)
  named : (own : Variant) (name : List ℕ) → IsGiven name → IsHeading variant true (with_header own (Some name))

abbrev HasBytes : Piece → Type 0
HasBytes word = 0 < length word.bytes

said_heading : {said : Heading} (heading : Heading) → ◌≡◌ {A = Result Heading RecordFault} (Ok said) (Ok heading) → said ≡ heading
said_heading {said} heading e = cc

with_words : (variant own : Variant) (place : ℕ) (words : List Piece) (heading : Heading) → All HasBytes words → heading_by place (Some own) words ≡ Ok heading → IsHeading variant true heading
with_words variant own place [] heading are e = subst (IsHeading variant true) (said_heading heading e) (unnamed own)
with_words variant own place (name ∷ []) heading are e = by_test (is_name name.bytes) refl e
  where
    by_test : (b : Bool) → is_name name.bytes ≡ b → cond b (Ok (with_header own (Some name.bytes))) (Err (fault_at name.start BadHeader)) ≡ Ok heading → IsHeading variant true heading
    by_test true is e = subst (IsHeading variant true) (said_heading heading e) (named own name.bytes (record { is_one = is; some = All-head HasBytes name [] are }))
    by_test false is e = absurd (cc)
with_words variant own place (name ∷ further ∷ words) heading are e = absurd (cc)

of_words : (variant : Variant) (end : ℕ) (words : List Piece) (heading : Heading) → All HasBytes words → heading_of_words end words ≡ Ok heading → IsHeading variant true heading
of_words variant end [] heading are e = absurd (cc)
of_words variant end (word ∷ words) heading are e = by_word (variant_named word.bytes) e
  where
    by_word : (own : Option Variant) → heading_by word.start own words ≡ Ok heading → IsHeading variant true heading
    by_word None e = absurd (cc)
    by_word (Some own) e = with_words variant own word.start words heading (All-tail HasBytes word words are) e

pub heading_said : (variant : Variant) (bytes : List ℕ) (heading : Heading) → heading_of variant bytes ≡ Ok heading → IsHeading variant (begins_with header_mark bytes) heading
heading_said variant bytes heading e = by_test (begins_with header_mark bytes) e
  where
    line : List ℕ
    line = drop 1 (header_line bytes)

    have_bytes : All HasBytes (words_from is_gap 1 line)
    have_bytes = All-weaker (IsWord is_gap 1 line) HasBytes (λ word is. is.some_bytes) (words_from is_gap 1 line) (words_from-AreWords is_gap 1 line).all_words

    by_test : (b : Bool) → cond b (heading_of_words (length (header_line bytes)) (words_from is_gap 1 line)) (Ok (without_header variant)) ≡ Ok heading → IsHeading variant b heading
    by_test true e = of_words variant (length (header_line bytes)) (words_from is_gap 1 line) heading have_bytes e
    by_test false e = subst (IsHeading variant false) (said_heading heading e) without

-- the digits of any number
digits_high : (count n : ℕ) (later : List ℕ) → All (λ byte. 48 ≤ byte) later → All (λ byte. 48 ≤ byte) (digits_onto count 10 false n later)
digits_high zero n later are = are
digits_high (suc count) n later are = by_test (n / 10 == 0) (digits_high count (n / 10) (digit_glyph false (n % 10) ∷ later) more) more
  where
    glyph : (b : Bool) (d : ℕ) → 48 ≤ cond b (48 + d) (87 + d)
    glyph true d = omega arith
    glyph false d = omega arith

    more : All (λ byte. 48 ≤ byte) (digit_glyph false (n % 10) ∷ later)
    more = All-cons (λ byte. 48 ≤ byte) (digit_glyph false (n % 10)) later (glyph (ltb (n % 10) 10) (n % 10)) are

    by_test : (b : Bool) → All (λ byte. 48 ≤ byte) (digits_onto count 10 false (n / 10) (digit_glyph false (n % 10) ∷ later)) → All (λ byte. 48 ≤ byte) (digit_glyph false (n % 10) ∷ later)
        → All (λ byte. 48 ≤ byte) (cond b (digit_glyph false (n % 10) ∷ later) (digits_onto count 10 false (n / 10) (digit_glyph false (n % 10) ∷ later)))
    by_test true rest here = here
    by_test false rest here = rest

pub decimal-high : (n : ℕ) → All (λ byte. 48 ≤ byte) (decimal n)
unfolding digits
decimal-high n = digits_high 64 n [] (All-nil (λ byte. 48 ≤ byte))

-- ---- the bytes of a name

-- a printing byte that is no blank
abbrev pub IsInName : ℕ → Type 0
IsInName byte = (33 ≤ byte) × (byte ≤ 126)

pub bytes_of_name : (name : List ℕ) → IsGiven name → All IsInName name
bytes_of_name name given =
    All-weaker (λ byte. (leb 33 byte && leb byte 126) ≡ true) IsInName in_name name
    (AllPass-from_list_all (λ byte. leb 33 byte && leb byte 126) name (and_parts (leb (length name) 64) (list_all (λ byte. leb 33 byte && leb byte 126) name) given.is_one).1)
  where
    in_name : (byte : ℕ) → (leb 33 byte && leb byte 126) ≡ true → IsInName byte
    in_name byte e = let parts = and_parts (leb 33 byte) (leb byte 126) e in (leb-true 33 byte parts.0, leb-true byte 126 parts.1)

-- ---- the name that a record is printed with

digits_in_name : (digits : List ℕ) → AllDigits 10 digits → All IsInName digits
digits_in_name [] are = All-nil IsInName
digits_in_name (digit ∷ digits) are =
    let from = digit_from_value digit are.0 in
    All-cons IsInName digit digits (omega (arith, from), omega (arith, from)) (digits_in_name digits are.1)

pub name_from_bytes : (name : List ℕ) → length name ≤ 64 → All IsInName name → is_name name ≡ true
name_from_bytes name short are =
    ap₂ (λ a b. a && b) (le-leb (length name) 64 short)
    (list_all-from_AllPass (λ byte. leb 33 byte && leb byte 126) name
    (All-weaker IsInName (λ byte. (leb 33 byte && leb byte 126) ≡ true) (λ byte is. ap₂ (λ a b. a && b) (le-leb 33 byte is.0) (le-leb byte 126 is.1)) name are))

-- a number is a name
pub word_numbered : (number : ℕ) → number < 2 ^ 64 → IsGiven (decimal number)
word_numbered number small =
    let numeral = decimal_is_IsNumeral number (omega arith) in
    let short = length-decimal-le 20 number (omega arith) (omega arith) (omega arith) in
    record { is_one = name_from_bytes (decimal number) (omega (arith, short)) (digits_in_name (decimal number) numeral.0.1); some = numeral.0.0 }

-- and so is that of a record
pub numbered : (number : ℕ) → number ≤ 2 ^ 60 → IsGiven (decimal number)
numbered number small = word_numbered number (omega (arith, small))

pub given_name : (variant : Variant) (has : Bool) (number : ℕ) (heading : Heading) → number ≤ 2 ^ 60 → IsHeading variant has heading → IsGiven (name_of number heading.name)
given_name variant has number heading small without = numbered number small
given_name variant has number heading small (unnamed own) = numbered number small
given_name variant has number heading small (named own name given) = given

-- ---- the name and the reason of a refused record

-- the name of a refused record is what its header gives
pub refused_name : (variant : Variant) (number : ℕ) (bytes : List ℕ) (name : Option (List ℕ)) (fault : RecordFault) → number ≤ 2 ^ 60 → reading_of variant bytes ≡ Refused name fault
    → IsGiven (name_of number name)
refused_name variant number bytes name fault small e = by_heading (heading_of variant bytes) refl e
  where
    name_in : Reading → Option (List ℕ)
    name_in (Accepted heading contents) = None
    name_in (Refused name fault) = name

    by_contents : (heading : Heading) (contents : Result Contents RecordFault) → heading_of variant bytes ≡ Ok heading → reading_with heading contents ≡ Refused name fault → IsGiven (name_of number name)
    by_contents heading (Ok contents) said e = absurd (cc)
    by_contents heading (Err other) said e =
        subst (λ name. IsGiven (name_of number name)) (ap name_in e) (given_name variant (begins_with header_mark bytes) number heading small (heading_said variant bytes heading said))

    by_heading : (said : Result Heading RecordFault) → heading_of variant bytes ≡ said → reading_by said bytes ≡ Refused name fault → IsGiven (name_of number name)
    by_heading (Err other) said e = subst (λ name. IsGiven (name_of number name)) (ap name_in e) (numbered number small)
    by_heading (Ok heading) said e = by_contents heading (contents_of (game_of heading.variant) (length bytes - length (after_header bytes)) (after_header bytes)) said e

-- ---- the header

solid : (byte : ℕ) → 33 ≤ byte → is_gap byte ≡ false
solid byte high = grind (arith, nat_tests)

plain_codes : (text : List ℕ) → list_all (λ byte. leb 32 byte) text ≡ true → All (λ byte. 32 ≤ byte) text
plain_codes text e = All-weaker (λ byte. leb 32 byte ≡ true) (λ byte. 32 ≤ byte) (leb-true 32) text (AllPass-from_list_all (λ byte. leb 32 byte) text e)

solid_codes : (text : List ℕ) → list_all (λ byte. leb 33 byte) text ≡ true → All (λ byte. is_gap byte ≡ false) text
solid_codes text e =
    All-weaker (λ byte. leb 33 byte ≡ true) (λ byte. is_gap byte ≡ false) (λ byte high. solid byte (leb-true 33 byte high)) text (AllPass-from_list_all (λ byte. leb 33 byte) text e)

plain_word : (variant : Variant) → All (λ byte. 32 ≤ byte) (variant_word variant)
plain_word FreeCell = plain_codes (codes "freecell") refl
plain_word BakersGame = plain_codes (codes "bakers_game") refl
plain_word EightOff = plain_codes (codes "eight_off") refl

-- the first line feed is after the line
feed_after : (line rest : List ℕ) → All InLine line → position_or_len is_line_feed (line ++ line_feed ∷ rest) ≡ length line
feed_after [] rest are = refl
feed_after (byte ∷ line) rest are =
    ap (λ b. cond (not b) (1 + position_or_len is_line_feed (line ++ line_feed ∷ rest)) 0) (ne_eqb byte line_feed (All-head InLine byte line are))
    ∙ ap (λ n. 1 + n) (feed_after line rest (All-tail InLine byte line are)) ∙ omega arith

words_of_game : (variant : Variant) (rest : List ℕ) → EndsWord is_gap rest
    → words_from is_gap 2 (variant_word variant ++ rest) ≡ record { start = 2; bytes = variant_word variant } ∷ words_from is_gap (2 + length (variant_word variant)) rest
words_of_game FreeCell rest ends = first_word is_gap 2 102 (codes "reecell") rest (solid_codes (codes "freecell") refl) ends
words_of_game BakersGame rest ends = first_word is_gap 2 98 (codes "akers_game") rest (solid_codes (codes "bakers_game") refl) ends
words_of_game EightOff rest ends = first_word is_gap 2 101 (codes "ight_off") rest (solid_codes (codes "eight_off") refl) ends

word_of_name : (place : ℕ) (name : List ℕ) → IsGiven name → words_from is_gap place name ≡ record { start = place; bytes = name } ∷ []
word_of_name place [] given = absurd (let some = given.some in omega (arith, some))
word_of_name place (byte ∷ name) given =
    ap (words_from is_gap place) (sym (append-nil (byte ∷ name)))
    ∙ first_word is_gap place byte name [] (All-weaker IsInName (λ byte. is_gap byte ≡ false) (λ byte is. solid byte is.0) (byte ∷ name) (bytes_of_name (byte ∷ name) given)) tt

module _ (variant other : Variant) (name rest : List ℕ) (given : IsGiven name) where
  -- the line without its line feed
  abbrev line : List ℕ
  line = codes "@ " ++ (variant_word variant ++ blank ∷ name)

  cut : header_text variant name ++ rest ≡ line ++ line_feed ∷ rest
  cut = append_assoc line (line_feed ∷ []) rest

  -- no byte of the line is a line feed or another control character
  plain : All (λ byte. 32 ≤ byte) line
  plain =
      All-append (λ byte. 32 ≤ byte) (codes "@ ") (variant_word variant ++ blank ∷ name) (plain_codes (codes "@ ") refl)
      (All-append (λ byte. 32 ≤ byte) (variant_word variant) (blank ∷ name) (plain_word variant)
      (All-cons (λ byte. 32 ≤ byte) blank name (omega arith) (All-weaker IsInName (λ byte. 32 ≤ byte) (λ byte is. omega (arith, is)) name (bytes_of_name name given))))

  pub in_line : All InLine line
  in_line = All-weaker (λ byte. 32 ≤ byte) InLine (λ byte high e. absurd (omega (arith, high, e))) line plain

  feed : position_or_len is_line_feed (header_text variant name ++ rest) ≡ length line
  feed = ap (position_or_len is_line_feed) cut ∙ feed_after line rest in_line

  its_line : header_line (header_text variant name ++ rest) ≡ line
  its_line =
      ap (λ n. trim_carriage_return (take n (header_text variant name ++ rest))) feed
      ∙ ap (λ text. trim_carriage_return (take (length line) text)) cut
      ∙ ap trim_carriage_return (take-append_seam line (line_feed ∷ rest))
      ∙ no_return line plain

  its_words : words_from is_gap 1 (drop 1 line) ≡ record { start = 2; bytes = variant_word variant } ∷ record { start = 2 + length (variant_word variant) + 1; bytes = name } ∷ []
  its_words =
      after_separator is_gap 1 blank (variant_word variant ++ blank ∷ name) refl
      ∙ words_of_game variant (blank ∷ name) refl
      ∙ ap (λ words. record { start = 2; bytes = variant_word variant } ∷ words)
      (after_separator is_gap (2 + length (variant_word variant)) blank name refl ∙ word_of_name (2 + length (variant_word variant) + 1) name given)

  pub line_read : heading_of_words (length line) (words_from is_gap 1 (drop 1 line)) ≡ Ok (with_header variant (Some name))
  line_read = ap (heading_of_words (length line)) its_words ∙ by_game variant
    where
      by_game : (variant : Variant)
          → heading_of_words (length line) (record { start = 2; bytes = variant_word variant } ∷ record { start = 2 + length (variant_word variant) + 1; bytes = name } ∷ []) ≡ Ok (with_header variant (Some name))
      by_game FreeCell = ap (λ b. cond b (Ok (with_header FreeCell (Some name))) (Err (fault_at (2 + length (variant_word FreeCell) + 1) BadHeader))) given.is_one
      by_game BakersGame = ap (λ b. cond b (Ok (with_header BakersGame (Some name))) (Err (fault_at (2 + length (variant_word BakersGame) + 1) BadHeader))) given.is_one
      by_game EightOff = ap (λ b. cond b (Ok (with_header EightOff (Some name))) (Err (fault_at (2 + length (variant_word EightOff) + 1) BadHeader))) given.is_one

  pub header_read : heading_of other (header_text variant name ++ rest) ≡ Ok (with_header variant (Some name))
  header_read = ap (λ line. heading_of_words (length line) (words_from is_gap 1 (drop 1 line))) its_line ∙ line_read

  pub header_gone : after_header (header_text variant name ++ rest) ≡ rest
  header_gone =
      ap (λ n. drop (n + 1) (header_text variant name ++ rest)) feed
      ∙ ap (drop (length line + 1)) cut
      ∙ drop-append-add line (line_feed ∷ rest) 1
