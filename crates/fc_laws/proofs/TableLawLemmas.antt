-- What the objects of a table's lines have as members, and that strings of JSON keep texts apart.
use Rattle.std.proofs.Common.{◌++◌, ◌+◌, ◌<◌, ◌==◌, ◌||◌, ◌↔◌, ◌∙◌, ◌∷◌, ◌≡◌, ◌≢◌, ◌≤◌, [], All, ap, append_assoc}
use Rattle.std.proofs.Common.{arith, Bool, codes, cond, Contains, drop, false, get_or, if◌then◌else◌, leb, length, List}
use Rattle.std.proofs.Common.{map, refl, slice_get, slice_index, slice_index_or, Some, suc, sym, take, true, true≢false}
use Rattle.std.proofs.{Common.{zero, ℕ}, lemmas.Bool.{and_parts, false_from_ne_true, leb-true, ne_eqb}}
use Rattle.std.proofs.lemmas.List.Elements.{All-append, All-cons, All-head, All-nil, All-tail, All-weaker}
use Rattle.std.proofs.lemmas.List.{Splits.{slice_split_at, slice_split_none}, Sums.{AllPass-from_list_all}}
use Rattle.std.{proofs.lemmas.{Option.{same_Some}, Slice.Eq.{bytes_eq-Decides}}, specs.Fmt.{decimal}}
use Rattle.std.specs.List.{flat_map, join_with_byte, list_all, slice_split, zip}
use Rattle.fc_card.specs.{suit_letters}
use Rattle.fc_board.{proofs.CarriedLemmas.{carried-IsWellFormed}, specs.Boards.{Board}}
use Rattle.fc_board.specs.{Games.{Game, game_of, variant_word}, Moves.{MoveList}, Passages.{carried}}
use Rattle.fc_board.specs.Play.{list_verdict, Wins}
use Rattle.fc_board.specs.declared.rule.Variant.{TheVariants.{BakersGame, EightOff, FreeCell}, Variant}
use Rattle.fc_text.specs.{Bytes.{dash, IsLess, line_feed, tab}, Notation.{cell_letters, column_digits}}
use Rattle.fc_record.proofs.HeadingLemmas.{bytes_of_name, decimal-high, heading_said, IsHeading, IsInName, named}
use Rattle.fc_record.proofs.{HeadingLemmas.{unnamed, without}, ObjectLemmas.{number_as_it_is}}
use Rattle.fc_record.specs.{Grammar.{begins_with, Contents, Heading}, Printing.{name_of}, RecordTexts.{header_mark}}
use Rattle.fc_record.specs.Tables.{column_names, first_win, is_win, json_object, json_string, json_values}
use Rattle.fc_record.specs.Tables.{number_or_null, side_by_side, table_fields, table_line, table_object}
use Rattle.fc_collect.proofs.{HeaderSaysLemmas.{ok-from_HeaderSays}, KeyedLemmas.{chosen, text_is}}
use Rattle.fc_collect.proofs.MemberLemmas.{member-IsWellFormed, member-said}
use Rattle.fc_collect.specs.Groups.{belong_together, canonical_text, Member, members_among, passage_of}
use Rattle.fc_collect.specs.{inside.{HasBoard}, Records.{records_of}}
use Rattle.fc_laws.proofs.SideBySideLemmas.{IsBoardText, side_by_side-apart, side_by_side-cmp, side_by_side-high}
use Rattle.fc_laws.proofs.SolutionLemmas.{at-Contains, passes-Wins, Wins-passes}

-- ---- members

-- with these values
abbrev object_of : List ℕ → List ℕ → List ℕ → List ℕ → List ℕ → List ℕ → List ℕ → List ℕ → List ℕ
object_of name variant board renaming columns cells lists win =
    json_object ((codes "name", json_string name) ∷ (codes "variant", json_string variant) ∷ (codes "board", json_string board) ∷
    (codes "renaming", json_string renaming)
    ∷ (codes "columns", json_string columns) ∷ (codes "cells", json_string cells) ∷ (codes "lists", lists) ∷ (codes "win", win) ∷ [])

module _ (number : ℕ) (heading : Heading) (contents : Contents) (name variant board renaming columns cells lists : List ℕ) where
  -- the columns with this win, and the object that holds them
  abbrev with_win : List ℕ → List (List ℕ)
  with_win win = name ∷ variant ∷ board ∷ renaming ∷ columns ∷ cells ∷ lists ∷ win ∷ []

  abbrev object : List ℕ → List ℕ
  object win = object_of name variant board renaming columns cells lists win

  object_of_fields : (win : List ℕ) → table_fields number heading contents ≡ with_win win
      → table_object number heading contents ≡ object (number_or_null win)
  object_of_fields win are =
      let is_number : decimal (length contents.lists) ≡ lists = ap (λ fields. get_or fields 6 []) are in
      ap (λ fields. json_object (zip column_names (json_values fields))) are
      ∙ ap (λ lists. object_of name variant board renaming columns cells lists (number_or_null win))
      (ap number_or_null (sym is_number) ∙ number_as_it_is (length contents.lists) ∙ is_number)

  pub object_with_null : table_fields number heading contents ≡ with_win (codes "-") → table_object number heading contents ≡ object (codes "null")
  object_with_null are = object_of_fields (codes "-") are

  pub object_with_number : (win : List ℕ) → table_fields number heading contents ≡ with_win win → win ≢ codes "-"
      → table_object number heading contents ≡ object win
  object_with_number win are some =
      rw (object_of_fields win are, false_from_ne_true _ (λ e. some ((bytes_eq-Decides win (dash ∷ [])).0 e)))

-- ---- strings

abbrev is_escaped : ℕ → Bool
is_escaped byte = byte == 34 || byte == 92

abbrev escape : ℕ → List ℕ
escape byte = if is_escaped byte then 92 ∷ byte ∷ [] else byte ∷ []

-- no byte of a string is the quote at its end
no_end : (byte : ℕ) (rest more : List ℕ) → escape byte ++ rest ≡ 34 ∷ more → ⊥
no_end byte rest more e = by (is_escaped byte) refl
  where
    by : (b : Bool) → is_escaped byte ≡ b → ⊥
    by true is =
        let same = sym (ap (λ b. cond b (92 ∷ byte ∷ []) (byte ∷ []) ++ rest) is) ∙ e in absurd (omega (arith, ap (λ text. get_or text 0 0) same))
    by false is =
        let same = sym (ap (λ b. cond b (92 ∷ byte ∷ []) (byte ∷ []) ++ rest) is) ∙ e in
        true≢false (sym (ap is_escaped (ap (λ text. get_or text 0 0) same)) ∙ is)

same_first : (byte other : ℕ) (rest more : List ℕ) → escape byte ++ rest ≡ escape other ++ more → (byte ≡ other) × (rest ≡ more)
same_first byte other rest more e = by (is_escaped byte) (is_escaped other) refl refl
  where
    both : (a b : Bool) → is_escaped byte ≡ a → is_escaped other ≡ b
        → cond a (92 ∷ byte ∷ []) (byte ∷ []) ++ rest ≡ cond b (92 ∷ other ∷ []) (other ∷ []) ++ more
    both a b is is' = rw (← is, e, is')

    by : (a b : Bool) → is_escaped byte ≡ a → is_escaped other ≡ b → (byte ≡ other) × (rest ≡ more)
    by true true is is' = let same = both true true is is' in (cc, cc)
    by true false is is' = absurd (true≢false (ap is_escaped (ap (λ text. get_or text 0 0) (both true false is is')) ∙ is'))
    by false true is is' = absurd (true≢false (sym (ap is_escaped (ap (λ text. get_or text 0 0) (both false true is is'))) ∙ is))
    by false false is is' = let same = both false false is is' in (cc, cc)

apart : (text other rest more : List ℕ) → flat_map escape text ++ 34 ∷ rest ≡ flat_map escape other ++ 34 ∷ more → text ≡ other
apart [] [] rest more e = refl
apart [] (byte ∷ other) rest more e = absurd (no_end byte _ rest (sym (append_assoc (escape byte) (flat_map escape other) (34 ∷ more)) ∙ sym e))
apart (byte ∷ text) [] rest more e = absurd (no_end byte _ more (sym (append_assoc (escape byte) (flat_map escape text) (34 ∷ rest)) ∙ e))
apart (byte ∷ text) (byte' ∷ other) rest more e =
    let same =
    same_first byte byte' _ _ (sym (append_assoc (escape byte) (flat_map escape text) (34 ∷ rest)) ∙ e
    ∙ append_assoc (escape byte') (flat_map escape other) (34 ∷ more)) in
    rw (same.0, apart text other rest more same.1)

pub strings_apart : (text other rest more : List ℕ) → json_string text ++ rest ≡ json_string other ++ more → text ≡ other
strings_apart text other rest more e =
    apart text other rest more
    (sym (append_assoc (flat_map escape text) (34 ∷ []) rest) ∙ ap (drop 1) e ∙ append_assoc (flat_map escape other) (34 ∷ []) more)

-- ---- what the fields of a table's line say: which records belong together, and which list wins first

-- the canonical text is that of a board
canonical_is_text : (member : Member) → HasBoard member → IsBoardText (canonical_text member)
canonical_is_text member well =
    let game = game_of member.heading.variant in
    let is = chosen member.heading.variant member.contents.board well in (
      game,
      carried (passage_of member) member.contents.board,
      carried-IsWellFormed game (passage_of member) member.contents.board is.is_passage well,
      text_is member.heading.variant member.contents.board,
    )

abbrev fields_of : Member → List (List ℕ)
fields_of member = table_fields member.number member.heading member.contents

pub together-columns : (member other : Member) → HasBoard member → HasBoard other
    → (belong_together member other ≡ true) ↔ (take 2 (drop 1 (fields_of member)) ≡ take 2 (drop 1 (fields_of other)))
together-columns member other well well' = (ahead, back)
  where
    word : Member → List ℕ
    word member = variant_word member.heading.variant

    ahead : belong_together member other ≡ true → take 2 (drop 1 (fields_of member)) ≡ take 2 (drop 1 (fields_of other))
    ahead e =
        let parts = and_parts _ _ e in
        let words : word member ≡ word other = (bytes_eq-Decides (word member) (word other)).0 parts.0 in
        let texts : canonical_text member ≡ canonical_text other = (bytes_eq-Decides (canonical_text member) (canonical_text other)).0 parts.1 in
        rw (words, texts)

    back : take 2 (drop 1 (fields_of member)) ≡ take 2 (drop 1 (fields_of other)) → belong_together member other ≡ true
    back e =
        let words : word member ≡ word other = ap (λ fields. get_or fields 0 []) e in
        let texts =
        side_by_side-apart (canonical_text member) (canonical_text other) (canonical_is_text member well) (canonical_is_text other well')
        (ap (λ fields. get_or fields 1 []) e) in
        rw ((bytes_eq-Decides (word member) (word other)).1 words, (bytes_eq-Decides (canonical_text member) (canonical_text other)).1 texts)

pub columns-ordered : (member other : Member) → HasBoard member → HasBoard other
    → IsLess (canonical_text member) (canonical_text other) ↔ IsLess (slice_index_or (fields_of member) 2 []) (slice_index_or (fields_of other) 2 [])
columns-ordered member other well well' =
    let same = side_by_side-cmp (canonical_text member) (canonical_text other) (canonical_is_text member well) (canonical_is_text other well') in
    ((λ less. same ∙ less), (λ less. sym same ∙ less))

-- ---- eight columns

-- neither a tab nor a line feed
abbrev IsFieldByte : ℕ → Type 0
IsFieldByte byte = (byte ≢ tab) × (byte ≢ line_feed)

abbrev IsField : List ℕ → Type 0
IsField field = All IsFieldByte field

high_field : (field : List ℕ) → All (λ byte. 32 ≤ byte) field → IsField field
high_field field high =
    All-weaker (λ byte. 32 ≤ byte) IsFieldByte
    (λ byte high. ((λ e. absurd (omega (arith, e, high))), (λ e. absurd (omega (arith, e, high))))) field high

decimal_field : (n : ℕ) → IsField (decimal n)
decimal_field n =
    high_field (decimal n) (All-weaker (λ byte. 48 ≤ byte) (λ byte. 32 ≤ byte) (λ byte high. omega (arith, high)) (decimal n) (decimal-high n))

codes_field : (field : List ℕ) → list_all (λ byte. leb 32 byte) field ≡ true → IsField field
codes_field field e =
    high_field field (All-weaker (λ byte. leb 32 byte ≡ true) (λ byte. 32 ≤ byte) (λ byte is. leb-true 32 byte is) field
    (AllPass-from_list_all (λ byte. leb 32 byte) field e))

name_field : (variant : Variant) (has : Bool) (number : ℕ) (heading : Heading) → IsHeading variant has heading → IsField (name_of number heading.name)
name_field variant has number heading without = decimal_field number
name_field variant has number heading (unnamed own) = decimal_field number
name_field variant has number heading (named own name given) =
    high_field name (All-weaker IsInName (λ byte. 32 ≤ byte) (λ byte is. omega (arith, is)) name (bytes_of_name name given))

word_field : (variant : Variant) → IsField (variant_word variant)
word_field FreeCell = codes_field (codes "freecell") refl
word_field BakersGame = codes_field (codes "bakers_game") refl
word_field EightOff = codes_field (codes "eight_off") refl

letter_field : (letters : List ℕ) → IsField letters → (place : ℕ) → IsFieldByte (slice_index letters place)
letter_field [] are place = ((λ e. absurd (omega (arith, e))), (λ e. absurd (omega (arith, e))))
letter_field (letter ∷ letters) are zero = All-head IsFieldByte letter letters are
letter_field (letter ∷ letters) are (suc place) = letter_field letters (All-tail IsFieldByte letter letters are) place

letters_field : (letters : List ℕ) → list_all (λ byte. leb 32 byte) letters ≡ true → (places : List ℕ) → IsField (map (slice_index letters) places)
letters_field letters e [] = All-nil IsFieldByte
letters_field letters e (place ∷ places) =
    All-cons IsFieldByte (slice_index letters place) (map (slice_index letters) places)
    (letter_field letters (codes_field letters e) place) (letters_field letters e places)

win_field : (game : Game) (board : Board) (number : ℕ) (lists : List MoveList) → IsField (first_win game board number lists)
win_field game board number [] = codes_field (codes "-") refl
win_field game board number (list ∷ lists) = by (is_win (list_verdict game board list)) (win_field game board (number + 1) lists)
  where
    by : (b : Bool) → IsField (first_win game board (number + 1) lists) → IsField (cond b (decimal number) (first_win game board (number + 1) lists))
    by true later = decimal_field number
    by false later = later

all_eight : (a b c d e f g h : List ℕ) → IsField a → IsField b → IsField c → IsField d → IsField e → IsField f → IsField g → IsField h
    → All IsField (a ∷ b ∷ c ∷ d ∷ e ∷ f ∷ g ∷ h ∷ [])
all_eight a b c d e f g h is_a is_b is_c is_d is_e is_f is_g is_h =
    All-cons IsField a (b ∷ c ∷ d ∷ e ∷ f ∷ g ∷ h ∷ []) is_a (All-cons IsField b (c ∷ d ∷ e ∷ f ∷ g ∷ h ∷ []) is_b
    (All-cons IsField c (d ∷ e ∷ f ∷ g ∷ h ∷ []) is_c (All-cons IsField d (e ∷ f ∷ g ∷ h ∷ []) is_d (All-cons IsField e (f ∷ g ∷ h ∷ []) is_e
    (All-cons IsField f (g ∷ h ∷ []) is_f (All-cons IsField g (h ∷ []) is_g (All-cons IsField h [] is_h (All-nil IsField))))))))

fields_are : (variant : Variant) (has : Bool) (member : Member) → HasBoard member → IsHeading variant has member.heading
    → All IsField (fields_of member)
fields_are variant has member well is =
    let passage = passage_of member in
    all_eight _ _ _ _ _ _ _ _
    (name_field variant has member.number member.heading is) (word_field member.heading.variant)
    (high_field (side_by_side (canonical_text member)) (side_by_side-high (canonical_text member) (canonical_is_text member well)))
    (letters_field suit_letters refl passage.renaming) (letters_field column_digits refl passage.columns)
    (letters_field cell_letters refl passage.cells)
    (decimal_field (length member.contents.lists)) (win_field (game_of member.heading.variant) member.contents.board 1 member.contents.lists)

within_line : (first : List ℕ) (rest : List (List ℕ)) → All IsField (first ∷ rest)
    → All (λ byte. byte ≢ line_feed) (join_with_byte tab (first ∷ rest))
within_line first [] are = All-weaker IsFieldByte (λ byte. byte ≢ line_feed) (λ byte is. is.1) first (All-head IsField first [] are)
within_line first (next ∷ rest) are =
    All-append (λ byte. byte ≢ line_feed) first (tab ∷ join_with_byte tab (next ∷ rest))
    (All-weaker IsFieldByte (λ byte. byte ≢ line_feed) (λ byte is. is.1) first (All-head IsField first (next ∷ rest) are))
    (All-cons (λ byte. byte ≢ line_feed) tab (join_with_byte tab (next ∷ rest)) (λ e. absurd (omega (arith, e)))
    (within_line next rest (All-tail IsField first (next ∷ rest) are)))

no_tabs : (field : List ℕ) → IsField field → All (λ byte. (byte == tab) ≡ false) field
no_tabs field is = All-weaker IsFieldByte (λ byte. (byte == tab) ≡ false) (λ byte is. ne_eqb byte tab is.0) field is

cut_at_tabs : (first : List ℕ) (rest : List (List ℕ)) → All IsField (first ∷ rest)
    → slice_split (λ byte. byte == tab) (join_with_byte tab (first ∷ rest)) ≡ first ∷ rest
cut_at_tabs first [] are = slice_split_none (λ byte. byte == tab) first (no_tabs first (All-head IsField first [] are))
cut_at_tabs first (next ∷ rest) are =
    rw (
      slice_split_at (λ byte. byte == tab) first tab (join_with_byte tab (next ∷ rest))
          (no_tabs first (All-head IsField first (next ∷ rest) are)) refl,
      cut_at_tabs next rest
          (All-tail IsField first (next ∷ rest) are),
    )

pub eight_columns : (variant : Variant) (collection : List ℕ) (member : Member) → Contains (members_among variant (records_of collection)) member
    → (line : List ℕ) × All (λ byte. byte ≢ line_feed) line × (table_line member.number member.heading member.contents ≡ line ++ line_feed ∷ [])
    × (slice_split (λ byte. byte == tab) line ≡ fields_of member) × (length (fields_of member) ≡ 8)
eight_columns variant collection member there =
    let name = name_of member.number member.heading.name in
    let (bytes, says) = member-said variant (records_of collection) member there in
    let are =
    fields_are variant (begins_with header_mark bytes) member (member-IsWellFormed variant (records_of collection) member there)
    (heading_said variant bytes member.heading (ok-from_HeaderSays says.header)) in (
      join_with_byte tab (fields_of member),
      within_line name (drop 1 (fields_of member)) are,
      refl,
      cut_at_tabs name (drop 1 (fields_of member)) are,
      refl,
    )

-- ---- the first list that wins

-- a number is not written as the dash that stands for none
no_dash : (number : ℕ) → decimal number ≡ codes "-" → ⊥
no_dash number e = let high = All-head (λ byte. 48 ≤ byte) 45 [] (rw e at (decimal-high number)) in absurd (omega arith)

module _ (game : Game) (board : Board) where
  abbrev is_winning : MoveList → Bool
  is_winning list = is_win (list_verdict game board list)

  dash_where_none : (number : ℕ) (lists : List MoveList) → ((list : MoveList) → Contains lists list → is_winning list ≡ false)
      → first_win game board number lists ≡ codes "-"
  dash_where_none number [] never = refl
  dash_where_none number (list ∷ lists) never =
      rw (
        never list (0, omega arith, refl),
        dash_where_none (number + 1) lists (λ other (place, inside, at). never other (suc place, omega arith, at)),
      )

  none_where_dash : (number : ℕ) (lists : List MoveList) → first_win game board number lists ≡ codes "-" → (list : MoveList)
      → Contains lists list → is_winning list ≡ false
  none_where_dash number [] e list (place, inside, at) = absurd (omega arith)
  none_where_dash number (first ∷ lists) e list (place, inside, at) =
      by (is_winning first) refl e place inside at (none_where_dash (number + 1) lists)
    where
      by : (b : Bool) → is_winning first ≡ b → cond b (decimal number) (first_win game board (number + 1) lists) ≡ codes "-"
          → (place : ℕ) → place < length (first ∷ lists) → get_or (first ∷ lists) place list ≡ list
          → (first_win game board (number + 1) lists ≡ codes "-" → (list : MoveList) → Contains lists list → is_winning list ≡ false)
          → is_winning list ≡ false
      by true wins e place inside at later = absurd (no_dash number e)
      by false loses e zero inside at later = rw (← at, loses)
      by false loses e (suc place) inside at later = later e list (place, omega arith, at)

  number_of_first : (number place : ℕ) (lists : List MoveList) (list : MoveList) → slice_get lists place ≡ Some list → is_winning list ≡ true
      → ((earlier : ℕ) (other : MoveList) → earlier < place → slice_get lists earlier ≡ Some other → is_winning other ≡ false)
      → first_win game board number lists ≡ decimal (place + number)
  number_of_first number place [] list at wins before = absurd (cc)
  number_of_first number zero (first ∷ lists) list at wins before =
      rw (same_Some first list at, wins) (ap decimal (omega arith))
  number_of_first number (suc place) (first ∷ lists) list at wins before =
      let later = λ (earlier : ℕ) (other : MoveList) (below : earlier < place) (at : slice_get lists earlier ≡ Some other).
      before (suc earlier) other (omega arith) at in
      rw (before 0 first (omega arith) refl) (number_of_first (number + 1) place lists list at wins later ∙ ap decimal (omega arith))

module _ (variant : Variant) (collection : List ℕ) (member : Member) (there : Contains (members_among variant (records_of collection)) member) where
  abbrev own_game : Game
  own_game = game_of member.heading.variant

  abbrev board : Board
  board = member.contents.board

  loses : (list : MoveList) → Contains member.contents.lists list → ¬ Wins own_game board list → is_winning own_game board list ≡ false
  loses list listed never = by (is_winning own_game board list) refl
    where
      by : (b : Bool) → is_winning own_game board list ≡ b → b ≡ false
      by true e = absurd (never (passes-Wins variant collection member there list listed e))
      by false e = refl

  pub dash-exactly : slice_index_or (fields_of member) 7 [] ≡ codes "-"
      ↔ ((list : MoveList) → Contains member.contents.lists list → ¬ Wins own_game board list)
  dash-exactly = (
    (λ e list listed wins. true≢false
        (sym (Wins-passes variant collection member there list listed wins) ∙ none_where_dash own_game board 1 member.contents.lists e list listed)),
    (λ never. dash_where_none own_game board 1 member.contents.lists (λ list listed. loses list listed (never list listed))),
  )

  pub first-number : (place : ℕ) (list : MoveList) → slice_get member.contents.lists place ≡ Some list → Wins own_game board list
      → ((earlier : ℕ) (other : MoveList) → earlier < place → slice_get member.contents.lists earlier ≡ Some other → ¬ Wins own_game board other)
      → slice_index_or (fields_of member) 7 [] ≡ decimal (place + 1)
  first-number place list at wins before =
      number_of_first own_game board 1 place member.contents.lists list at
      (Wins-passes variant collection member there list (at-Contains member.contents.lists place list at) wins)
      (λ earlier other below at. loses other (at-Contains member.contents.lists earlier other at) (before earlier other below at))
