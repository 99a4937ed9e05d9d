-- Where the faults of a text are: at a name, a line or a word, which begin within the text, or for a missing card at its end.
use Rattle.std.proofs.Common.{◌++◌, ◌+◌, ◌-◌, ◌<◌, ◌∙◌, ◌∷◌, ◌≡◌, ◌≢◌, ◌≤◌, ◌⊎◌, [], All, ap, append-nil, append_assoc}
use Rattle.std.proofs.Common.{arith, Bool, cond, drop, eqb, false, inl, inr, leb, length, length-append, List, map}
use Rattle.std.proofs.Common.{None, not, Option, refl, Some, subst, suc, sym, true, zero, ℕ}
use Rattle.std.proofs.lemmas.Bool.Decides.{nat_tests}
use Rattle.std.proofs.lemmas.List.{Elements.{All-drop, All-head, All-map, All-tail, All-weaker}, length-drop}
use Rattle.std.proofs.lemmas.{List.Sums.{prefix_len-le-length}, Option.{same_Some}}
use Rattle.std.specs.{List.{after_first, flat_map, position_or_len, prefix_len}, Option.{option_map, option_or}}
use Rattle.fc_board.specs.Games.{Game}
use Rattle.fc_text.proofs.{LineLemmas.{lines_are_pieces}, NextLineLemmas.{piece_within}}
use Rattle.fc_text.proofs.{RowLemmas.{items_of_words, no_lines}, SoundLemmas.{line_item, lines-append, lines-one}}
use Rattle.fc_text.proofs.{TakingLemmas.{held_first}, WordLemmas.{words_from-AreWords}}
use Rattle.fc_text.specs.{Bytes.{is_gap, number_sign}, Faults.{bad_word, cards_of_item, cards_of_word, count_of_lines}}
use Rattle.fc_text.specs.Faults.{fault_of_item, fault_of_line, fault_of_part, first_fault, first_faulty, has_form}
use Rattle.fc_text.specs.Faults.{is_past_cells, is_repeated, Item, items_of, items_of_row, lowest_missing, missing_card}
use Rattle.fc_text.specs.Faults.{suits_of_item, suits_of_word}
use Rattle.fc_text.specs.{Lines.{IsPieceOf, IsWord, lines_from, Piece, trim_carriage_return, words_from}, Rows.{Blank}}
use Rattle.fc_text.specs.Rows.{cells_names, column_row, columns_left, Comment, Content, heights_names, is_colon}
use Rattle.fc_text.specs.Rows.{is_empty, is_named, Line, line_of, line_of_front, named_row, Row, row_of, rows_within}
use Rattle.fc_text.specs.Spelling.{is_section}
use Rattle.fc_text.specs.declared.board.reader.Section.{Section, TheVariants.{Column, Foundations, Freecells}}
use Rattle.fc_text.specs.declared.fault.{BoardFault.{BoardFault}, BoardFaultKind.{BoardFaultKind}}
use Rattle.fc_text.specs.declared.fault.BoardFaultKind.TheVariants.{BadFoundation, MissingCard, RepeatedCard}
use Rattle.fc_text.specs.declared.fault.BoardFaultKind.TheVariants.{RepeatedLine, TooManyCells, TooManyColumns}

-- ---- what begins before the end of a text

abbrev WordsWithin : ℕ → List Piece → Type 0
WordsWithin end words = All (λ word. word.start < end) words

abbrev RowWithin : ℕ → Row → Type 0
RowWithin end row = (row.start < end) × WordsWithin end row.words

abbrev LineWithin : ℕ → Line → Type 0
LineWithin end Comment = Unit {0}
LineWithin end (Blank start) = Unit {0}
LineWithin end (Content row) = RowWithin end row

words_within : (end place : ℕ) (bytes : List ℕ) → (0 < length bytes → place + length bytes ≤ end) → WordsWithin end (words_from is_gap place bytes)
words_within end place bytes fits =
    All-weaker (IsWord is_gap place bytes) (λ word. word.start < end) within (words_from is_gap place bytes) (words_from-AreWords is_gap place bytes).all_words
  where
    within : (word : Piece) → IsWord is_gap place bytes word → word.start < end
    within word is =
        let some = is.some_bytes in
        let starts = is.is_piece.starts in
        let whole = ap length is.is_piece.text_is in
        let parts = length-append is.is_piece.before (word.bytes ++ is.is_piece.after) in
        let follows = length-append word.bytes is.is_piece.after in
        omega (arith, fits (omega arith))

row_within : (end start byte : ℕ) (rest : List ℕ) → start + length (byte ∷ rest) ≤ end → RowWithin end (row_of start (byte ∷ rest))
row_within end start byte rest fits = by_names (is_named heights_names bytes) (is_named cells_names bytes)
  where
    bytes : List ℕ
    bytes = byte ∷ rest

    after_colon : RowWithin end (named_row Foundations start bytes)
    after_colon = (
      omega arith,
      words_within end (start + position_or_len is_colon bytes + 1) (after_first is_colon bytes)
          (λ some. let long = length-drop (position_or_len is_colon bytes + 1) bytes in omega arith),
    )

    column : (colon : Bool) → WordsWithin end (cond colon (words_from is_gap (start + 1) rest) (words_from is_gap start bytes))
    column true = words_within end (start + 1) rest (λ some. omega arith)
    column false = words_within end start bytes (λ some. fits)

    by_names : (heights cells : Bool) → RowWithin end (cond heights (named_row Foundations start bytes) (cond cells (named_row Freecells start bytes) (column_row start bytes)))
    by_names true cells = after_colon
    by_names false true = after_colon
    by_names false false = (omega arith, column (is_colon byte))

front_within : (end start : ℕ) (bytes : List ℕ) → start + length bytes ≤ end → LineWithin end (line_of_front start bytes)
front_within end start [] fits = tt
front_within end start (byte ∷ rest) fits = by_sign (eqb byte number_sign)
  where
    by_sign : (b : Bool) → LineWithin end (cond b Comment (Content (row_of start (byte ∷ rest))))
    by_sign true = tt
    by_sign false = row_within end start byte rest fits

no_longer : (line : List ℕ) → length (trim_carriage_return line) ≤ length line
no_longer [] = omega arith
no_longer (byte ∷ []) = by_return (eqb byte 13)
  where
    by_return : (b : Bool) → length (cond b [] (byte ∷ [])) ≤ 1
    by_return true = omega arith
    by_return false = omega arith
no_longer (byte ∷ next ∷ rest) = let later = no_longer (next ∷ rest) in omega arith

line_of_within : (text : List ℕ) (line : Piece) → IsPieceOf 0 text line → LineWithin (length text) (line_of line)
line_of_within text line is_piece =
    let bytes = trim_carriage_return line.bytes in
    let short = no_longer line.bytes in
    let inside = piece_within text line is_piece in
    let gap = prefix_len-le-length is_gap bytes in
    let left = length-drop (prefix_len is_gap bytes) bytes in
    front_within (length text) (line.start + prefix_len is_gap bytes) (drop (prefix_len is_gap bytes) bytes) (omega arith)

all_within : (text : List ℕ) → All (LineWithin (length text)) (map line_of (lines_from 0 text))
all_within text =
    All-map (LineWithin (length text)) line_of (lines_from 0 text)
    (All-weaker (IsPieceOf 0 text) (λ line. LineWithin (length text) (line_of line)) (line_of_within text) (lines_from 0 text) (lines_are_pieces 0 text))

-- ---- the first faulty item begins within

either : {X : Type 0} (a b : Option X) (x : X) → option_or a b ≡ Some x → (a ≡ Some x) ⊎ ((a ≡ None) × (b ≡ Some x))
either None b x e = inr (refl, e)
either (Some y) b x e = inl e

placed : (place : ℕ) (kind : Option BoardFaultKind) (fault : BoardFault)
    → option_map (λ kind. record { place = place; kind = kind }) kind ≡ Some fault → fault.place ≡ place
placed place None fault e = absurd (cc)
placed place (Some kind) fault e = let same : Some (record { place = place; kind = kind }) ≡ Some fault = e in cc

unfaulty : (place : ℕ) (kind : Option BoardFaultKind) → option_map {U = BoardFault} (λ kind. record { place = place; kind = kind }) kind ≡ None
    → kind ≡ None
unfaulty place None e = refl
unfaulty place (Some kind) e = absurd (cc)

module _ (game : Game) (end : ℕ) (fault : BoardFault) where
  words_passed : (section : Section) (words : List Piece) (earlier rest : List Item) → WordsWithin end words
      → first_faulty game earlier (items_of_words section words ++ rest) ≡ Some fault
      → (fault.place < end) ⊎ (first_faulty game (earlier ++ items_of_words section words) rest ≡ Some fault)
  words_passed section [] earlier rest are e = inr (subst (λ items. first_faulty game items rest ≡ Some fault) (sym (append-nil earlier)) e)
  words_passed section (word ∷ words) earlier rest are e =
      let item : Item = record { section = section; place = word.start; word = Some word.bytes } in
      elim (either (fault_of_item game earlier item) (first_faulty game (earlier ++ item ∷ []) (items_of_words section words ++ rest)) fault e) [
        | inl here ↦
            let at = placed word.start (fault_of_part game earlier section (Some word.bytes)) fault here in
            let inside = All-head (λ word. word.start < end) word words are in
            inl (omega arith)
        | inr (none, later) ↦ elim (words_passed section words (earlier ++ item ∷ []) rest (All-tail (λ word. word.start < end) word words are) later) [
          | inl within ↦ inl within
          | inr left ↦ inr (subst (λ items. first_faulty game items rest ≡ Some fault) (append_assoc earlier (item ∷ []) (items_of_words section words)) left)
        ]
      ]

  row_passed : (row : Row) (earlier rest : List Item) → RowWithin end row → first_faulty game earlier (items_of_row row ++ rest) ≡ Some fault
      → (fault.place < end) ⊎ ((fault_of_line row.section earlier ≡ None) × (first_faulty game (earlier ++ items_of_row row) rest ≡ Some fault))
  row_passed row earlier rest (inside, are) e =
      let item = line_item row.section row.start in
      elim (either (fault_of_item game earlier item) (first_faulty game (earlier ++ item ∷ []) (items_of_words row.section row.words ++ rest)) fault e) [
        | inl here ↦ let at = placed row.start (fault_of_line row.section earlier) fault here in inl (omega arith)
        | inr (none, later) ↦ elim (words_passed row.section row.words (earlier ++ item ∷ []) rest are later) [
          | inl within ↦ inl within
          | inr left ↦ inr (
            unfaulty row.start (fault_of_line row.section earlier) none,
            subst (λ items. first_faulty game items rest ≡ Some fault) (append_assoc earlier (item ∷ []) (items_of_words row.section row.words)) left,
          )
        ]
      ]

-- the places for columns that are left after a row that is not at fault
left_after : (section : Section) (earlier : List Item) (left : ℕ) → count_of_lines Column earlier + left ≡ 8 → fault_of_line section earlier ≡ None
    → count_of_lines Column earlier + cond (is_section Column section) 1 0 + columns_left section left ≡ 8
left_after Foundations earlier left e none = omega arith
left_after Freecells earlier left e none = omega arith
left_after Column earlier left e none = some_left (count_of_lines Column earlier) left e none
  where
    some_left : (count left : ℕ) → count + left ≡ 8 → cond (leb 8 count) (Some TooManyColumns) None ≡ None → count + 1 + (left - 1) ≡ 8
    some_left count zero e none =
        let full : leb 8 count ≡ true = grind (arith, nat_tests) in
        let some : Some TooManyColumns ≡ None = rw full at none in
        absurd (cc)
    some_left count (suc left) e none = omega arith

count_row : (row : Row) (earlier : List Item)
    → count_of_lines Column (earlier ++ items_of_row row) ≡ count_of_lines Column earlier + cond (is_section Column row.section) 1 0
count_row row earlier =
    let whole = lines-append Column earlier (items_of_row row) in
    let parts = lines-append Column (line_item row.section row.start ∷ []) (items_of_words row.section row.words) in
    let one = lines-one Column row.section row.start in
    let none = no_lines Column row.section row.words in
    omega arith

-- a blank line that is an empty column is not at fault
room_left : (game : Game) (earlier : List Item) (start left : ℕ) → count_of_lines Column earlier + suc left ≡ 8
    → fault_of_item game earlier (line_item Column start) ≡ None
room_left game earlier start left e = rw (some_room (count_of_lines Column earlier) left e)
  where
    some_room : (count left : ℕ) → count + suc left ≡ 8 → leb 8 count ≡ false
    some_room count left e = grind (arith, nat_tests)

within_rows : (game : Game) (end : ℕ) (fault : BoardFault) (lines : List Line) (left : ℕ) (earlier : List Item)
    → count_of_lines Column earlier + left ≡ 8
    → All (LineWithin end) lines → first_faulty game earlier (flat_map items_of_row (rows_within left lines)) ≡ Some fault → fault.place < end
within_rows game end fault [] zero earlier places are e = absurd (cc)
within_rows game end fault [] (suc left) earlier places are e = absurd (cc)
within_rows game end fault (Comment ∷ lines) zero earlier places are e = within_rows game end fault lines zero earlier places (All-tail (LineWithin end) Comment lines are) e
within_rows game end fault (Comment ∷ lines) (suc left) earlier places are e = within_rows game end fault lines (suc left) earlier places (All-tail (LineWithin end) Comment lines are) e
within_rows game end fault (Blank start ∷ lines) zero earlier places are e =
    within_rows game end fault lines zero earlier places (All-tail (LineWithin end) (Blank start) lines are) e
within_rows game end fault (Blank start ∷ lines) (suc left) earlier places are e =
    within_rows game end fault lines left (earlier ++ line_item Column start ∷ []) (more places) (All-tail (LineWithin end) (Blank start) lines are)
    (rw (room_left game earlier start left places) at e)
  where
    more : count_of_lines Column earlier + suc left ≡ 8 → count_of_lines Column (earlier ++ line_item Column start ∷ []) + left ≡ 8
    more places = let sum = lines-append Column earlier (line_item Column start ∷ []) in let one = lines-one Column Column start in omega arith
within_rows game end fault (Content row ∷ lines) left earlier places are e =
    let rest = flat_map items_of_row (rows_within (columns_left row.section left) lines) in
    let split : first_faulty game earlier (items_of_row row ++ rest) ≡ Some fault =
    ap (λ rows. first_faulty game earlier (flat_map items_of_row rows)) (sym (held_first left row lines)) ∙ e in
    elim (row_passed game end fault row earlier rest (All-head (LineWithin end) (Content row) lines are) split) [
      | inl within ↦ within
      | inr (none, later) ↦
          within_rows game end fault lines (columns_left row.section left) (earlier ++ items_of_row row)
          (ap (λ n. n + columns_left row.section left) (count_row row earlier) ∙ left_after row.section earlier left places none)
          (All-tail (LineWithin end) (Content row) lines are) later
    ]

-- ---- no item is at fault for a missing card

abbrev NotMissing : Option BoardFaultKind → Type 0
NotMissing kind = (card : ℕ) → kind ≡ Some (MissingCard card) → ⊥

if_not_missing : (b : Bool) (kind : BoardFaultKind) → NotMissing (Some kind) → NotMissing (cond b (Some kind) None)
if_not_missing true kind other = other
if_not_missing false kind other = λ card e. cc

no_line_misses : (section : Section) (earlier : List Item) → NotMissing (fault_of_line section earlier)
no_line_misses Foundations earlier = if_not_missing (leb 1 (count_of_lines Foundations earlier)) RepeatedLine (λ card e. cc)
no_line_misses Freecells earlier = if_not_missing (leb 1 (count_of_lines Freecells earlier)) RepeatedLine (λ card e. cc)
no_line_misses Column earlier = if_not_missing (leb 8 (count_of_lines Column earlier)) TooManyColumns (λ card e. cc)

no_word_misses : (game : Game) (earlier : List Item) (section : Section) (word : List ℕ) → NotMissing (fault_of_part game earlier section (Some word))
no_word_misses game earlier section word =
    let suits = is_repeated suits_of_item earlier (suits_of_word section word) in
    let cards = is_repeated cards_of_item earlier (cards_of_word section word) in
    by_tests (is_past_cells game section earlier) (not (has_form section word)) suits cards section
  where
    by_tests : (past bad suits cards : Bool) (section : Section)
        → NotMissing (cond past (Some TooManyCells) (cond bad (Some (bad_word section)) (cond suits (Some BadFoundation) (cond cards (Some RepeatedCard) None))))
    by_tests true bad suits cards section card e = cc
    by_tests false true suits cards Foundations card e = cc
    by_tests false true suits cards Freecells card e = cc
    by_tests false true suits cards Column card e = cc
    by_tests false false true cards section card e = cc
    by_tests false false false true section card e = cc
    by_tests false false false false section card e = cc

no_part_misses : (game : Game) (earlier : List Item) (section : Section) (part : Option (List ℕ))
    → NotMissing (fault_of_part game earlier section part)
no_part_misses game earlier section None = no_line_misses section earlier
no_part_misses game earlier section (Some word) = no_word_misses game earlier section word

pub no_item_misses : (game : Game) (items earlier : List Item) (place card : ℕ)
    → first_faulty game earlier items ≡ Some (record { place = place; kind = MissingCard card }) → ⊥
no_item_misses game [] earlier place card e = absurd (cc)
no_item_misses game (item ∷ items) earlier place card e =
    elim (either (fault_of_item game earlier item) (first_faulty game (earlier ++ item ∷ []) items) (record { place = place; kind = MissingCard card }) e) [
      | inl here ↦ at_item (fault_of_part game earlier item.section item.word) (no_part_misses game earlier item.section item.word) here
      | inr (none, later) ↦ no_item_misses game items (earlier ++ item ∷ []) place card later
    ]
  where
    at_item : (kind : Option BoardFaultKind) → NotMissing kind
        → option_map {U = BoardFault} (λ kind. record { place = item.place; kind = kind }) kind ≡ Some (record { place = place; kind = MissingCard card }) → ⊥
    at_item None other e = absurd (cc)
    at_item (Some kind) other e = other card (ap (λ (fault : BoardFault). Some fault.kind) (same_Some _ _ e))

-- ---- the first fault of a text

pub missing_at_end : (game : Game) (text : List ℕ) (place card : ℕ) → first_fault game text ≡ Some (record { place = place; kind = MissingCard card })
    → place ≡ length text
missing_at_end game text place card e =
    elim (either (first_faulty game [] (items_of text)) (missing_card text) (record { place = place; kind = MissingCard card }) e) [
      | inl item ↦ absurd (no_item_misses game (items_of text) [] place card item)
      | inr (none, missing) ↦ ensured (lowest_missing (flat_map cards_of_item (items_of text))) missing
    ]
  where
    ensured : (lowest : Option ℕ) → option_map {U = BoardFault} (λ card. record { place = length text; kind = MissingCard card }) lowest ≡ Some (record { place = place; kind = MissingCard card }) → place ≡ length text
    ensured None e = absurd (cc)
    ensured (Some other) e = sym (ap (λ (fault : BoardFault). fault.place) (same_Some _ _ e))

pub others_within : (game : Game) (text : List ℕ) (fault : BoardFault) → first_fault game text ≡ Some fault
    → ((card : ℕ) → fault.kind ≢ MissingCard card) → fault.place < length text
others_within game text fault e other =
    elim (either (first_faulty game [] (items_of text)) (missing_card text) fault e) [
      | inl item ↦
          within_rows game (length text) fault (drop (prefix_len is_empty lines) lines) 8 [] refl
          (All-drop (LineWithin (length text)) (prefix_len is_empty lines) lines (all_within text)) item
      | inr (none, missing) ↦ absurd (ensured (lowest_missing (flat_map cards_of_item (items_of text))) missing)
    ]
  where
    lines : List Line
    lines = map line_of (lines_from 0 text)

    ensured : (lowest : Option ℕ) → option_map {U = BoardFault} (λ card. record { place = length text; kind = MissingCard card }) lowest ≡ Some fault
        → ⊥
    ensured None e = absurd (cc)
    ensured (Some card) e = other card (sym (ap (λ (fault : BoardFault). fault.kind) (same_Some _ _ e)))
