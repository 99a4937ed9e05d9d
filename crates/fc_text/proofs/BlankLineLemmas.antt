-- The rows of lines, line by line from the front: what the last line gives follows from those before it.
use Rattle.std.proofs.Common.{◌++◌, ◌+◌, ◌<◌, ◌∙◌, ◌∷◌, ◌≡◌, ◌≤◌, ◌⊎◌, [], All, ap, append-nil, append_assoc, arith}
use Rattle.std.proofs.Common.{Bool, cond, drop, false, inl, inr, length, List, ltb, map, not, refl, Some, subst, suc}
use Rattle.std.proofs.{Common.{sym, true, zero, ℕ}, lemmas.{Bool.Decides.{nat_tests}, List.Elements.{All-cons}}}
use Rattle.std.{proofs.lemmas.List.{map-append}, specs.List.{list_any, prefix_len}}
use Rattle.std.proofs.{lemmas.Bool.{false_from_ne_true}, Math.Numerals.{one-add}}
use Rattle.fc_board.specs.{Boards.{Board}, Games.{Game}}
use Rattle.fc_text.proofs.{LineLemmas.{first_line, InLine, lines_joined}, RowLemmas.{length-kept}}
use Rattle.fc_text.{proofs.TakingLemmas.{held_first, ltb_tells}, specs.Bytes.{line_feed, number_sign}}
use Rattle.fc_text.specs.{Lines.{lines_from, Piece}, reader.{rows_of_line}, Rows.{Blank, column_row, columns_left}}
use Rattle.fc_text.specs.Rows.{Comment, Content, is_empty, Line, line_of, Row, rows_of, rows_of_lines, rows_within}
use Rattle.fc_text.specs.Spelling.{AreRows, blank_after_all, blank_before_all, card_spelled, cell_spelled, comment}
use Rattle.fc_text.specs.Spelling.{empty_column, foundation_spelled, held, is_section, lines_of, none, OneByOne, Spells}
use Rattle.fc_text.specs.Spelling.{words_of}
use Rattle.fc_text.specs.declared.board.reader.Section.{Section, TheVariants.{Column, Foundations, Freecells}}

abbrev holds : Line → Bool
holds line = not (is_empty line)

abbrev columns : List Row → ℕ
columns rows = length (lines_of Column rows)

-- ---- lines after the first one that holds something

none_within : (left : ℕ) → rows_within left [] ≡ []
none_within zero = refl
none_within (suc left) = refl

comment_first : (left : ℕ) (lines : List Line) → rows_within left (Comment ∷ lines) ≡ rows_within left lines
comment_first zero lines = refl
comment_first (suc left) lines = refl

-- a further column has room exactly where one had room before the row
room_later : (section : Section) (left count : ℕ) → ltb (cond (is_section Column section) 1 0 + count) left ≡ ltb count (columns_left section left)
room_later Foundations left count = ap (λ n. ltb n left) (omega arith)
room_later Freecells left count = ap (λ n. ltb n left) (omega arith)
room_later Column left count = grind (arith, nat_tests)

columns_with : (row : Row) (rows : List Row) → columns (row ∷ rows) ≡ cond (is_section Column row.section) 1 0 + columns rows
columns_with row rows = length-kept (is_section Column row.section) row (lines_of Column rows)

-- what the last line gives
abbrev LastWithin : ℕ → List Line → Line → Type 0
LastWithin left lines line = rows_within left (lines ++ line ∷ []) ≡ rows_within left lines ++ rows_of_line true (ltb (columns (rows_within left lines)) left) line

after_row : (row : Row) (left next : ℕ) (first : Line) (lines : List Line) (line : Line)
    → ((lines : List Line) → rows_within left (first ∷ lines) ≡ row ∷ rows_within next lines)
    → ((count : ℕ) → ltb (cond (is_section Column row.section) 1 0 + count) left ≡ ltb count next)
    → LastWithin next lines line → LastWithin left (first ∷ lines) line
after_row row left next first lines line gives room last =
    gives (lines ++ line ∷ [])
    ∙ ap (λ rows. row ∷ rows) last
    ∙ ap (λ b. row ∷ (rows_within next lines ++ rows_of_line true b line)) (sym (room (columns (rows_within next lines))) ∙ ap (λ n. ltb n left) (sym (columns_with row (rows_within next lines))))
    ∙ ap (λ rows. rows ++ rows_of_line true (ltb (columns rows) left) line) (sym (gives lines))

last_within : (left : ℕ) (lines : List Line) (line : Line) → LastWithin left lines line
last_within zero [] Comment = refl
last_within zero [] (Blank start) = refl
last_within zero [] (Content row) = ap (λ rows. row ∷ rows) (none_within (columns_left row.section zero))
last_within (suc left) [] Comment = refl
last_within (suc left) [] (Blank start) = ap (λ rows. column_row start [] ∷ rows) (none_within left) ∙ ap (λ b. cond b (column_row start [] ∷ []) []) (some_room left)
  where
    some_room : (left : ℕ) → true ≡ ltb 0 (suc left)
    some_room left = grind (arith, nat_tests)
last_within (suc left) [] (Content row) = ap (λ rows. row ∷ rows) (none_within (columns_left row.section (suc left)))
last_within left (Comment ∷ lines) line =
    comment_first left (lines ++ line ∷ []) ∙ last_within left lines line
    ∙ ap (λ rows. rows ++ rows_of_line true (ltb (columns rows) left) line) (sym (comment_first left lines))
last_within zero (Blank start ∷ lines) line = last_within zero lines line
last_within (suc left) (Blank start ∷ lines) line =
    after_row (column_row start []) (suc left) left (Blank start) lines line (λ lines. refl) (room left) (last_within left lines line)
  where
    room : (left count : ℕ) → ltb (1 + count) (suc left) ≡ ltb count left
    room left count = grind (arith, nat_tests)
last_within left (Content row ∷ lines) line =
    after_row row left (columns_left row.section left) (Content row) lines line (held_first left row) (room_later row.section left)
    (last_within (columns_left row.section left) lines line)

-- ---- all lines

-- an empty line at the front is skipped
pub skipped : (line : Line) (lines : List Line) → is_empty line ≡ true → rows_of_lines (line ∷ lines) ≡ rows_of_lines lines
skipped line lines e =
    ap (λ b. rows_within 8 (drop (cond b (1 + prefix_len is_empty lines) 0) (line ∷ lines))) e
    ∙ ap (λ n. rows_within 8 (drop n (line ∷ lines))) (one-add (prefix_len is_empty lines))

abbrev Last : List Line → Line → Type 0
Last lines line = rows_of_lines (lines ++ line ∷ []) ≡ rows_of_lines lines ++ rows_of_line (list_any holds lines) (ltb (columns (rows_of_lines lines)) 8) line

after_skipped : (first : Line) (lines : List Line) (line : Line) → is_empty first ≡ true → Last lines line
    → rows_of_lines (first ∷ lines ++ line ∷ []) ≡ rows_of_lines (first ∷ lines) ++ rows_of_line (list_any holds lines) (ltb (columns (rows_of_lines (first ∷ lines))) 8) line
after_skipped first lines line e last =
    skipped first (lines ++ line ∷ []) e ∙ last
    ∙ ap (λ rows. rows ++ rows_of_line (list_any holds lines) (ltb (columns rows) 8) line) (sym (skipped first lines e))

last_line : (lines : List Line) (line : Line) → Last lines line
last_line [] Comment = refl
last_line [] (Blank start) = refl
last_line [] (Content row) = ap (λ rows. row ∷ rows) (none_within (columns_left row.section 8))
last_line (Comment ∷ lines) line = after_skipped Comment lines line refl (last_line lines line)
last_line (Blank start ∷ lines) line = after_skipped (Blank start) lines line refl (last_line lines line)
last_line (Content row ∷ lines) line = last_within 8 (Content row ∷ lines) line

-- a comment at the end gives nothing
pub comment_last : (lines : List Line) → rows_of_lines (lines ++ Comment ∷ []) ≡ rows_of_lines lines
comment_last lines = last_line lines Comment ∙ append-nil (rows_of_lines lines)

-- ---- the relation

one_more : (lines : List Line) (line : Line) → AreRows lines (rows_of_lines lines) → AreRows (lines ++ line ∷ []) (rows_of_lines (lines ++ line ∷ []))
one_more lines Comment are = subst (AreRows (lines ++ Comment ∷ [])) (sym (comment_last lines)) (comment are)
one_more lines (Content row) are = subst (AreRows (lines ++ Content row ∷ [])) (sym (last_line lines (Content row))) (held are row)
one_more lines (Blank start) are =
    subst (AreRows (lines ++ Blank start ∷ [])) (sym (last_line lines (Blank start)))
    (by_tests (list_any holds lines) (ltb (columns (rows_of_lines lines)) 8) refl (ltb_tells (columns (rows_of_lines lines)) 8))
  where
    by_tests : (begun room : Bool) → list_any holds lines ≡ begun
        → ((room ≡ true) × (columns (rows_of_lines lines) < 8)) ⊎ ((room ≡ false) × (8 ≤ columns (rows_of_lines lines)))
        → AreRows (lines ++ Blank start ∷ []) (rows_of_lines lines ++ rows_of_line begun room (Blank start))
    by_tests false room e tells =
        subst (AreRows (lines ++ Blank start ∷ [])) (sym (append-nil (rows_of_lines lines))) (blank_before_all are start (λ some. absurd (cc)))
    by_tests true room e (inl (r, h)) =
        subst (λ room. AreRows (lines ++ Blank start ∷ []) (rows_of_lines lines ++ rows_of_line true room (Blank start))) (sym r) (empty_column are start e h)
    by_tests true room e (inr (r, h)) =
        subst (λ room. AreRows (lines ++ Blank start ∷ []) (rows_of_lines lines ++ rows_of_line true room (Blank start))) (sym r)
        (subst (AreRows (lines ++ Blank start ∷ [])) (sym (append-nil (rows_of_lines lines))) (blank_after_all are start (λ fewer. absurd (omega arith))))

pub rows_are : (lines : List Line) → AreRows lines (rows_of_lines lines)
rows_are lines = grown [] lines none
  where
    grown : (before lines : List Line) → AreRows before (rows_of_lines before) → AreRows (before ++ lines) (rows_of_lines (before ++ lines))
    grown before [] are = rw (append-nil before) are
    grown before (line ∷ lines) are =
        subst (λ lines. AreRows lines (rows_of_lines lines)) (append_assoc before (line ∷ []) lines) (grown (before ++ line ∷ []) lines (one_more before line are))

pub only_rows : {lines : List Line} {rows : List Row} → AreRows lines rows → rows ≡ rows_of_lines lines
only_rows none = refl
only_rows (comment {lines} {rows} are) = only_rows are ∙ sym (comment_last lines)
only_rows (held {lines} {rows} are row) = ap (λ rows. rows ++ row ∷ []) (only_rows are) ∙ sym (last_line lines (Content row))
only_rows (empty_column {lines} {rows} are start some room) =
    let same = only_rows are in
    let free = has_room (columns (rows_of_lines lines)) (rw same at room) in
    rw (same, last_line lines (Blank start), some, free)
  where
    has_room : (count : ℕ) → count < 8 → ltb count 8 ≡ true
    has_room count h = grind (arith, nat_tests)
only_rows (blank_before_all {lines} {rows} are start not_some) =
    rw (only_rows are, last_line lines (Blank start), false_from_ne_true (list_any holds lines) not_some, append-nil (rows_of_lines lines))
only_rows (blank_after_all {lines} {rows} are start no_room) =
    let same = only_rows are in
    let none = full (columns (rows_of_lines lines)) (λ h. no_room (rw same h)) in
    rw (same, last_line lines (Blank start), none, by_begun (list_any holds lines), append-nil (rows_of_lines lines))
  where
    full : (count : ℕ) → ¬ (count < 8) → ltb count 8 ≡ false
    full count h = full_from (ltb_tells count 8)
      where
        full_from : ((ltb count 8 ≡ true) × (count < 8)) ⊎ ((ltb count 8 ≡ false) × (8 ≤ count)) → ltb count 8 ≡ false
        full_from (inl (test, less)) = absurd (h less)
        full_from (inr (test, more)) = test

    by_begun : (b : Bool) → rows_of_lines lines ++ rows_of_line b false (Blank start) ≡ rows_of_lines lines ++ []
    by_begun true = refl
    by_begun false = refl

-- ---- a comment after a text changes nothing of what it spells

-- a line that begins with a number sign is a comment
pub begins_comment : (start : ℕ) (bytes : List ℕ) → line_of (record { start = start; bytes = number_sign ∷ bytes }) ≡ Comment
begins_comment start [] = refl
begins_comment start (byte ∷ bytes) = refl

-- a text with the same rows spells the same board
spelled_alike : (game : Game) (text other : List ℕ) (board : Board) → rows_of text ≡ rows_of other → Spells game text board → Spells game other board
spelled_alike game text other board same spells = record {
  foundations = spells.foundations;
  cells = spells.cells;
  columns = spells.columns;
  one_foundations_line = subst (λ rows. length (lines_of Foundations rows) ≤ 1) same spells.one_foundations_line;
  foundations_spelled = subst (λ rows. OneByOne foundation_spelled (words_of Foundations rows) spells.foundations) same spells.foundations_spelled;
  distinct_suits = spells.distinct_suits;
  heights_given = spells.heights_given;
  one_cells_line = subst (λ rows. length (lines_of Freecells rows) ≤ 1) same spells.one_cells_line;
  cells_spelled = subst (λ rows. OneByOne cell_spelled (words_of Freecells rows) spells.cells) same spells.cells_spelled;
  cells_fit = spells.cells_fit;
  cells_given = spells.cells_given;
  columns_fit = spells.columns_fit;
  columns_spelled = subst (λ rows. map (λ row. map (λ word. card_spelled word.bytes) row.words) (lines_of Column rows) ≡ map (map (λ card. Some card)) spells.columns)
      same spells.columns_spelled;
  columns_given = spells.columns_given;
  well_formed = spells.well_formed;
}

-- a text that has a comment more spells the same board
pub spelled_with_comment : (game : Game) (text other : List ℕ) (line : Piece) (board : Board) → lines_from 0 other ≡ lines_from 0 text ++ line ∷ []
    → line_of line ≡ Comment
    → Spells game text board → Spells game other board
spelled_with_comment game text other line board lines is =
    spelled_alike game text other board
    (sym (ap (λ lines. rows_of_lines (map line_of lines)) lines
    ∙ ap rows_of_lines (map-append line_of (lines_from 0 text) (line ∷ []))
    ∙ ap (λ last. rows_of_lines (map line_of (lines_from 0 text) ++ last ∷ [])) is
    ∙ comment_last (map line_of (lines_from 0 text))))

-- a line after a text that a line feed ends is one line more
pub one_line_more : (place : ℕ) (text line : List ℕ) → All InLine line
    → lines_from place (text ++ line_feed ∷ (line ++ line_feed ∷ [])) ≡ lines_from place (text ++ line_feed ∷ []) ++ record { start = place + (length text + 1); bytes = line } ∷ []
one_line_more place text line are =
    lines_joined place text (line ++ line_feed ∷ []) ∙ ap (λ lines. lines_from place (text ++ line_feed ∷ []) ++ lines) (first_line (place + (length text + 1)) line [] are)

pub spelled-comment_after : (game : Game) (text words : List ℕ) (board : Board) → All InLine words → Spells game (text ++ line_feed ∷ []) board
    → Spells game (text ++ line_feed ∷ (number_sign ∷ words ++ line_feed ∷ [])) board
spelled-comment_after game text words board are =
    spelled_with_comment game (text ++ line_feed ∷ []) (text ++ line_feed ∷ (number_sign ∷ words ++ line_feed ∷ [])) (record { start = 0 + (length text + 1); bytes = number_sign ∷ words }) board
    (one_line_more 0 text (number_sign ∷ words) (All-cons InLine number_sign words (λ e. absurd (omega (arith, e))) are)) (begins_comment (0 + (length text + 1)) words)
