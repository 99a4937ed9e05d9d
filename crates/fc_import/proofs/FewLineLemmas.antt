-- Lemmas on lines that are fewer than the columns of a board.
use Rattle.std.proofs.Common.{◌+◌, ◌-◌, ◌<◌, ◌==◌, ◌∙◌, ◌∷◌, ◌≡◌, ◌≤◌, [], ap, arith, Bool, cond, drop, false, get_or}
use Rattle.std.proofs.Common.{if◌then◌else◌, length, List, map, refl, replicate, subst, suc, sym, take, true, zero, ℕ}
use Rattle.std.proofs.lemmas.List.{get_or-append_right, get_or-replicate, length-drop, length-map}
use Rattle.std.proofs.lemmas.List.Sums.{count_by-le-length, length-filter, sum_by-cons}
use Rattle.std.specs.{List.{prefix_len}, Prelude.{slice_index_or}}
use Rattle.{fc_board.specs.{Boards.{Board}, Games.{Game}}, fc_import.proofs.PieceLemmas.{alone}}
use Rattle.fc_text.specs.{Bytes.{line_feed}, Lines.{in_line, lines_from, Piece}}
use Rattle.fc_text.specs.Rows.{Blank, columns_left, Comment, Content, is_empty, Line, line_of, rows_of, rows_within}
use Rattle.fc_text.specs.{declared.board.reader.Section.TheVariants.{Column}, Spelling.{is_section, lines_of, Spells}}
use Rattle.fc_import.specs.Notes.{line_feeds}

-- lines have no more rows than they are
few_rows : (left : ℕ) (lines : List Line) → length (rows_within left lines) ≤ length lines
few_rows left [] = omega arith
few_rows left (Comment ∷ lines) = omega (arith, few_rows left lines)
few_rows zero (Blank start ∷ lines) = omega (arith, few_rows zero lines)
few_rows (suc left) (Blank start ∷ lines) = omega (arith, few_rows left lines)
few_rows left (Content row ∷ lines) = omega (arith, few_rows (columns_left row.section left) lines)

-- `show` reads no card of an eighth column where the lines are fewer
pub no_last_column : (game : Game) (piece : List ℕ) (board : Board) → length (lines_from 0 piece) < 8 → Spells game piece board
    → slice_index_or board.columns 7 [] ≡ []
no_last_column game piece board few spelled =
    let lines = map line_of (lines_from 0 piece) in
    let rows = rows_of piece in
    let columns : length spelled.columns ≡ length (lines_of Column rows) = sym (length-map spelled.columns _)
    ∙ sym (ap length spelled.columns_spelled) ∙ length-map (lines_of Column rows) _ in
    let held = length-filter (λ row. is_section Column row.section) rows in
    let count = count_by-le-length (λ row. is_section Column row.section) rows in
    let fewer = few_rows 8 (drop (prefix_len is_empty lines) lines) in
    let short : length spelled.columns < 8 = omega (arith, columns, held, count, fewer, length-drop (prefix_len is_empty lines) lines, length-map (lines_from 0 piece) line_of, few) in
    ap (λ columns. get_or columns 7 []) spelled.columns_given
    ∙ get_or-append_right spelled.columns (replicate (8 - length spelled.columns) []) (length spelled.columns) 7 [] refl (omega (arith, short))
    ∙ get_or-replicate (8 - length spelled.columns) (7 - length spelled.columns) [] [] (omega (arith, short))

-- a line begins where a text does, or after a line feed
lines_more : (place byte : ℕ) (ends : Bool) (lines : List Piece) (feeds : ℕ) → length lines ≤ feeds + 1
    → length (if ends then record { start = place; bytes = [] } ∷ lines else in_line place byte lines) ≤ cond ends 1 0 + feeds + 1
lines_more place byte true lines feeds few = omega (arith, few)
lines_more place byte false [] feeds few = omega arith
lines_more place byte false (line ∷ lines) feeds few = omega (arith, few)

-- a text has at most one line more than line feeds before its last byte
pub few_lines : (place : ℕ) (text : List ℕ) (end : ℕ) → length text ≤ end + 1 → length (lines_from place text) ≤ line_feeds (take end text) + 1
few_lines place [] end long = omega arith
few_lines place (byte ∷ []) end long = omega (arith, alone place byte (byte == line_feed))
few_lines place (byte ∷ next ∷ rest) zero long = absurd (omega (arith, long))
few_lines place (byte ∷ next ∷ rest) (suc end) long =
    subst (λ feeds. length (lines_from place (byte ∷ next ∷ rest)) ≤ feeds + 1)
    (sym (sum_by-cons (λ byte. cond (byte == line_feed) 1 0) byte (take end (next ∷ rest))))
    (lines_more place byte (byte == line_feed) (lines_from (place + 1) (next ∷ rest)) (line_feeds (take end (next ∷ rest))) (few_lines (place + 1) (next ∷ rest) end (omega (arith, long))))
