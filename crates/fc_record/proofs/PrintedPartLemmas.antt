-- Where the first list begins: at the first mark, where that one begins a line.
use Rattle.{fc_board.specs.{Boards.{Board, IsWellFormed}, Games.{Game}}, memchr.specs.Find.{is_byte, IsFirstByte}}
use Rattle.std.proofs.Common.{◌++◌, ◌+◌, ◌-◌, ◌<◌, ◌==◌, ◌∙◌, ◌∷◌, ◌≡◌, [], All, ap, append-nil, append_assoc, arith}
use Rattle.std.proofs.Common.{drop, false, length, length-append, List, None, refl, Some, subst, sym, take, true, ℕ}
use Rattle.std.proofs.lemmas.{Bool.{eqb-true, false_from_ne_true}, List.{drop_more}}
use Rattle.std.proofs.lemmas.List.{Elements.{All-from_get_or, All-head, All-tail, All-weaker}, Folds.{find-append}}
use Rattle.std.proofs.{lemmas.List.{get_or-take, length-take-le, take-append-drop}, Math.Seq.{take-append_seam}}
use Rattle.std.specs.{List.{find, flat_map}, Option.{option_map, option_or, unwrap_or}}
use Rattle.fc_text.proofs.LineLemmas.{in_line-first, InLine, lines_are_pieces, lines_from-moved, lines_join}
use Rattle.fc_text.proofs.PrintedTextLemmas.{bytes_in_lines, cells_bytes, column_bytes, heights_bytes}
use Rattle.fc_text.{proofs.SpellingLemmas.{spelled}, specs.Bytes.{line_feed}}
use Rattle.fc_text.specs.Lines.{in_line, IsPieceOf, lines_from, Piece}
use Rattle.fc_text.specs.{Printed.{cells_line, column_line, foundations_line, text_of}, Spelling.{Spells}}
use Rattle.fc_record.proofs.{ContentsLemmas.{at_place, begins_list, first_list-later}, TextLineLemmas.{AreLines}}
use Rattle.fc_record.proofs.TextLineLemmas.{AreLines-append, AreLines-flat_map, AreLines-line, last_byte, lines_after}
use Rattle.fc_record.specs.{Grammar.{begins_with, list_mark, lists_start}, inside.{ends_board}}
use Rattle.fc_record.specs.RecordTexts.{ends_line, header_mark}

abbrev pub Unmarked : ℕ → Type 0
Unmarked byte = (byte == list_mark) ≡ false

-- a line of a text without the mark is no list
unmarked_line : (place : ℕ) (text : List ℕ) (line : Piece) → All Unmarked text → IsPieceOf place text line → begins_list line ≡ false
unmarked_line place text line are is_piece = by_bytes line.bytes is_piece.text_is
  where
    by_bytes : (bytes : List ℕ) → text ≡ is_piece.before ++ (bytes ++ is_piece.after) → begins_with list_mark bytes ≡ false
    by_bytes [] is = refl
    by_bytes (byte ∷ rest) is = at_place Unmarked is_piece.before byte (rest ++ is_piece.after) (subst (All Unmarked) is are)

no_list : (lines : List Piece) → All (λ line. begins_list line ≡ false) lines → find begins_list lines ≡ None
no_list [] are = refl
no_list (line ∷ lines) are =
    first_list-later (line ∷ lines) lines line refl (All-head (λ line. begins_list line ≡ false) line lines are)
    ∙ no_list lines (All-tail (λ line. begins_list line ≡ false) line lines are)

none_marked : (place : ℕ) (text : List ℕ) → All Unmarked text → find begins_list (lines_from place text) ≡ None
none_marked place text are =
    no_list (lines_from place text)
    (All-weaker (IsPieceOf place text) (λ line. begins_list line ≡ false) (λ line is_piece. unmarked_line place text line are is_piece) (lines_from place text) (lines_are_pieces place text))

-- without a mark the text ends before any list
pub no_mark : (text : List ℕ) → All Unmarked text → lists_start text ≡ length text
no_mark text are = ap (λ found. unwrap_or (option_map (λ line. line.start) found) (length text)) (none_marked 0 text are)

-- a text that begins with the mark begins with a list
pub marked : (place : ℕ) (rest : List ℕ) → option_map (λ line. line.start) (find begins_list (lines_from place (list_mark ∷ rest))) ≡ Some place
marked place rest = ap (λ lines. option_map (λ line. line.start) (find begins_list lines)) (in_line-first place list_mark rest (λ e. absurd (omega (arith, e)))) ∙ first (lines_from (place + 1) rest)
  where
    first : (lines : List Piece) → option_map (λ line. line.start) (find begins_list (in_line place list_mark lines)) ≡ Some place
    first [] = refl
    first (line ∷ lines) = refl

-- the first mark, where it begins a line, begins the first list
pub first_mark : (front rest : List ℕ) → All Unmarked front → ends_line front ≡ true → lists_start (front ++ list_mark ∷ rest) ≡ length front
first_mark [] rest are ends = ap (λ found. unwrap_or found (length (list_mark ∷ rest))) (marked 0 rest)
first_mark (byte ∷ more) rest are ends =
    let (text, is) = last_byte byte more ends in
    let body = byte ∷ more ++ list_mark ∷ rest in
    let cut : body ≡ text ++ line_feed ∷ (list_mark ∷ rest) = ap (λ front. front ++ list_mark ∷ rest) is ∙ append_assoc text (line_feed ∷ []) (list_mark ∷ rest) in
    let after = length text + 1 + 0 in
    let lines : lines_from 0 body ≡ lines_from 0 (text ++ line_feed ∷ []) ++ lines_from after (list_mark ∷ rest) =
    ap (lines_from 0) cut ∙ lines_join text (list_mark ∷ rest) ∙ ap (λ later. lines_from 0 (text ++ line_feed ∷ []) ++ later) (sym (lines_from-moved (length text + 1) 0 (list_mark ∷ rest))) in
    let found : find begins_list (lines_from 0 body) ≡ find begins_list (lines_from after (list_mark ∷ rest)) =
    ap (find begins_list) lines ∙ find-append begins_list (lines_from 0 (text ++ line_feed ∷ [])) (lines_from after (list_mark ∷ rest))
    ∙ ap (λ first. option_or first (find begins_list (lines_from after (list_mark ∷ rest)))) (none_marked 0 (text ++ line_feed ∷ []) (subst (All Unmarked) is are)) in
    let long = ap length is ∙ length-append text (line_feed ∷ []) in
    ap (λ found. unwrap_or (option_map (λ line. line.start) found) (length body)) found
    ∙ ap (λ found. unwrap_or found (length body)) (marked after rest) ∙ omega (arith, long)

-- ---- the search for the mark

pub no_mark_found : (body : List ℕ) → IsFirstByte (is_byte list_mark) body None → lists_start body ≡ length body
no_mark_found body nowhere = no_mark body (All-from_get_or Unmarked body 0 (λ k below. false_from_ne_true _ (nowhere k (omega arith) below)))

pub mark_found : (body : List ℕ) (place : ℕ) → IsFirstByte (is_byte list_mark) body (Some place) → ends_line (take place body) ≡ true → lists_start body ≡ place
mark_found body place found ends =
    let inside : place < length body = found.0.high in
    let long : length (take place body) ≡ place = length-take-le place body (omega (arith, inside)) in
    let are : All Unmarked (take place body) = All-from_get_or Unmarked (take place body) 0
    (λ k below. let early : k < place = omega (arith, below, long) in
    subst Unmarked (sym (get_or-take place body k 0 early)) (false_from_ne_true _ (found.0.before k (omega arith) early))) in
    let whole : body ≡ take place body ++ list_mark ∷ drop (place + 1) body =
    sym (take-append-drop place body) ∙ ap (λ later. take place body ++ later) (drop_more body place 0 inside ∙ ap (λ byte. byte ∷ drop (place + 1) body) (eqb-true _ _ found.1)) in
    ap lists_start whole ∙ first_mark (take place body) (drop (place + 1) body) are ends ∙ long

-- ---- a printed board is all of a record's board text, where a list or nothing follows

-- a line that begins neither a header nor a list
abbrev pub IsPlain : List ℕ → Type 0
IsPlain line = (begins_with header_mark line ≡ false) × (begins_with list_mark line ≡ false)

pub lines_of_board : (game : Game) (board : Board) → IsWellFormed game board → AreLines IsPlain (text_of board)
lines_of_board game board well =
    let (heights, cells, columns) = bytes_in_lines game board well in
    AreLines-append IsPlain (foundations_line board.heights ++ cells_line board.cells) (flat_map column_line board.columns)
    (AreLines-append IsPlain (foundations_line board.heights) (cells_line board.cells)
    (AreLines-line IsPlain (heights_bytes board.heights) heights (refl, refl)) (AreLines-line IsPlain (cells_bytes board.cells) cells (refl, refl)))
    (AreLines-flat_map IsPlain column_line board.columns
    (All-weaker (λ column. All InLine (column_bytes column)) (λ column. AreLines IsPlain (column_line column))
    (λ column are. AreLines-line IsPlain (column_bytes column) are (refl, refl)) board.columns columns))

-- the first list begins after plain lines
pub starts_after : (above rest : List ℕ) → AreLines IsPlain above → ends_board rest ≡ true → lists_start (above ++ rest) ≡ length above
starts_after above rest are ends = by_rest rest ends
  where
    none_above : find begins_list (lines_from 0 above) ≡ None
    none_above = no_list (lines_from 0 above) (All-weaker (λ line. IsPlain line.bytes) (λ line. begins_list line ≡ false) (λ line is. is.1) (lines_from 0 above) (are.lines 0))

    by_mark : (more : List ℕ) → lists_start (above ++ list_mark ∷ more) ≡ length above
    by_mark more =
        let body = above ++ list_mark ∷ more in
        let later = find begins_list (lines_from (0 + length above) (list_mark ∷ more)) in
        ap (λ found. unwrap_or (option_map (λ (line : Piece). line.start) found) (length body))
        (ap (find begins_list) (lines_after 0 above (list_mark ∷ more) are.ends) ∙ find-append begins_list (lines_from 0 above) (lines_from (0 + length above) (list_mark ∷ more))
        ∙ ap (λ first. option_or first later) none_above)
        ∙ ap (λ found. unwrap_or found (length body)) (marked (0 + length above) more) ∙ omega arith

    by_rest : (rest : List ℕ) → ends_board rest ≡ true → lists_start (above ++ rest) ≡ length above
    by_rest [] e = ap lists_start (append-nil above) ∙ ap (λ found. unwrap_or (option_map (λ (line : Piece). line.start) found) (length above)) none_above
    by_rest (byte ∷ more) e = subst (λ b. lists_start (above ++ b ∷ more) ≡ length above) (sym (eqb-true byte list_mark e)) (by_mark more)

-- what is left of a body says where its first list begins
pub part_starts : (game : Game) (board : Board) (body rest : List ℕ) → IsWellFormed game board → body ≡ text_of board ++ rest → ends_board rest ≡ true → length body - length rest ≡ lists_start body
part_starts game board body rest well is ends =
    let long = ap length is ∙ length-append (text_of board) rest in
    let end : length body - length rest ≡ length (text_of board) = omega (arith, long) in
    end ∙ sym (ap lists_start is ∙ starts_after (text_of board) rest (lines_of_board game board well) ends)

-- what is before it is the board's text
pub part_text : (board : Board) (body rest : List ℕ) → body ≡ text_of board ++ rest → take (length body - length rest) body ≡ text_of board
part_text board body rest is =
    let long = ap length is ∙ length-append (text_of board) rest in
    let end : length body - length rest ≡ length (text_of board) = omega (arith, long) in
    ap (λ n. take n body) end ∙ ap (take (length (text_of board))) is ∙ take-append_seam (text_of board) rest

-- and spells the board
pub part_spells : (game : Game) (board : Board) (body rest : List ℕ) → IsWellFormed game board → body ≡ text_of board ++ rest → Spells game (take (length body - length rest) body) board
part_spells game board body rest well is = spelled game board (take (length body - length rest) body) well (part_text board body rest is)
