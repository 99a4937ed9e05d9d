-- What a text begins with that is as fcanon prints it, and how it is taken.
use Rattle.std.proofs.Common.{◌++◌, ◌+◌, ◌-◌, ◌∙◌, ◌∷◌, ◌≡◌, ◌≢◌, ◌≤◌, [], All, ap, append-nil, append_assoc, ap₂}
use Rattle.std.proofs.Common.{arith, codes, drop, false, inl, inr, length, length-append, List, refl, Some, subst, sym}
use Rattle.std.proofs.{Common.{take, true, ℕ}, lemmas.List.{length-take-le, take-append-drop, take_rest}}
use Rattle.std.proofs.Math.Seq.{drop-append_seam, take-append_seam}
use Rattle.fc_board.specs.{Boards.{Board, IsWellFormed}, Games.{Game, variant_word}, Moves.{move_count, MoveList}}
use Rattle.fc_board.specs.Play.{Legal}
use Rattle.fc_board.specs.declared.rule.Variant.{TheVariants.{BakersGame, EightOff, FreeCell}, Variant}
use Rattle.fc_text.{proofs.LineLemmas.{InLine}, specs.{Bytes.{blank, line_feed}, Lines.{lines_from}}}
use Rattle.fc_text.specs.{Notation.{most_moves}, Printed.{text_of}}
use Rattle.fc_record.proofs.{HeadingLemmas.{header_read, in_line}, PrintedListLemmas.{list_bytes, list_in_line}}
use Rattle.fc_record.proofs.{PrintedPartLemmas.{lines_of_board}, TextLineLemmas.{ends-after, ends-line_feed}}
use Rattle.fc_record.specs.{Grammar.{begins_with, heading_of}, Printing.{header_text, list_line}}
use Rattle.fc_record.specs.RecordTexts.{ends_line, header_mark}
use Rattle.fc_import.proofs.{PieceLemmas.{no_header_alone}, PrintedAgainLemmas.{given, IsOne}}
use Rattle.fc_import.proofs.PrintedLemmas.{board_kept, goes_on, goes_on_twice, legal_fits, list_kept, no_header_board}
use Rattle.fc_import.specs.Import.{HasNoHeader, IsHeading}
use Rattle.fc_import.specs.{inside.{AreWhole, GoesOn, state_of, TakesAsItIs, TakesName}, Notes.{after, name_by}}
use Rattle.fc_import.specs.declared.{made.Made.{Made}, tally.Fate.TheVariants.{ABoard, AList}}

-- ---- lines

header_marked : (variant : Variant) (name : List ℕ) → begins_with header_mark (header_text variant name) ≡ true
header_marked FreeCell name = refl
header_marked BakersGame name = refl
header_marked EightOff name = refl

header_ends : (variant : Variant) (name : List ℕ) → ends_line (header_text variant name) ≡ true
header_ends variant name = ends-line_feed (codes "@ " ++ (variant_word variant ++ blank ∷ name))

-- where the first line of a text has one end, that of a header has it
pub header_len : (variant : Variant) (name rest text : List ℕ) (len : ℕ) → IsOne name
    → text ≡ header_text variant name ++ rest
    → ((line rest : List ℕ) → All InLine line → text ≡ line ++ line_feed ∷ rest → len ≡ length line + 1)
    → len ≡ length (header_text variant name)
header_len variant name rest text len one is first =
    let line = codes "@ " ++ (variant_word variant ++ blank ∷ name) in
    first line rest (in_line variant variant name rest (given name one)) (is
    ∙ append_assoc line (line_feed ∷ []) rest) ∙ sym (length-append line (line_feed ∷ []))

-- and that of a list
pub list_len : (game : Game) (few : game.cells ≤ 8) (board : Board) (list : MoveList) (rest text : List ℕ)
    (len : ℕ) → Legal game board list
    → text ≡ list_line list ++ rest
    → ((line rest : List ℕ) → All InLine line → text ≡ line ++ line_feed ∷ rest → len ≡ length line + 1)
    → len ≡ length (list_line list)
list_len game few board list rest text len legal is first =
    first (list_bytes list) rest (list_in_line game few list (legal_fits game board list legal)) (is
    ∙ append_assoc (list_bytes list) (line_feed ∷ []) rest)
    ∙ sym (length-append (list_bytes list) (line_feed ∷ []))

-- the name that the line of a header gives
pub header_name_read : (variant : Variant) (name line : List ℕ) → IsOne name → line ≡ header_text variant name
    → name_by (heading_of variant line) ≡ name
header_name_read variant name line one is =
    ap (λ line. name_by (heading_of variant line)) (is ∙ sym (append-nil (header_text variant name)))
    ∙ ap name_by (header_read variant variant name [] (given name one))

-- what is in front of a text, and what comes after it
pub in_front : (front rest text : List ℕ) (len : ℕ) → text ≡ front ++ rest → len ≡ length front
    → (take len text ≡ front) × (drop len text ≡ rest)
in_front front rest text len is long = (
  ap₂ take long is ∙ take-append_seam front rest,
  ap₂ drop long is ∙ drop-append_seam front rest,
)

-- ---- a record

-- the line and what comes after it
pub record_parts : (variant : Variant) (name : List ℕ) (board : Board) (rest text : List ℕ) (start : ℕ) → IsOne name
    → text ≡ header_text variant name ++ (text_of board ++ rest)
    → ((line rest : List ℕ) → All InLine line → text ≡ line ++ line_feed ∷ rest → start ≡ length line + 1)
    → (start ≡ length (header_text variant name)) × (take start text ≡ header_text variant name) ×
    (take (length text - start) (drop start text) ≡ text_of board ++ rest)
record_parts variant name board rest text start one is first =
    let long = header_len variant name (text_of board ++ rest) text start one is first in
    let (line, after) = in_front (header_text variant name) (text_of board ++ rest) text start is long in
    (long, line, take_rest text start ∙ after)

module _ (variant : Variant) (game : Game) (text left name : List ℕ) (start : ℕ) (board : Board)
    (whole : AreWhole text start)
    (line_is : take start text ≡ header_text variant name) (well : IsWellFormed game board)
    (rest : take (length text - start) (drop start text) ≡ text_of board ++ left) where
  abbrev line : List ℕ
  line = take start text

  abbrev end : ℕ
  end = length text - length left

  abbrev piece : List ℕ
  piece = take (end - start) (drop start text)

  after_line : drop start text ≡ text_of board ++ left
  after_line = sym (take_rest text start) ∙ rest

  parts : text ≡ (line ++ text_of board) ++ left
  parts = sym (take-append-drop start text) ∙ ap (λ rest. line ++ rest) after_line
      ∙ sym (append_assoc line (text_of board) left)

  long : length line ≡ start
  long = length-take-le start text whole.within

  pub end_is : end ≡ start + length (text_of board)
  end_is =
      let all = ap length parts ∙ length-append (line ++ text_of board) left in
      let two = length-append line (text_of board) in
      omega (arith, all, two, long)

  fronts : (take end text ≡ line ++ text_of board) × (drop end text ≡ left)
  fronts = in_front (line ++ text_of board) left text end parts (end_is
      ∙ ap (λ n. n + length (text_of board)) (sym long) ∙ sym (length-append line (text_of board)))

  pub piece_is : piece ≡ text_of board
  piece_is = (in_front (text_of board) left (drop start text) (end - start) after_line (omega (arith, end_is))).0

  -- the header and the board are taken as they are
  pub record_taken : {R : Type 0} (old between new : Made R) → length (lines_from 0 line) ≤ 1
      → name ≡ name_by (heading_of variant line) → name ≢ []
      → TakesName variant line old between → state_of new ≡ after (state_of between) piece (Some board) ABoard
      → new.written.items ≡ between.written.items ++ take end text → new.notes.items ≡ between.notes.items
      → TakesAsItIs variant game text end old new
  record_taken {R = R} old between new one name_is some names state written notes =
      let both : take end text ≡ line ++ piece = fronts.0 ∙ ap (λ piece. line ++ piece) (sym piece_is) in
      let ends : ends_line line ≡ true = ap ends_line line_is ∙ header_ends variant name in
      let board_ends = (lines_of_board game board well).ends in
      let kept = board_kept {R = R} variant game line piece name board in
      let from = kept old between new in
      let takes = from names name_is some line_is well piece_is state
      (written ∙ ap (λ text. between.written.items ++ text) both) notes in
      let heading : IsHeading line = record {
        mark = ap (begins_with header_mark) line_is
            ∙ header_marked variant name;
        one = one;
      } in
      let plain = subst HasNoHeader (sym piece_is) (no_header_board game board well) in
      record {
        takes = record {
          lines = record {
            some = omega (arith, end_is, whole.some);
            within = omega arith;
            whole = λ less. ap ends_line fronts.0 ∙ ends-after line (text_of board) ends board_ends;
          };
          takes = subst (λ bytes. GoesOn {R = R} variant game bytes old new) (sym both)
              (goes_on_twice {R = R} variant game line piece old between new ends
              (goes_on {R = R} variant game line old between (inl (heading, names)))
              (goes_on {R = R} variant game piece between new (inr (plain, takes))));
        };
        written = written ∙ ap (λ front. front ++ take end text) names.written;
        notes = notes ∙ names.notes;
      }

-- ---- a list

module _ {R : Type 0} (variant : Variant) (game : Game) (text : List ℕ) (len : ℕ) (whole : AreWhole text len) where
  pub list_taken : (board : Board) (list : MoveList) (old new : Made R) → length (lines_from 0 (take len text)) ≤ 1
      → begins_with header_mark (take len text) ≡ false
      → old.last ≡ Some board → Legal game board list → move_count list ≤ most_moves → take len text ≡ list_line list
      → state_of new ≡ after (state_of old) (take len text) old.last AList
      → new.written.items ≡ old.written.items ++ take len text
      → new.notes.items ≡ old.notes.items → TakesAsItIs variant game text len old new
  list_taken board list old new one plain last legal few is state written notes =
      let kept = list_kept {R = R} variant game (take len text) board list old new in
      let takes = kept last legal few is state written notes in
      record {
        takes = record {
          lines = whole;
          takes = goes_on {R = R} variant game (take len text) old new
              (inr (no_header_alone (take len text) one plain, takes));
        };
        written = written;
        notes = notes;
      }
