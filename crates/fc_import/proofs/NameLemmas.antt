-- Lemmas on the names that headers give.
use Rattle.std.proofs.Common.{◌++◌, ◌+◌, ◌∙◌, ◌∷◌, ◌≡◌, ◌≤◌, [], All, ap, arith, Bool, cond, drop, false, if◌then◌else◌}
use Rattle.std.proofs.{Common.{length, List, map, not, refl, subst, suc, sym, take, true, ℕ}, lemmas.Bool.{eqb-true}}
use Rattle.std.proofs.lemmas.List.{Elements.{All-head, All-tail}, Sums.{fold-append}}
use Rattle.std.specs.List.{before_first, fold, position_or_len}
use Rattle.fc_board.specs.{declared.rule.Variant.{Variant}, Games.{Game}}
use Rattle.fc_text.{proofs.LineLemmas.{lines_from-moved}, specs.Bytes.{is_gap}}
use Rattle.fc_text.specs.Lines.{in_line, lines_from, moved, Piece, trim_carriage_return, words_from}
use Rattle.fc_record.proofs.TextLineLemmas.{lines_after}
use Rattle.fc_record.specs.Grammar.{begins_with, heading_of, heading_of_words, is_line_feed}
use Rattle.fc_record.specs.RecordTexts.{ends_line, header_mark}
use Rattle.fc_import.specs.Import.{a_board, a_list, headed, Imported, left_out, none_yet, once_more, one_more, passed}
use Rattle.fc_import.specs.{Import.{Reading, refused_board, refused_list}, Notes.{name_by, State}}
use Rattle.fc_import.specs.declared.options.ImportOptions.{ImportOptions}

-- ---- the first line of a text

abbrev first_bytes : List Piece → List ℕ
first_bytes [] = []
first_bytes (line ∷ lines) = line.bytes

first_line_of : (byte : ℕ) (rest : List ℕ) → before_first is_line_feed (byte ∷ rest) ≡ cond (is_line_feed byte) [] (byte ∷ before_first is_line_feed rest)
first_line_of byte rest = by (is_line_feed byte)
  where
    by : (ends : Bool) → take (cond (not ends) (1 + position_or_len is_line_feed rest) 0) (byte ∷ rest) ≡ cond ends [] (byte ∷ before_first is_line_feed rest)
    by true = refl
    by false = ap (λ count. take count (byte ∷ rest)) (let e : 1 + position_or_len is_line_feed rest ≡ suc (position_or_len is_line_feed rest) = omega arith in e)

first_line_is : (place : ℕ) (text : List ℕ) → before_first is_line_feed text ≡ first_bytes (lines_from place text)
first_line_is place [] = refl
first_line_is place (byte ∷ rest) = first_line_of byte rest ∙ by (is_line_feed byte) (lines_from (place + 1) rest) (first_line_is (place + 1) rest)
  where
    by : (ends : Bool) (lines : List Piece) → before_first is_line_feed rest ≡ first_bytes lines
        → cond ends [] (byte ∷ before_first is_line_feed rest) ≡ first_bytes (cond ends (record { start = place; bytes = [] } ∷ lines) (in_line place byte lines))
    by true lines same = refl
    by false [] same = ap (λ rest. byte ∷ rest) same
    by false (line ∷ lines) same = ap (λ rest. byte ∷ rest) same

line_of_line : (text : List ℕ) → before_first is_line_feed (before_first is_line_feed text) ≡ before_first is_line_feed text
line_of_line [] = refl
line_of_line (byte ∷ rest) =
    ap (before_first is_line_feed) (first_line_of byte rest) ∙ by (is_line_feed byte) refl (line_of_line rest) ∙ sym (first_line_of byte rest)
  where
    by : (ends : Bool) → is_line_feed byte ≡ ends → before_first is_line_feed (before_first is_line_feed rest) ≡ before_first is_line_feed rest
        → before_first is_line_feed (cond ends [] (byte ∷ before_first is_line_feed rest)) ≡ cond ends [] (byte ∷ before_first is_line_feed rest)
    by true is again = refl
    by false is again =
        first_line_of byte (before_first is_line_feed rest)
        ∙ ap (λ ends. cond ends [] (byte ∷ before_first is_line_feed (before_first is_line_feed rest))) is ∙ ap (λ rest. byte ∷ rest) again

module _ (variant : Variant) where
  -- ---- the name after a line

  abbrev pub name_after : List ℕ → Piece → List ℕ
  name_after name line = if begins_with header_mark line.bytes then name_by (heading_of variant line.bytes) else name

  moved_names : (places : ℕ) (name : List ℕ) (lines : List Piece) → fold name_after name (map (moved places) lines) ≡ fold name_after name lines
  moved_names places name [] = refl
  moved_names places name (line ∷ lines) = moved_names places (name_after name line) lines

  names_after : (text more : List ℕ) → ends_line text ≡ true
      → fold name_after [] (lines_from 0 (text ++ more)) ≡ fold name_after (fold name_after [] (lines_from 0 text)) (lines_from 0 more)
  names_after text more ends =
      let before = fold name_after [] (lines_from 0 text) in
      ap (fold name_after []) (lines_after 0 text more ends)
      ∙ fold-append name_after [] (lines_from 0 text) (lines_from (0 + length text) more)
      ∙ ap (λ place. fold name_after before (lines_from place more)) (let e : 0 + length text ≡ length text + 0 = omega arith in e)
      ∙ ap (fold name_after before) (lines_from-moved (length text) 0 more) ∙ moved_names (length text) before (lines_from 0 more)

  none_named : (name : List ℕ) (lines : List Piece) → All (λ line. begins_with header_mark line.bytes ≡ false) lines → fold name_after name lines ≡ name
  none_named name [] none = refl
  none_named name (line ∷ lines) none =
      ap (λ b. fold name_after (cond b (name_by (heading_of variant line.bytes)) name) lines) (All-head (λ line. begins_with header_mark line.bytes ≡ false) line lines none)
      ∙ none_named name lines (All-tail (λ line. begins_with header_mark line.bytes ≡ false) line lines none)

  -- what the first line of a text says, that a mark begins
  abbrev name_of_line : List ℕ → List ℕ
  name_of_line line = name_by (heading_of_words (length (trim_carriage_return line)) (words_from is_gap 1 (drop 1 (trim_carriage_return line))))

  header_named : (name rest : List ℕ) (lines : List Piece) → first_bytes lines ≡ before_first is_line_feed rest → length (in_line 0 header_mark lines) ≤ 1
      → fold name_after name (in_line 0 header_mark lines) ≡ name_by (heading_of variant (header_mark ∷ rest))
  header_named name rest [] same one =
      ap name_of_line (first_line_of header_mark [] ∙ ap (λ rest. header_mark ∷ rest) same ∙ sym (first_line_of header_mark rest))
  header_named name rest (line ∷ []) same one =
      ap name_of_line (first_line_of header_mark line.bytes ∙ ap (λ rest. header_mark ∷ rest) (ap (before_first is_line_feed) same ∙ line_of_line rest) ∙ sym (first_line_of header_mark rest))
  header_named name rest (line ∷ next ∷ lines) same one = absurd (omega (arith, one))

  named_by_header : (name line : List ℕ) → begins_with header_mark line ≡ true → length (lines_from 0 line) ≤ 1 → fold name_after name (lines_from 0 line) ≡ name_by (heading_of variant line)
  named_by_header name [] begins one = absurd (cc)
  named_by_header name (byte ∷ rest) begins one =
      subst (λ byte. length (lines_from 0 (byte ∷ rest)) ≤ 1 → fold name_after name (lines_from 0 (byte ∷ rest)) ≡ name_by (heading_of variant (byte ∷ rest)))
      (sym (eqb-true byte header_mark begins)) (header_named name rest (lines_from (0 + 1) rest) (sym (first_line_is (0 + 1) rest))) one

  same_name : {game : Game} {state : State} {piece : List ℕ} {next : State} {written said : List ℕ} → Reading variant game state piece next written said → next.place.name ≡ state.place.name
  same_name (passed apart quiet) = refl
  same_name (left_out said apart names prose note) = refl
  same_name (a_board name board said game_is named well can of says) = refl
  same_name (once_more board said last begun of says) = refl
  same_name (a_list board list said apart last legal few names says) = refl
  same_name (refused_board said note) = refl
  same_name (refused_list last said apart stays note) = refl

  pub names : {options : ImportOptions} {game : Game} {text : List ℕ} {state : State} {written said : List ℕ} → Imported variant options game text state written said
      → state.place.name ≡ fold name_after [] (lines_from 0 text)
  names none_yet = refl
  names (headed text state written said so_far ends line heading) =
      sym (names_after text line ends ∙ named_by_header (fold name_after [] (lines_from 0 text)) line heading.mark heading.one)
  names (one_more text state written said so_far ends piece none next more says reading) =
      same_name reading ∙ names so_far ∙ sym (none_named (fold name_after [] (lines_from 0 text)) (lines_from 0 piece) none) ∙ sym (names_after text piece ends)
