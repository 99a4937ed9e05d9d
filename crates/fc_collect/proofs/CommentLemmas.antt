-- A comment after an accepted record changes nothing of what it says.
use Rattle.std.proofs.Common.{◌++◌, ◌+◌, ◌-◌, ◌==◌, ◌∙◌, ◌∷◌, ◌≡◌, ◌≤◌, [], All, ap, append_assoc, arith, Bool, cond}
use Rattle.std.proofs.Common.{drop, false, length, length-append, List, None, not, Ok, Option, refl, Result, Some, take}
use Rattle.std.proofs.{Common.{true, ℕ}, lemmas.List.{drop-append-le, Elements.{All-cons, All-head, All-tail}}}
use Rattle.std.proofs.lemmas.{List.{Folds.{find-append}, take-append-le}, Option.{same_Some}}
use Rattle.std.{proofs.Math.Seq.{drop-length, take-length}, specs.List.{after_first, find, position_or_len}}
use Rattle.std.specs.Option.{option_map, option_or, unwrap_or}
use Rattle.fc_board.specs.{Boards.{Board}, declared.rule.Variant.{Variant}, Games.{Game, game_of}, Moves.{MoveList}}
use Rattle.fc_text.proofs.BlankLineLemmas.{begins_comment, spelled_with_comment}
use Rattle.fc_text.proofs.{LineLemmas.{first_line, InLine, lines_are_pieces}, NextLineLemmas.{piece_within}}
use Rattle.fc_text.specs.{Bytes.{is_gap, line_feed, number_sign}, Lines.{IsPieceOf, lines_from, Piece, words_from}}
use Rattle.fc_text.specs.{Rows.{is_empty, line_of}, Spelling.{Spells}}
use Rattle.fc_record.proofs.{ContentsLemmas.{begins_list}, TextLineLemmas.{ends-drop, last_byte, lines_after}}
use Rattle.fc_record.specs.Grammar.{Accepted, after_header, AreLists, begins_with, board_part, Contents, header_line}
use Rattle.fc_record.specs.Grammar.{Heading, heading_of, heading_of_words, is_line_feed, list_lines, lists_start}
use Rattle.fc_record.specs.Grammar.{next_list, no_lines, reading_of, skipped_line, without_header}
use Rattle.fc_record.specs.RecordTexts.{ends_line, header_mark}
use Rattle.fc_record.specs.declared.record.RecordFault.{RecordFault}
use Rattle.fc_collect.proofs.AcceptanceLemmas.{accepted-from_Says, Says-from_accepted}
use Rattle.fc_collect.proofs.HeaderSaysLemmas.{HeaderSays-from_ok, ok-from_HeaderSays}

-- ---- a comment after a record that is accepted changes nothing of what it says

-- one more line that is empty
AreLists-more : {game : Game} {lines : List Piece} {lists : List MoveList} (line : Piece) → begins_list line ≡ false → is_empty (line_of line) ≡ true
    → AreLists game lines lists → AreLists game (lines ++ line ∷ []) lists
AreLists-more line no_list empty no_lines = skipped_line no_lines line no_list empty
AreLists-more line no_list empty (next_list rest first list begins_list listed) =
    next_list (AreLists-more line no_list empty rest) first list begins_list listed
AreLists-more line no_list empty (skipped_line rest first begins_list is_blank) =
    skipped_line (AreLists-more line no_list empty rest) first begins_list is_blank

-- what is found is among the items
found-All : {X : Type 0} (P : X → Type 0) (test : X → Bool) (xs : List X) (x : X) → find test xs ≡ Some x → All P xs → P x
found-All P test [] x e are = absurd (cc)
found-All P test (first ∷ xs) x e are = by_test (test first) e (λ e. found-All P test xs x e (All-tail P first xs are))
  where
    by_test : (b : Bool) → cond b (Some first) (find test xs) ≡ Some x → (find test xs ≡ Some x → P x) → P x
    by_test true e later = rw (same_Some first x e) at (All-head P first xs are)
    by_test false e later = later e

-- a list begins within its text
pub starts_within : (text : List ℕ) (first : Piece) → find begins_list (lines_from 0 text) ≡ Some first → first.start ≤ length text
starts_within text first e =
    let is_piece = found-All (IsPieceOf 0 text) begins_list (lines_from 0 text) first e (lines_are_pieces 0 text) in
    let within = piece_within text first is_piece in
    omega (arith, within)

-- ---- the body of a record

module _ (body comment : List ℕ) (ends : ends_line body ≡ true) (are : All InLine comment) where
  -- the comment's line
  abbrev line : List ℕ
  line = number_sign ∷ comment

  abbrev more : List ℕ
  more = line ++ line_feed ∷ []

  abbrev piece_at : ℕ → Piece
  piece_at place = record { start = place; bytes = line }

  lines_more : (place count : ℕ)
      → lines_from place (drop count body ++ more) ≡ lines_from place (drop count body) ++ piece_at (place + length (drop count body)) ∷ []
  lines_more place count =
      rw (
        lines_after place (drop count body) more (ends-drop count body ends),
        first_line (place + length (drop count body)) line [] (All-cons InLine number_sign comment (λ e. absurd (omega (arith, e))) are),
      )

  abbrev found : Option Piece
  found = find begins_list (lines_from 0 body)

  abbrev start_by : Option Piece → List ℕ → ℕ
  start_by found text = unwrap_or (option_map (λ line. line.start) found) (length text)

  starts_more : lists_start (body ++ more) ≡ start_by found (body ++ more)
  starts_more = rw (lines_more 0 0, find-append begins_list (lines_from 0 body) (piece_at (0 + length body) ∷ []), or_none found)
    where
      or_none : (found : Option Piece) → option_or found None ≡ found
      or_none (Some first) = refl
      or_none None = refl

  module _ (game : Game) (board : Board) (lists : List MoveList) (place : ℕ) where
    abbrev ReadsAs : List ℕ → Type 0
    ReadsAs text = Spells game (board_part text) board × AreLists game (list_lines place text) lists

    -- by where the lists begin
    abbrev ReadsFrom : ℕ → List ℕ → Type 0
    ReadsFrom start text = Spells game (take start text) board × AreLists game (lines_from (place + start) (drop start text)) lists

    commented : ReadsAs body → ReadsAs (body ++ more)
    commented reads = rw starts_more (by_found found refl)
      where
        by_found : (first : Option Piece) → found ≡ first → ReadsFrom (start_by first (body ++ more)) (body ++ more)
        by_found (Some first) e =
            let start = first.start in
            let within : start ≤ length body = starts_within body first e in
            let before : ReadsFrom start body = rw e at reads in
            let later = lines_more (place + start) start in
            let last = piece_at (place + start + length (drop start body)) in (
              rw (take-append-le start body more within) before.0,
              rw (drop-append-le start body more within, later) (AreLists-more last refl (ap is_empty (begins_comment last.start comment)) before.1),
            )
        by_found None e =
            let before : ReadsFrom (length body) body = rw e at reads in
            let whole = rw (take-length body) at before.0 in
            let no_lists = rw (drop-length body) at before.1 in (
              rw (take-length (body ++ more)) (spelled_with_comment game body (body ++ more) (piece_at (0 + length body)) board
                  (lines_more 0 0) (begins_comment (0 + length body) comment) whole),
              rw (drop-length (body ++ more)) no_lists,
            )

-- ---- the header

-- where the first line feed of a text is that one ends
first_feed : (text zs ws : List ℕ) → position_or_len is_line_feed (text ++ line_feed ∷ zs) ≡ position_or_len is_line_feed (text ++ line_feed ∷ ws)
first_feed [] zs ws = refl
first_feed (byte ∷ text) zs ws = rw (first_feed text zs ws)

feed_within : (text zs : List ℕ) → position_or_len is_line_feed (text ++ line_feed ∷ zs) ≤ length text
feed_within [] zs = omega arith
feed_within (byte ∷ text) zs = by_test (not (is_line_feed byte)) (feed_within text zs)
  where
    by_test : (b : Bool) → position_or_len is_line_feed (text ++ line_feed ∷ zs) ≤ length text
        → cond b (1 + position_or_len is_line_feed (text ++ line_feed ∷ zs)) 0 ≤ length (byte ∷ text)
    by_test true h = omega arith
    by_test false h = omega arith

module _ (bytes more : List ℕ) (ends : ends_line bytes ≡ true) (unmarked : begins_with header_mark more ≡ false) where
  -- the first line is the same, and the rest is longer
  abbrev pub FrontKept : Type 0
  FrontKept =
      (begins_with header_mark (bytes ++ more) ≡ begins_with header_mark bytes)
      × (begins_with header_mark bytes ≡ true → header_line (bytes ++ more) ≡ header_line bytes)
      × (after_header (bytes ++ more) ≡ after_header bytes ++ more) × (ends_line (after_header bytes) ≡ true)

  pub front_kept : FrontKept
  front_kept = by_bytes bytes ends
    where
      -- where there is a header it ends within the text
      by_header : (text : List ℕ) (feed : ℕ) → ends_line text ≡ true → position_or_len is_line_feed text ≡ feed → feed + 1 ≤ length text
          → position_or_len is_line_feed (text ++ more) ≡ feed
          → (header_line (text ++ more) ≡ header_line text)
          × (after_first is_line_feed (text ++ more) ≡ after_first is_line_feed text ++ more)
          × (ends_line (after_first is_line_feed text) ≡ true)
      by_header text feed ends first within longer = (
        rw (longer, take-append-le feed text more (omega (arith, within)), first),
        rw (longer, drop-append-le (feed + 1) text more within, first),
        ends-drop (position_or_len is_line_feed text + 1) text ends,
      )

      by_bytes : (bytes : List ℕ) → ends_line bytes ≡ true
          → (begins_with header_mark (bytes ++ more) ≡ begins_with header_mark bytes)
          × (begins_with header_mark bytes ≡ true → header_line (bytes ++ more) ≡ header_line bytes)
          × (after_header (bytes ++ more) ≡ after_header bytes ++ more) × (ends_line (after_header bytes) ≡ true)
      by_bytes [] ends = (unmarked, (λ e. absurd (cc)), ap (λ b. cond b (after_first is_line_feed more) more) unmarked, refl)
      by_bytes (byte ∷ rest) ends =
          let (text, is) = last_byte byte rest ends in
          let cut : (zs : List ℕ) → (byte ∷ rest) ++ zs ≡ text ++ line_feed ∷ zs =
          λ zs. ap (λ front. front ++ zs) is ∙ append_assoc text (line_feed ∷ []) zs in
          let feed = position_or_len is_line_feed (text ++ line_feed ∷ []) in
          let long : length (byte ∷ rest) ≡ length text + 1 = ap length is ∙ length-append text (line_feed ∷ []) in
          let within = feed_within text [] in
          let kept =
          by_header (byte ∷ rest) feed ends (ap (position_or_len is_line_feed) is) (omega (arith, long, within))
          (ap (position_or_len is_line_feed) (cut more) ∙ first_feed text more []) in (
            refl,
            (λ e. kept.0),
            by_test (byte == header_mark) kept.1,
            by_ends (byte == header_mark) kept.2,
          )
        where
          by_test : (b : Bool) → after_first is_line_feed ((byte ∷ rest) ++ more) ≡ after_first is_line_feed (byte ∷ rest) ++ more
              → cond b (after_first is_line_feed ((byte ∷ rest) ++ more)) ((byte ∷ rest) ++ more)
              ≡ cond b (after_first is_line_feed (byte ∷ rest)) (byte ∷ rest) ++ more
          by_test true e = e
          by_test false e = refl

          by_ends : (b : Bool) → ends_line (after_first is_line_feed (byte ∷ rest)) ≡ true
              → ends_line (cond b (after_first is_line_feed (byte ∷ rest)) (byte ∷ rest)) ≡ true
          by_ends true e = e
          by_ends false e = ends

  -- so the header says the same
  pub heading_kept : (variant : Variant) → heading_of variant (bytes ++ more) ≡ heading_of variant bytes
  heading_kept variant = rw (front_kept.0, by_test (begins_with header_mark bytes) front_kept.1)
    where
      said : Bool → List ℕ → Result Heading RecordFault
      said b text =
          cond b (heading_of_words (length (header_line text)) (words_from is_gap 1 (drop 1 (header_line text)))) (Ok (without_header variant))

      by_test : (b : Bool) → (b ≡ true → header_line (bytes ++ more) ≡ header_line bytes) → said b (bytes ++ more) ≡ said b bytes
      by_test true same = rw (same refl)
      by_test false same = refl

pub accepted-comment_after : (variant : Variant) (bytes comment : List ℕ) (heading : Heading) (contents : Contents)
    → ends_line bytes ≡ true → All InLine comment
    → reading_of variant bytes ≡ Accepted heading contents
    → reading_of variant (bytes ++ (number_sign ∷ comment ++ line_feed ∷ [])) ≡ Accepted heading contents
accepted-comment_after variant bytes comment heading contents ends are accepted =
    let more = number_sign ∷ comment ++ line_feed ∷ [] in
    let says = Says-from_accepted variant bytes heading contents accepted in
    let kept = front_kept bytes more ends refl in
    let body = after_header bytes in
    let place = length bytes - length body in
    let same_place : place ≡ length (bytes ++ more) - length (after_header (bytes ++ more)) =
    omega (arith, length-append bytes more, length-append body more, ap length kept.2) in
    let reads = commented body comment kept.3 are (game_of heading.variant) contents.board contents.lists place (says.board, says.lists) in
    accepted-from_Says variant (bytes ++ more) heading contents (record {
      header = HeaderSays-from_ok variant (bytes ++ more) heading
          (heading_kept bytes more ends refl variant ∙ ok-from_HeaderSays says.header);
      board = rw kept.2 reads.0;
      lists = rw (← same_place, kept.2) reads.1;
    })
