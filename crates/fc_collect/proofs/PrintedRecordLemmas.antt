-- What is printed for a record is read as that record again.
use Rattle.std.proofs.Common.{◌++◌, ◌+◌, ◌-◌, ◌∙◌, ◌∷◌, ◌≡◌, ◌≤◌, [], All, ap, append_assoc, Bool}
use Rattle.std.proofs.Common.{codes, cond, Contains, drop, false, if◌then◌else◌, length, List, map, refl}
use Rattle.std.proofs.Common.{Some, subst, sym, true, ℕ}
use Rattle.std.proofs.lemmas.List.Elements.{All-contains_itself, All-head, All-tail, All-weaker}
use Rattle.std.{proofs.Math.Seq.{drop-append_seam, take-append_seam}, specs.{Fmt.{decimal}, List.{flat_map}}}
use Rattle.fc_board.specs.{Boards.{Board, IsWellFormed}, Games.{Game, game_of, variant_word}}
use Rattle.fc_board.specs.Moves.{MoveList, OneCard, Runs}
use Rattle.fc_board.specs.declared.rule.Variant.{Variant}
use Rattle.fc_text.proofs.LineLemmas.{first_line, InLine}
use Rattle.fc_text.proofs.PrintedTextLemmas.{bytes_in_lines, cells_bytes, heights_bytes, text_lines, text_spells}
use Rattle.fc_text.proofs.PrintLemmas.{print-Listed, print_runs-Listed}
use Rattle.fc_text.{proofs.WordLemmas.{after_separator, words_from-moved}, specs.Bytes.{blank, line_feed}}
use Rattle.fc_text.specs.Lines.{lines_from, moved, Piece, words_from}
use Rattle.fc_text.specs.Notation.{IsRunToken, IsToken, Listed, print, separates_tokens}
use Rattle.fc_text.specs.{Printed.{column_line, text_of}, Rows.{is_empty, line_of}, Spelling.{Spells}}
use Rattle.fc_record.proofs.HeadingLemmas.{given_name, header_gone, header_read, heading_said, in_line, IsGiven}
use Rattle.fc_record.proofs.HeadingLemmas.{IsHeading, named, numbered, unnamed, without}
use Rattle.fc_record.proofs.PrintedListLemmas.{list_bytes, list_in_line}
use Rattle.fc_record.proofs.{PrintedPartLemmas.{IsPlain, lines_of_board, starts_after}, TextLineLemmas.{AreLines}}
use Rattle.fc_record.proofs.TextLineLemmas.{AreLines-append, AreLines-flat_map, AreLines-line, ends-after}
use Rattle.fc_record.{proofs.TextLineLemmas.{ends-line_feed}, specs.Grammar.{Accepted, after_header}}
use Rattle.fc_record.specs.Grammar.{AreLists, begins_with, board_part, Contents, Heading, IsList, list_lines, list_mark}
use Rattle.fc_record.specs.Grammar.{lists_start, next_list, no_header, no_lines, Reading, reading_of, with_header}
use Rattle.fc_record.specs.Grammar.{without_header}
use Rattle.fc_record.specs.Printing.{after_blank, header_text, heading_line, list_line, name_of, printed, show_lines}
use Rattle.fc_record.specs.{inside.{ends_board}, RecordTexts.{header_mark, RecordText}}
use Rattle.fc_collect.proofs.AcceptanceLemmas.{accepted-from_Says, few_cells, Says-from_accepted}
use Rattle.fc_collect.proofs.HeaderLemmas.{marks, marks-lines, starts_of}
use Rattle.fc_collect.proofs.HeaderSaysLemmas.{HeaderSays-from_ok, ok-from_HeaderSays}
use Rattle.fc_collect.proofs.MemberLemmas.{CanPrint, lists_can}
use Rattle.fc_collect.proofs.ReadAgainLemmas.{all_again, AreReadAs, IsReadAs, ReadsAgain, same_printed, Stays}
use Rattle.fc_collect.specs.{Groups.{Member, members_among, name_of_member}, inside.{member_of}}
use Rattle.fc_collect.specs.{Limits.{most_countable}, Records.{has_content, output_of_records, records_of}}

-- ---- the lines of lists

bytes_kept : (places : ℕ) (words : List Piece) → map (λ word. word.bytes) (map (moved places) words) ≡ map (λ word. word.bytes) words
bytes_kept places [] = refl
bytes_kept places (word ∷ words) = rw (bytes_kept places words)

-- words with a blank before them are the same words
after_one_blank : {Item : Type 0} (Names : List ℕ → Item → Type 0) (text : List ℕ) (items : List Item) → Listed Names text items
    → Listed Names (after_blank text) items
after_one_blank Names [] items listed = listed
after_one_blank Names (byte ∷ text) items listed = record {
  tokens = rw (
    after_separator separates_tokens 0 blank (byte ∷ text) refl,
    words_from-moved separates_tokens 1 0 (byte ∷ text),
    bytes_kept 1 (words_from separates_tokens 0 (byte ∷ text)),
  ) listed.tokens;
  at_most = listed.at_most;
}

one_mark : (text : List ℕ) → begins_with list_mark (after_blank text) ≡ false
one_mark [] = refl
one_mark (byte ∷ text) = refl

pub marked : (list : MoveList) → begins_with list_mark (list_bytes list) ≡ true
marked (OneCard moves) = refl
marked (Runs moves) = refl

module _ (game : Game) (few : game.cells ≤ 8) where
  pub is_list : (list : MoveList) → CanPrint game list → IsList game (list_bytes list) list
  is_list (OneCard moves) (fits, short) =
      (one_mark (print (OneCard moves)), after_one_blank (IsToken game) (print (OneCard moves)) moves (print-Listed game moves few fits short))
  is_list (Runs moves) (fits, short) =
      (refl, after_one_blank (IsRunToken game) (print (Runs moves)) moves (print_runs-Listed game moves few fits short))

  first_list : (place : ℕ) (list : MoveList) (rest : List ℕ) → CanPrint game list
      → lines_from place (list_line list ++ rest)
      ≡ record { start = place; bytes = list_bytes list } ∷ lines_from (place + length (list_bytes list) + 1) rest
  first_list place list rest can =
      rw (append_assoc (list_bytes list) (line_feed ∷ []) rest, first_line place (list_bytes list) rest (list_in_line game few list can.0))

  lists_read : (place : ℕ) (lists : List MoveList) → All (CanPrint game) lists → AreLists game (lines_from place (flat_map list_line lists)) lists
  lists_read place [] can = no_lines
  lists_read place (list ∷ lists) can =
      let first = All-head (CanPrint game) list lists can in
      let later = lists_read (place + length (list_bytes list) + 1) lists (All-tail (CanPrint game) list lists can) in
      rw (first_list place list (flat_map list_line lists) first)
      (next_list later (record { start = place; bytes = list_bytes list }) list (marked list) (is_list list first))

  -- ---- a board's text and lists after it

  module _ (above : List ℕ) (lists : List MoveList) (are : AreLines IsPlain above) (can : All (CanPrint game) lists) where
    abbrev body : List ℕ
    body = above ++ flat_map list_line lists

    starts : lists_start body ≡ length above
    starts = starts_after above (flat_map list_line lists) are (ends lists)
      where
        ends : (lists : List MoveList) → ends_board (flat_map list_line lists) ≡ true
        ends [] = refl
        ends (OneCard moves ∷ lists) = refl
        ends (Runs moves ∷ lists) = refl

    pub body_read : (place : ℕ) (board : Board) → Spells game above board
        → Spells game (board_part body) board × AreLists game (list_lines place body) lists
    body_read place board spells = (
      rw (starts, take-append_seam above (flat_map list_line lists)) spells,
      rw (starts, drop-append_seam above (flat_map list_line lists)) (lists_read (place + length above) lists can),
    )

-- ---- the record

module _ (other : Variant) (above : List ℕ) (contents : Contents) (are : AreLines IsPlain above) where
  abbrev lists_text : List ℕ
  lists_text = flat_map list_line contents.lists

  -- with a header
  pub read_headed : (variant : Variant) (name : List ℕ) → IsGiven name → Spells (game_of variant) above contents.board
      → All (CanPrint (game_of variant)) contents.lists
      → reading_of other (header_text variant name ++ (above ++ lists_text)) ≡ Accepted (with_header variant (Some name)) contents
  read_headed variant name given spells can =
      let text = header_text variant name ++ (above ++ lists_text) in
      let gone = header_gone variant other name (above ++ lists_text) given in
      let place = length text - length (after_header text) in
      let reads = body_read (game_of variant) (few_cells variant) above contents.lists are can place contents.board spells in
      accepted-from_Says other text (with_header variant (Some name)) contents (record {
        header = HeaderSays-from_ok other text (with_header variant (Some name))
            (header_read variant other name (above ++ lists_text) given);
        board = subst (λ body. Spells (game_of variant) (board_part body) contents.board) (sym gone) reads.0;
        lists = subst (λ body. AreLists (game_of variant) (list_lines place body) contents.lists) (sym gone) reads.1;
      })

  -- without one
  pub read_unheaded : begins_with header_mark (above ++ lists_text) ≡ false → Spells (game_of other) above contents.board
      → All (CanPrint (game_of other)) contents.lists
      → reading_of other (above ++ lists_text) ≡ Accepted (without_header other) contents
  read_unheaded unmarked spells can =
      let text = above ++ lists_text in
      let whole : after_header text ≡ text = rw unmarked in
      let place = length text - length (after_header text) in
      let reads = body_read (game_of other) (few_cells other) above contents.lists are can place contents.board spells in
      accepted-from_Says other text (without_header other) contents (record {
        header = no_header unmarked;
        board = subst (λ body. Spells (game_of other) (board_part body) contents.board) (sym whole) reads.0;
        lists = subst (λ body. AreLists (game_of other) (list_lines place body) contents.lists) (sym whole) reads.1;
      })

-- ---- what show prints for one record

pub shown-with_header : (variant other : Variant) (number : ℕ) (bytes : List ℕ) (heading : Heading) (contents : Contents)
    → reading_of variant bytes ≡ Accepted heading contents → heading.has_header ≡ true → number ≤ most_countable
    → reading_of other (show_lines number heading contents) ≡ Accepted (with_header heading.variant (Some (name_of number heading.name))) contents
shown-with_header variant other number bytes heading contents accepted has_header small =
    let says = Says-from_accepted variant bytes heading contents accepted in
    let name = name_of number heading.name in
    let given = given_name variant (begins_with header_mark bytes) number heading small
    (heading_said variant bytes heading (ok-from_HeaderSays says.header)) in
    let well = says.board.well_formed in
    let text = text_of contents.board in
    ap (λ b. reading_of other (cond b (header_text heading.variant name) [] ++ text ++ flat_map list_line contents.lists)) has_header
    ∙ ap (reading_of other) (append_assoc (header_text heading.variant name) text (flat_map list_line contents.lists))
    ∙ read_headed other text contents (lines_of_board (game_of heading.variant) contents.board well) heading.variant name given
    (text_spells (game_of heading.variant) contents.board well) (lists_can says.lists)

pub shown-without_header : (variant : Variant) (number : ℕ) (bytes : List ℕ) (heading : Heading) (contents : Contents)
    → reading_of variant bytes ≡ Accepted heading contents → heading.has_header ≡ false
    → reading_of variant (show_lines number heading contents) ≡ Accepted heading contents
shown-without_header variant number bytes heading contents accepted none =
    let says = Says-from_accepted variant bytes heading contents accepted in
    by_heading (begins_with header_mark bytes) heading
    (heading_said variant bytes heading (ok-from_HeaderSays says.header)) none says.board.well_formed (lists_can says.lists)
  where
    by_heading : (has : Bool) (heading : Heading) → IsHeading variant has heading → heading.has_header ≡ false
        → IsWellFormed (game_of heading.variant) contents.board → All (CanPrint (game_of heading.variant)) contents.lists
        → reading_of variant (show_lines number heading contents) ≡ Accepted heading contents
    by_heading has heading (unnamed own) none well can = absurd (cc)
    by_heading has heading (named own name given) none well can = absurd (cc)
    by_heading has heading without none well can =
        read_unheaded variant (text_of contents.board) contents (lines_of_board (game_of variant) contents.board well) refl
        (text_spells (game_of variant) contents.board well) can

-- ---- a collection of one record

abbrev NoHeader : List ℕ → Type 0
NoHeader line = begins_with header_mark line ≡ false

no_starts : (lines : List Piece) → All (λ line. NoHeader line.bytes) lines → starts_of lines ≡ []
no_starts [] are = refl
no_starts (line ∷ lines) are =
    rw (All-head (λ line. NoHeader line.bytes) line lines are, no_starts lines (All-tail (λ line. NoHeader line.bytes) line lines are))

no_marks : (place : ℕ) (text : List ℕ) → AreLines NoHeader text → marks true place text ≡ []
no_marks place text are = (marks-lines place text).0 ∙ no_starts (lines_from place text) (are.lines place)

plainly : (text : List ℕ) → AreLines IsPlain text → AreLines NoHeader text
plainly text are =
    record {
      ends = are.ends;
      lines = λ place. All-weaker (λ line. IsPlain line.bytes) (λ line. NoHeader line.bytes) (λ line is. is.0)
          (lines_from place text) (are.lines place);
    }

pub no_header_mark : (list : MoveList) → NoHeader (list_bytes list)
no_header_mark (OneCard moves) = refl
no_header_mark (Runs moves) = refl

lines_of_lists : (game : Game) → game.cells ≤ 8 → (lists : List MoveList) → All (CanPrint game) lists → AreLines NoHeader (flat_map list_line lists)
lines_of_lists game few lists can =
    AreLines-flat_map NoHeader list_line lists
    (All-weaker (CanPrint game) (λ list. AreLines NoHeader (list_line list))
    (λ list can. AreLines-line NoHeader (list_bytes list) (list_in_line game few list can.0) (no_header_mark list)) lists can)

holds_first : (line rest : List ℕ) → All InLine line → is_empty (line_of (record { start = 0; bytes = line })) ≡ false
    → has_content (line ++ line_feed ∷ rest) ≡ true
holds_first line rest in_line holds = rw (first_line 0 line rest in_line, holds)

-- the heading that is printed
abbrev pub printed_heading : Member → Heading
printed_heading member = if member.heading.has_header then with_header member.heading.variant (Some (name_of_member member)) else member.heading

-- it names the same variant
pub printed_variant : (member : Member) → (printed_heading member).variant ≡ member.heading.variant
printed_variant member = by member.heading.has_header
  where
    by : (has : Bool)
        → (if has then with_header member.heading.variant (Some (name_of_member member)) else member.heading).variant ≡ member.heading.variant
    by true = refl
    by false = refl

-- and printed again it is the same line
pub heading_again : (number : ℕ) (member : Member)
    → heading_line number (printed_heading member) ≡ heading_line member.number member.heading
heading_again number member = by member.heading.has_header refl
  where
    line_if : Bool → ℕ → List ℕ
    line_if has n = cond has (header_text member.heading.variant (name_of n member.heading.name)) []

    by : (has : Bool) → member.heading.has_header ≡ has
        → heading_line number (if has then with_header member.heading.variant (Some (name_of_member member)) else member.heading)
        ≡ heading_line member.number member.heading
    by true e = rw e
    by false e = rw e

-- a header, where there is one, lines that spell a board, and lists
module _ (variant : Variant) (above : List ℕ) (contents : Contents) (are : AreLines IsPlain above) where
  abbrev all_lines : List ℕ
  all_lines = above ++ flat_map list_line contents.lists

  plain_lines : (game : Game) → game.cells ≤ 8 → All (CanPrint game) contents.lists → AreLines NoHeader all_lines
  plain_lines game few can =
      AreLines-append NoHeader above (flat_map list_line contents.lists) (plainly above are) (lines_of_lists game few contents.lists can)

  module _ (own : Variant) (name : List ℕ) (given : IsGiven name) (spells : Spells (game_of own) above contents.board)
      (can : All (CanPrint (game_of own)) contents.lists) where
    abbrev line : List ℕ
    line = codes "@ " ++ (variant_word own ++ blank ∷ name)

    cut : header_text own name ++ all_lines ≡ line ++ line_feed ∷ all_lines
    cut = append_assoc line (line_feed ∷ []) all_lines

    one_start : 0 ∷ marks false 1 ((32 ∷ (variant_word own ++ blank ∷ name) ++ line_feed ∷ []) ++ all_lines) ≡ 0 ∷ []
    one_start =
        (marks-lines 0 (header_text own name ++ all_lines)).0
        ∙ ap starts_of (ap (lines_from 0) cut ∙ first_line 0 line all_lines (in_line own own name all_lines given))
        ∙ ap (λ later. 0 ∷ later) (no_starts (lines_from (0 + length line + 1) all_lines)
        ((plain_lines (game_of own) (few_cells own) can).lines (0 + length line + 1)))

    pub with_header-IsReadAs : IsReadAs variant true (header_text own name ++ all_lines) (Accepted (with_header own (Some name)) contents)
    with_header-IsReadAs = record {
      ends = ends-after (header_text own name) all_lines (ends-line_feed line) (plain_lines (game_of own) (few_cells own) can).ends;
      holds = ap has_content cut ∙ holds_first line all_lines (in_line own own name all_lines given) refl;
      reads = read_headed variant above contents are own name given spells can;
      accepted = (with_header own (Some name), contents, refl);
      with_header = λ yes. ((32 ∷ (variant_word own ++ blank ∷ name) ++ line_feed ∷ []) ++ all_lines, refl, ap (drop 1) one_start);
      without_header = λ no. absurd (cc);
    }

  pub lines-IsReadAs : (has : Bool) (number : ℕ) (heading : Heading) → number ≤ most_countable → IsHeading variant has heading
      → begins_with header_mark all_lines ≡ false → has_content all_lines ≡ true
      → Spells (game_of heading.variant) above contents.board → All (CanPrint (game_of heading.variant)) contents.lists → (own : Contents)
      → IsReadAs variant has (heading_line number heading ++ all_lines) (Accepted (printed_heading (member_of number heading own)) contents)
  lines-IsReadAs has number heading small without unmarked holds spells can own = record {
    ends = (plain_lines (game_of variant) (few_cells variant) can).ends;
    holds = holds;
    reads = read_unheaded variant above contents are unmarked spells can;
    accepted = (without_header variant, contents, refl);
    with_header = λ yes. absurd (cc);
    without_header = λ no. no_marks 0 all_lines (plain_lines (game_of variant) (few_cells variant) can);
  }
  lines-IsReadAs has number heading small (unnamed own) unmarked holds spells can _ =
      with_header-IsReadAs own (decimal number) (numbered number small) spells can
  lines-IsReadAs has number heading small (named own name given) unmarked holds spells can _ = with_header-IsReadAs own name given spells can

-- what follows the printed text of a board does not change its first line
pub board_first : (game : Game) (board : Board) (more : List ℕ) → IsWellFormed game board → has_content (text_of board ++ more) ≡ true
board_first game board more well =
    let later = cells_bytes board.cells ++ line_feed ∷ flat_map column_line board.columns in
    ap has_content (ap (λ text. text ++ more) (text_lines board) ∙ append_assoc (heights_bytes board.heights) (line_feed ∷ later) more)
    ∙ holds_first (heights_bytes board.heights) (later ++ more) (bytes_in_lines game board well).0 refl

-- ---- what show prints

abbrev pub shown_again : Member → Reading
shown_again member = Accepted (printed_heading member) member.contents

-- its lines are read as the record
pub shown-IsReadAs : (variant : Variant) → AreReadAs variant show_lines shown_again
shown-IsReadAs variant number bytes heading contents small accepted =
    let says = Says-from_accepted variant bytes heading contents accepted in
    let game = game_of heading.variant in
    let well = says.board.well_formed in
    let text = text_of contents.board in
    rw (append_assoc (heading_line number heading) text (flat_map list_line contents.lists)) (lines-IsReadAs variant text contents
    (lines_of_board game contents.board well) (begins_with header_mark bytes) number heading small
    (heading_said variant bytes heading (ok-from_HeaderSays says.header)) refl (board_first game contents.board (flat_map list_line contents.lists) well)
    (text_spells game contents.board well) (lists_can says.lists) contents)

pub shown-records : (variant : Variant) → ReadsAgain variant show_lines shown_again
shown-records variant = all_again variant show_lines shown_again (shown-IsReadAs variant)

abbrev pub shown_once : Member → List ℕ
shown_once member = show_lines member.number member.heading member.contents

pub same_lines : (variant : Variant) (texts : List RecordText) (members : List Member)
    → map (λ text. reading_of variant text.bytes) texts ≡ map shown_again members
    → flat_map (printed show_lines variant) texts ≡ flat_map shown_once members
same_lines variant texts members e =
    same_printed variant show_lines shown_again shown_once texts members e
    (All-weaker (Contains members) (Stays variant show_lines shown_again shown_once) (λ member there text. rw (heading_again text.number member))
    members (All-contains_itself members))

pub shown-bytes : (variant : Variant) (collection : List ℕ) → All (λ text. text.number ≤ most_countable) (records_of collection)
    → output_of_records (printed show_lines variant) (output_of_records (printed show_lines variant) collection)
    ≡ flat_map shown_once (members_among variant (records_of collection))
shown-bytes variant collection small =
    same_lines variant (records_of (output_of_records (printed show_lines variant) collection))
    (members_among variant (records_of collection)) (shown-records variant collection small)
