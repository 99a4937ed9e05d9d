-- Records are accepted exactly where their parts are read, spelled and listed.
use Rattle.std.proofs.Common.{◌+◌, ◌-◌, ◌∙◌, ◌∷◌, ◌≡◌, ◌≤◌, [], ap, arith, Bool, cond, drop, Err, false, if◌then◌else◌}
use Rattle.std.proofs.Common.{length, List, None, Ok, Option, refl, Result, Some, sym, true, true≢false, ℕ}
use Rattle.fc_board.specs.{Games.{Game, game_of}, Moves.{MoveList, OneCard, Runs}}
use Rattle.fc_board.specs.declared.{moves.Move.{Move}, rule.Variant.TheVariants.{BakersGame, EightOff, FreeCell}}
use Rattle.fc_board.specs.declared.{rule.Variant.{Variant}, run_move.RunMove.{RunMove}}
use Rattle.fc_text.proofs.MovesReadLemmas.{listed-exactly, runs_listed-exactly}
use Rattle.fc_text.proofs.ReadingLemmas.{faultless-from_Spells, Spells-board_of, Spells-from_faultless}
use Rattle.fc_text.specs.{Faults.{first_fault}, Lines.{Piece}, Notation.{ListFault}, Readings.{moves_read, runs_read}}
use Rattle.fc_text.specs.{Rows.{is_empty, line_of}, Spelling.{board_of, Spells}}
use Rattle.fc_text.specs.declared.fault.BoardFault.{BoardFault}
use Rattle.fc_record.specs.Grammar.{Accepted, after_header, AreFaulty, AreLists, bad_board, bad_header, bad_line}
use Rattle.fc_record.specs.Grammar.{bad_list, begins_with, board_part, Contents, contents_of, contents_with, fault_at}
use Rattle.fc_record.specs.Grammar.{has_two_marks, Heading, heading_of, IsFaulty, IsList, later_line, list_lines}
use Rattle.fc_record.specs.Grammar.{list_mark, list_read, list_with, lists_of, next_list, no_lines, Reading, reading_by}
use Rattle.fc_record.specs.Grammar.{reading_of, reading_with, RecordSays, Refused, skipped_line, stray_line, with_list}
use Rattle.fc_record.specs.Printing.{refuses}
use Rattle.fc_record.specs.declared.record.{RecordFault.{RecordFault}, RecordFaultKind.TheVariants.{StrayLine}}
use Rattle.fc_record.specs.declared.record.RecordFaultKind.TheVariants as kind
use Rattle.fc_collect.proofs.HeaderSaysLemmas.{BadHeaderAt-from_err, err-from_BadHeaderAt, HeaderSays-from_ok}
use Rattle.fc_collect.proofs.HeaderSaysLemmas.{ok-from_HeaderSays}

-- each game has at most eight cells
pub few_cells : (variant : Variant) → (game_of variant).cells ≤ 8
few_cells FreeCell = omega arith
few_cells BakersGame = omega arith
few_cells EightOff = omega arith

not_ok : {X E : Type 0} {x : X} {e : E} → ◌≡◌ {A = Result X E} (Err e) (Ok x) → ⊥
not_ok e = cc

same_ok : {X E : Type 0} (x y : X) → ◌≡◌ {A = Result X E} (Ok x) (Ok y) → x ≡ y
same_ok x y e = cc

same_error : {X E : Type 0} (x y : E) → ◌≡◌ {A = Result X E} (Err x) (Err y) → x ≡ y
same_error x y e = cc

-- ---- lists

module _ (game : Game) (few : game.cells ≤ 8) where
  -- what the first line says, by what it is
  abbrev first_line : Piece → List Piece → Bool → Bool → Result (List MoveList) RecordFault
  first_line line lines marked empty =
      cond marked (with_list (list_read game line.start line.bytes) (lists_of game lines))
      (cond empty (lists_of game lines) (Err (fault_at line.start StrayLine)))

  -- what is read of a list, and in which form
  abbrev read_by : ℕ → List ℕ → Bool → Result MoveList RecordFault
  read_by place line twice =
      if twice then list_with Runs (place + 2) (runs_read game (drop 2 line)) else list_with OneCard (place + 1) (moves_read game (drop 1 line))

  -- a line is a list exactly where it is read as one
  pub IsList-from_read : (place : ℕ) (line : List ℕ) (list : MoveList) → list_read game place line ≡ Ok list → IsList game line list
  IsList-from_read place line list e = by_marks (has_two_marks line) refl e
    where
      by_runs : (read : Result (List RunMove) ListFault) → has_two_marks line ≡ true → runs_read game (drop 2 line) ≡ read
          → list_with Runs (place + 2) read ≡ Ok list → IsList game line list
      by_runs (Err fault) marked read e = absurd (not_ok e)
      by_runs (Ok moves) marked read e = rw (← same_ok (Runs moves) list e) (marked, (runs_listed-exactly game (drop 2 line) moves few).0 read)

      by_moves : (read : Result (List Move) ListFault) → has_two_marks line ≡ false → moves_read game (drop 1 line) ≡ read
          → list_with OneCard (place + 1) read ≡ Ok list → IsList game line list
      by_moves (Err fault) marked read e = absurd (not_ok e)
      by_moves (Ok moves) marked read e = rw (← same_ok (OneCard moves) list e) (marked, (listed-exactly game (drop 1 line) moves few).0 read)

      by_marks : (twice : Bool) → has_two_marks line ≡ twice → read_by place line twice ≡ Ok list → IsList game line list
      by_marks true marked e = by_runs (runs_read game (drop 2 line)) marked refl e
      by_marks false marked e = by_moves (moves_read game (drop 1 line)) marked refl e

  pub read-from_IsList : (place : ℕ) (line : List ℕ) (list : MoveList) → IsList game line list → list_read game place line ≡ Ok list
  read-from_IsList place line (OneCard moves) (marked, listed) = rw (marked, (listed-exactly game (drop 1 line) moves few).1 listed)
  read-from_IsList place line (Runs moves) (marked, listed) = rw (marked, (runs_listed-exactly game (drop 2 line) moves few).1 listed)

  -- and so are the lines of a record
  pub AreLists-from_ok : (lines : List Piece) (lists : List MoveList) → lists_of game lines ≡ Ok lists → AreLists game lines lists
  AreLists-from_ok [] lists e = rw (← same_ok [] lists e) no_lines
  AreLists-from_ok (line ∷ lines) lists e =
      by_tests (AreLists-from_ok lines) (begins_with list_mark line.bytes) (is_empty (line_of line)) refl refl e
    where
      by_reading : ((rest : List MoveList) → lists_of game lines ≡ Ok rest → AreLists game lines rest)
          → (read : Result MoveList RecordFault) (later : Result (List MoveList) RecordFault) → begins_with list_mark line.bytes ≡ true
          → list_read game line.start line.bytes ≡ read → lists_of game lines ≡ later → with_list read later ≡ Ok lists
          → AreLists game (line ∷ lines) lists
      by_reading ensured (Err fault) later marked read said e = absurd (not_ok e)
      by_reading ensured (Ok list) (Err fault) marked read said e = absurd (not_ok e)
      by_reading ensured (Ok list) (Ok rest) marked read said e =
          rw (same_ok (list ∷ rest) lists e) at (next_list (ensured rest said) line list marked (IsList-from_read line.start line.bytes list read))

      by_tests : ((rest : List MoveList) → lists_of game lines ≡ Ok rest → AreLists game lines rest)
          → (marked empty : Bool) → begins_with list_mark line.bytes ≡ marked → is_empty (line_of line) ≡ empty
          → first_line line lines marked empty ≡ Ok lists → AreLists game (line ∷ lines) lists
      by_tests ensured true empty is_marked is_blank e =
          by_reading ensured (list_read game line.start line.bytes) (lists_of game lines) is_marked refl refl e
      by_tests ensured false true is_marked is_blank e = skipped_line (ensured lists e) line is_marked is_blank
      by_tests ensured false false is_marked is_blank e = absurd (not_ok e)

  pub ok-from_AreLists : {lines : List Piece} {lists : List MoveList} → AreLists game lines lists → lists_of game lines ≡ Ok lists
  ok-from_AreLists no_lines = refl
  ok-from_AreLists (next_list {lines} {lists} rest line list is_list listed) =
      rw (is_list, read-from_IsList line.start line.bytes list listed, ok-from_AreLists rest)
  ok-from_AreLists (skipped_line {lines} {lists} rest line is_list is_blank) = rw (is_list, is_blank, ok-from_AreLists rest)

  pub fault-from_AreFaulty : {lines : List Piece} {fault : RecordFault} → AreFaulty game lines fault → lists_of game lines ≡ Err fault
  fault-from_AreFaulty (bad_list line lines fault is_list read) = rw (is_list, read)
  fault-from_AreFaulty (stray_line line lines is_list is_blank) = rw (is_list, is_blank)
  fault-from_AreFaulty (later_line {line} {lines} {lists} {fault} good faulty) = by_line lists (ok-from_AreLists good) (fault-from_AreFaulty faulty)
    where
      by_tests : (lists : List MoveList) (marked empty : Bool) (read : Result MoveList RecordFault) (later : Result (List MoveList) RecordFault)
          → cond marked (with_list read (Ok [])) (cond empty (Ok []) (Err (fault_at line.start StrayLine))) ≡ Ok lists → later ≡ Err fault
          → cond marked (with_list read later) (cond empty later (Err (fault_at line.start StrayLine))) ≡ Err fault
      by_tests lists true empty (Ok list) later good none = ap (with_list (Ok list)) none
      by_tests lists true empty (Err other) later good none = absurd (not_ok good)
      by_tests lists false true read later good none = none
      by_tests lists false false read later good none = absurd (not_ok good)

      by_line : (lists : List MoveList) → lists_of game (line ∷ []) ≡ Ok lists → lists_of game lines ≡ Err fault
          → lists_of game (line ∷ lines) ≡ Err fault
      by_line lists good none =
          by_tests lists (begins_with list_mark line.bytes) (is_empty (line_of line)) (list_read game line.start line.bytes)
          (lists_of game lines) good none

  pub AreFaulty-from_fault : (lines : List Piece) (fault : RecordFault) → lists_of game lines ≡ Err fault → AreFaulty game lines fault
  AreFaulty-from_fault [] fault e = absurd (not_ok (sym e))
  AreFaulty-from_fault (line ∷ lines) fault e =
      by_tests (AreFaulty-from_fault lines) (begins_with list_mark line.bytes) (is_empty (line_of line)) refl refl e
    where
      by_reading : ((other : RecordFault) → lists_of game lines ≡ Err other → AreFaulty game lines other)
          → (read : Result MoveList RecordFault) (later : Result (List MoveList) RecordFault) → begins_with list_mark line.bytes ≡ true
          → list_read game line.start line.bytes ≡ read → lists_of game lines ≡ later → with_list read later ≡ Err fault
          → AreFaulty game (line ∷ lines) fault
      by_reading ensured (Err other) later marked read said e =
          bad_list line lines fault marked (read ∙ ap Err (same_error {X = List MoveList} other fault e))
      by_reading ensured (Ok list) (Err other) marked read said e =
          later_line (next_list no_lines line list marked (IsList-from_read line.start line.bytes list read)) (ensured fault (said ∙ e))
      by_reading ensured (Ok list) (Ok rest) marked read said e = absurd (not_ok (sym e))

      by_tests : ((other : RecordFault) → lists_of game lines ≡ Err other → AreFaulty game lines other)
          → (marked empty : Bool) → begins_with list_mark line.bytes ≡ marked → is_empty (line_of line) ≡ empty
          → first_line line lines marked empty ≡ Err fault → AreFaulty game (line ∷ lines) fault
      by_tests ensured true empty is_marked is_blank e =
          by_reading ensured (list_read game line.start line.bytes) (lists_of game lines) is_marked refl refl e
      by_tests ensured false true is_marked is_blank e = later_line (skipped_line no_lines line is_marked is_blank) (ensured fault e)
      by_tests ensured false false is_marked is_blank e =
          rw (← same_error {X = List MoveList} (fault_at line.start StrayLine) fault e) (stray_line line lines is_marked is_blank)

-- ---- the board and the lists

module _ (variant : Variant) (place : ℕ) (body : List ℕ) where
  abbrev game : Game
  game = game_of variant

  abbrev Reads : Contents → Type 0
  Reads contents = Spells game (board_part body) contents.board × AreLists game (list_lines place body) contents.lists

  -- they are what is read
  pub Reads-from_ok : (contents : Contents) → contents_of game place body ≡ Ok contents → Reads contents
  Reads-from_ok contents e = by_parts (first_fault game (board_part body)) (lists_of game (list_lines place body)) refl refl e
    where
      by_parts : (fault : Option BoardFault) (lists : Result (List MoveList) RecordFault) → first_fault game (board_part body) ≡ fault
          → lists_of game (list_lines place body) ≡ lists
          → contents_with place fault lists (board_of game (board_part body)) ≡ Ok contents → Reads contents
      by_parts (Some fault) lists faulty said e = absurd (not_ok e)
      by_parts None (Err fault) faultless said e = absurd (not_ok e)
      by_parts None (Ok lists) faultless said e =
          rw (← same_ok (record { board = board_of game (board_part body); lists = lists }) contents e)
          (Spells-from_faultless game (board_part body) faultless, AreLists-from_ok game (few_cells variant) (list_lines place body) lists said)

  pub ok-from_Reads : (contents : Contents) → Reads contents → contents_of game place body ≡ Ok contents
  ok-from_Reads contents (spelled, listed) = rw (
    faultless-from_Spells game (board_part body) contents.board spelled,
    ok-from_AreLists game (few_cells variant) listed,
    Spells-board_of game (board_part body) contents.board spelled,
  )

-- ---- the record

module _ (variant : Variant) (bytes : List ℕ) (heading : Heading) (contents : Contents) where
  abbrev place_of_body : ℕ
  place_of_body = length bytes - length (after_header bytes)

  -- a record is accepted exactly where it says this
  pub Says-from_accepted : reading_of variant bytes ≡ Accepted heading contents → RecordSays variant bytes heading contents
  Says-from_accepted e = by_heading (heading_of variant bytes) refl e
    where
      by_contents : (found : Heading) (said : Result Contents RecordFault) → heading_of variant bytes ≡ Ok found
          → contents_of (game_of found.variant) place_of_body (after_header bytes) ≡ said
          → reading_with found said ≡ Accepted heading contents → RecordSays variant bytes heading contents
      by_contents found (Err fault) with_header read e = absurd (true≢false (ap refuses e))
      by_contents found (Ok held) with_header read e =
          let accepted : ◌≡◌ {A = Reading} (Accepted found held) (Accepted heading contents) = e in
          let same : found ≡ heading = cc in
          let held_same : held ≡ contents = cc in
          let reads = Reads-from_ok found.variant place_of_body (after_header bytes) held read in
          let header = HeaderSays-from_ok variant bytes found with_header in
          let says : RecordSays variant bytes found held = record { header = header; board = reads.0; lists = reads.1 } in
          rw (same, held_same) at says

      by_heading : (said : Result Heading RecordFault) → heading_of variant bytes ≡ said
          → reading_by said bytes ≡ Accepted heading contents → RecordSays variant bytes heading contents
      by_heading (Err fault) with_header e = absurd (true≢false (ap refuses e))
      by_heading (Ok found) with_header e =
          by_contents found (contents_of (game_of found.variant) place_of_body (after_header bytes)) with_header refl e

  pub accepted-from_Says : RecordSays variant bytes heading contents → reading_of variant bytes ≡ Accepted heading contents
  accepted-from_Says says = rw (
    ok-from_HeaderSays says.header,
    ok-from_Reads heading.variant place_of_body (after_header bytes) contents (says.board, says.lists),
  )

-- ---- a record that is refused

module _ (variant : Variant) (bytes : List ℕ) where
  abbrev body : List ℕ
  body = after_header bytes

  abbrev place : ℕ
  place = length bytes - length body

  -- a record is refused exactly where it is faulty
  pub refused-from_IsFaulty : {name : Option (List ℕ)} {fault : RecordFault} → IsFaulty variant bytes name fault
      → reading_of variant bytes ≡ Refused name fault
  refused-from_IsFaulty (bad_header place bad) = rw (err-from_BadHeaderAt bad variant)
  refused-from_IsFaulty (bad_board heading says fault faulty) = rw (ok-from_HeaderSays says, faulty)
  refused-from_IsFaulty (bad_line heading board fault says spelled faulty) = rw (
    ok-from_HeaderSays says,
    faultless-from_Spells (game_of heading.variant) (board_part body) board spelled,
    fault-from_AreFaulty (game_of heading.variant) (few_cells heading.variant) faulty,
  )

  pub IsFaulty-from_refused : (name : Option (List ℕ)) (fault : RecordFault) → reading_of variant bytes ≡ Refused name fault
      → IsFaulty variant bytes name fault
  IsFaulty-from_refused name fault e = by_heading (heading_of variant bytes) refl e
    where
      as_said : (ensured : Option (List ℕ)) (found : RecordFault) → ◌≡◌ {A = Reading} (Refused ensured found) (Refused name fault)
          → IsFaulty variant bytes ensured found → IsFaulty variant bytes name fault
      as_said ensured found e is =
          let names : ensured ≡ name = cc in
          let faults : found ≡ fault = cc in
          rw (names, faults) at is

      by_parts : (heading : Heading) (found : Option BoardFault) (lists : Result (List MoveList) RecordFault) → heading_of variant bytes ≡ Ok heading
          → first_fault (game_of heading.variant) (board_part body) ≡ found → lists_of (game_of heading.variant) (list_lines place body) ≡ lists
          → reading_with heading (contents_with place found lists (board_of (game_of heading.variant) (board_part body))) ≡ Refused name fault
          → IsFaulty variant bytes name fault
      by_parts heading (Some found) lists with_header faulty said e =
          as_said heading.name (fault_at (place + found.place) (kind.Board found.kind)) e
          (bad_board heading (HeaderSays-from_ok variant bytes heading with_header) found faulty)
      by_parts heading None (Err found) with_header faultless said e =
          as_said heading.name found e (bad_line heading (board_of (game_of heading.variant) (board_part body)) found
          (HeaderSays-from_ok variant bytes heading with_header)
          (Spells-from_faultless (game_of heading.variant) (board_part body) faultless)
          (AreFaulty-from_fault (game_of heading.variant) (few_cells heading.variant) (list_lines place body) found said))
      by_parts heading None (Ok lists) with_header faultless said e = absurd (true≢false (sym (ap refuses e)))

      by_heading : (said : Result Heading RecordFault) → heading_of variant bytes ≡ said → reading_by said bytes ≡ Refused name fault
          → IsFaulty variant bytes name fault
      by_heading (Err found) with_header e =
          let (place, same, bad) = BadHeaderAt-from_err variant bytes found with_header in
          as_said None (fault_at place kind.BadHeader) (ap (Refused None) (sym same) ∙ e) (bad_header place bad)
      by_heading (Ok heading) with_header e =
          by_parts heading (first_fault (game_of heading.variant) (board_part body))
          (lists_of (game_of heading.variant) (list_lines place body)) with_header refl refl e
