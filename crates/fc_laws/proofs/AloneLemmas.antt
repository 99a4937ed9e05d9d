-- A collection in which no line begins with `@` or `>`: it is one text, and says what its board says.
use Rattle.std.proofs.Common.{◌++◌, ◌+◌, ◌-◌, ◌==◌, ◌∙◌, ◌∷◌, ◌≡◌, [], ap, append-nil, arith, Bool, cond, false, length}
use Rattle.std.proofs.Common.{length-append, List, map, None, Ok, refl, Some, sym, true, ℕ}
use Rattle.std.proofs.{lemmas.List.{length-map, nil_from_length}, Math.Seq.{drop-length, take-length}}
use Rattle.std.specs.List.{find, flat_map}
use Rattle.fc_board.specs.{Boards.{Board}, declared.rule.Variant.{Variant}, Games.{Game, game_of}}
use Rattle.fc_text.{proofs.ReadingLemmas.{faultless-from_Spells, Spells-board_of}, specs.Bytes.{line_feed}}
use Rattle.fc_text.specs.{Faults.{first_fault}, Lines.{lines_from}, Spelling.{board_of, Spells}}
use Rattle.fc_text.specs.declared.fault.BoardFault.{BoardFault}
use Rattle.fc_record.specs.Grammar.{Accepted, after_header, begins_with, board_part, contents_with, fault_at}
use Rattle.fc_record.specs.Grammar.{heading_of, list_lines, list_mark, lists_of, lists_start, reading_of, reading_with}
use Rattle.fc_record.specs.{Grammar.{Refused, without_header}, RecordTexts.{header_mark, RecordText}}
use Rattle.fc_collect.proofs.HeaderLemmas.{cut-header_starts, header_starts-marks, marks}
use Rattle.fc_collect.{proofs.RecordLemmas.{begun-number, cut-bytes}, specs.Pieces.{header_starts}}
use Rattle.fc_collect.specs.Records.{begun, cut, finished, if_record, nothing, records_of}
use Rattle.fc_record.specs.declared.record.RecordFaultKind.TheVariants as kind

-- ---- one text

module _ (text : List ℕ) (no_headers : header_starts text ≡ []) where
  starts : map (λ other. other.start) (cut nothing text) ≡ 0 ∷ []
  starts = rw (cut-header_starts text, no_headers)

  none_finished : finished nothing text ≡ []
  none_finished = nil_from_length (finished nothing text) (one (length (finished nothing text)) sizes)
    where
      sizes : length (finished nothing text) + 1 ≡ 1
      sizes = rw (← length-append (finished nothing text) (begun nothing text ∷ []), ← length-map (cut nothing text) (λ other. other.start), starts)

      one : (n : ℕ) → n + 1 ≡ 1 → n ≡ 0
      one n e = omega (arith, e)

  one_cut : cut nothing text ≡ begun nothing text ∷ []
  one_cut = rw none_finished

  begun_is : begun nothing text ≡ record { number = 1; start = 0; bytes = text }
  begun_is = build (begun nothing text) numbered started held
    where
      first_of : List ℕ → ℕ
      first_of [] = 0
      first_of (start ∷ _) = start

      numbered : (begun nothing text).number ≡ 1
      numbered = rw (begun-number nothing text, none_finished)

      started : (begun nothing text).start ≡ 0
      started = ap first_of (sym (ap (map (λ other. other.start)) one_cut) ∙ starts)

      held : (begun nothing text).bytes ≡ text
      held = sym (append-nil (begun nothing text).bytes) ∙ sym (ap (flat_map (λ other. other.bytes)) one_cut) ∙ cut-bytes text

      build : (other : RecordText) → other.number ≡ 1 → other.start ≡ 0 → other.bytes ≡ text → other ≡ record { number = 1; start = 0; bytes = text }
      build other number start bytes = rw (number, start, bytes)

  pub one_record : records_of text ≡ if_record (record { number = 1; start = 0; bytes = text })
  one_record = rw (one_cut, append-nil (if_record (begun nothing text)), begun_is)

pub no_mark_first : (text : List ℕ) → header_starts text ≡ [] → begins_with header_mark text ≡ false
no_mark_first [] none = refl
no_mark_first (byte ∷ rest) none = by_test (byte == header_mark) refl
  where
    by_test : (b : Bool) → byte == header_mark ≡ b → byte == header_mark ≡ false
    by_test false e = e
    by_test true e =
        let later : List ℕ = marks (byte == line_feed) 1 rest in
        let some : 0 ∷ later ≡ [] = sym (ap (λ b. cond b (0 ∷ []) [] ++ later) e) ∙ sym (header_starts-marks (byte ∷ rest)) ∙ none in
        absurd (cc)

-- ---- one board

module _ (variant : Variant) (text : List ℕ) (no_headers : header_starts text ≡ [])
    (no_lists : find (λ line. begins_with list_mark line.bytes) (lines_from 0 text) ≡ None) where
  abbrev game : Game
  game = game_of variant

  unmarked : begins_with header_mark text ≡ false
  unmarked = no_mark_first text no_headers

  with_header : heading_of variant text ≡ Ok (without_header variant)
  with_header = rw unmarked

  whole : after_header text ≡ text
  whole = rw unmarked

  ends : lists_start text ≡ length text
  ends = rw no_lists

  part : board_part text ≡ text
  part = rw (ends, take-length text)

  rest : (place : ℕ) → lists_of game (list_lines place text) ≡ Ok []
  rest place = rw (ends, drop-length text)

  pub read_alone : reading_of variant text
      ≡ reading_with (without_header variant) (contents_with 0 (first_fault game text) (Ok []) (board_of game text))
  read_alone = rw (with_header, whole, none (length text), part, rest 0)
    where
      none : (n : ℕ) → n - n ≡ 0
      none n = omega arith

  pub spelled_alone : (board : Board) → Spells game text board
      → reading_of variant text ≡ Accepted (without_header variant) (record { board = board; lists = [] })
  spelled_alone board spells = rw (read_alone, faultless-from_Spells game text board spells, Spells-board_of game text board spells)

  pub faulty_alone : (fault : BoardFault) → first_fault game text ≡ Some fault
      → reading_of variant text ≡ Refused None (fault_at fault.place (kind.Board fault.kind))
  faulty_alone fault e = rw (read_alone, e, from_none fault.place)
    where
      from_none : (place : ℕ) → 0 + place ≡ place
      from_none place = omega arith
