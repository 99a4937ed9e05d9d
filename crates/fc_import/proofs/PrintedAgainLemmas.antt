-- What an import writes is what fcanon prints.
use Rattle.std.proofs.Common.{◌++◌, ◌+◌, ◌-◌, ◌<◌, ◌==◌, ◌^◌, ◌∙◌, ◌∷◌, ◌≡◌, ◌≢◌, ◌≤◌, ◌⊎◌, [], All, ap, append-nil}
use Rattle.std.proofs.Common.{append_assoc, arith, Bool, codes, Err, false, if◌then◌else◌, inl, inr, length}
use Rattle.std.proofs.Common.{length-append, List, None, Ok, Option, refl, Result, Some, subst, suc, sym, take, true, ℕ}
use Rattle.std.proofs.lemmas.{Fmt.{length-decimal-le}, List.Elements.{All-append, All-cons, All-nil, All-take}}
use Rattle.std.{proofs.lemmas.List.{length-take}, specs.{Fmt.{decimal}, Option.{unwrap_or}}}
use Rattle.fc_board.specs.{Boards.{Board, IsWellFormed}, Games.{Game, game_of}, Moves.{move_count, MoveList}}
use Rattle.fc_board.specs.Play.{Legal}
use Rattle.{fc_board.specs.declared.rule.Variant.{Variant}, fc_text.specs.{Notation.{most_moves}, Printed.{text_of}}}
use Rattle.fc_record.proofs.HeadingLemmas.{bytes_of_name, heading_said, IsGiven, IsHeading as Gives, IsInName}
use Rattle.fc_record.proofs.HeadingLemmas.{name_from_bytes, named as gives, unnamed, without, word_numbered}
use Rattle.fc_record.specs.{Grammar.{begins_with, Heading, heading_of, is_name}, Printing.{header_text, list_line}}
use Rattle.fc_record.specs.RecordTexts.{header_mark}
use Rattle.fc_record.specs.declared.record.RecordFault.{RecordFault}
use Rattle.fc_collect.specs.declared.streams.faults.Summary.{Summary}
use Rattle.fc_import.specs.Import.{a_board, a_list, collection, headed, Imported, IsNamed, IsPrinted, IsShown, left_out}
use Rattle.fc_import.specs.Import.{list_next, Makes, no_board, none_yet, nothing, numbered, once_more, one_more, passed}
use Rattle.fc_import.specs.Import.{Reading, record_next, refused_board, refused_list, StaysLast, too_much, with_tally}
use Rattle.fc_import.specs.{Notes.{counted, name_by, State}, Words.{text_read}}
use Rattle.fc_import.specs.declared.options.ImportOptions.{ImportOptions}

-- a name that a header can give
abbrev pub IsOne : List ℕ → Type 0
IsOne name = (is_name name ≡ true) × (name ≢ [])

-- so many records that fcanon prints after one board, up to a last one
pub data PrintedTo (variant : Variant) (game : Game) : (first : Option Board) → (text : List ℕ) → (last : Option Board)
    → (many : ℕ) → Type 0 where
  no_more : (board : Option Board) → PrintedTo variant game board [] board 0
  a_record : (first last : Option Board) (many : ℕ) (name : List ℕ) (board : Board) (rest : List ℕ) → IsOne name
      → IsWellFormed game board
      → PrintedTo variant game (Some board) rest last many → PrintedTo variant game first
      (header_text variant name ++ (text_of board ++ rest)) last (suc many)
  its_list : (last : Option Board) (many : ℕ) (board : Board) (list : MoveList) (rest : List ℕ)
      → Legal game board list
      → move_count list ≤ most_moves
      → PrintedTo variant game (Some board) rest last many → PrintedTo variant game (Some board)
      (list_line list ++ rest) last many

module _ {variant : Variant} {game : Game} where
  to_printed : {first last : Option Board} {text : List ℕ} {many : ℕ} → PrintedTo variant game first text last many
      → IsPrinted variant game first text
  to_printed (no_more board) = nothing board
  to_printed (a_record first last many name board rest one well more) =
      record_next first name board rest one.0 one.1 well (to_printed more)
  to_printed (its_list last many board list rest legal few more) =
      list_next board list rest legal few (to_printed more)

  -- a record more
  record_more : {first last : Option Board} {text : List ℕ} {many : ℕ} (name : List ℕ) (board : Board) → IsOne name
      → IsWellFormed game board
      → PrintedTo variant game first text last many → PrintedTo variant game first
      (text ++ (header_text variant name ++ text_of board)) (Some board) (suc many)
  record_more name board one well (no_more first) =
      subst (λ text. PrintedTo variant game first (header_text variant name ++ text) (Some board) 1)
      (append-nil (text_of board))
      (a_record first (Some board) 0 name board [] one well (no_more (Some board)))
  record_more name board one well (a_record first last many named front rest is good more) =
      let added = header_text variant name ++ text_of board in
      subst (λ text. PrintedTo variant game first text (Some board) (suc (suc many)))
      (ap (λ text. header_text variant named ++ text) (sym (append_assoc (text_of front) rest added))
      ∙ sym (append_assoc (header_text variant named) (text_of front ++ rest) added))
      (a_record first (Some board) (suc many) named front (rest ++ added) is good (record_more name board one well more))
  record_more name board one well (its_list last many front list rest legal few more) =
      let added = header_text variant name ++ text_of board in
      subst (λ text. PrintedTo variant game (Some front) text (Some board) (suc many))
      (sym (append_assoc (list_line list) rest added))
      (its_list (Some board) (suc many) front list (rest ++ added) legal few (record_more name board one well more))

  -- a list more
  list_more : {first last : Option Board} {text : List ℕ} {many : ℕ} (board : Board) (list : MoveList)
      → Legal game board list → move_count list ≤ most_moves
      → PrintedTo variant game first text last many → last ≡ Some board
      → PrintedTo variant game first (text ++ list_line list) (Some board) many
  list_more board list legal few (no_more first) is =
      subst (λ first. PrintedTo variant game first (list_line list) (Some board) 0) (sym is)
      (subst (λ text. PrintedTo variant game (Some board) text (Some board) 0) (append-nil (list_line list))
      (its_list (Some board) 0 board list [] legal few (no_more (Some board))))
  list_more board list legal few (a_record first last many named front rest one good more) is =
      subst (λ text. PrintedTo variant game first text (Some board) (suc many))
      (ap (λ text. header_text variant named ++ text) (sym (append_assoc (text_of front) rest (list_line list)))
      ∙ sym (append_assoc (header_text variant named) (text_of front ++ rest) (list_line list)))
      (a_record first (Some board) many named front (rest ++ list_line list) one good
      (list_more board list legal few more is))
  list_more board list legal few (its_list last many front other rest legal' few' more) is =
      subst (λ text. PrintedTo variant game (Some front) text (Some board) many)
      (sym (append_assoc (list_line other) rest (list_line list)))
      (its_list (Some board) many front other (rest ++ list_line list) legal' few'
      (list_more board list legal few more is))

-- ---- names

pub given : (name : List ℕ) → IsOne name → IsGiven name
given name one = record { is_one = one.0; some = some name one.1 }
  where
    some : (name : List ℕ) → name ≢ [] → 0 < length name
    some [] is = absurd (is refl)
    some (byte ∷ name) is = omega arith

below_most : (number : ℕ) → counted number < 2 ^ 64
below_most number = omega arith

joined_one : (name digits : List ℕ) → IsOne name → All IsInName digits → length digits ≤ 20
    → IsOne (take (63 - length digits) name ++ codes "_" ++ digits)
joined_one name digits one are few =
    let front = take (63 - length digits) name in
    let cut = length-take (63 - length digits) name in
    let low : All IsInName (codes "_") = All-cons IsInName 95 [] (omega arith, omega arith) (All-nil IsInName) in
    let first = All-append IsInName front (codes "_") (All-take IsInName (63 - length digits) name
    (bytes_of_name name (given name one))) low in
    let marked : length (front ++ codes "_") ≡ length front + 1 = length-append front (codes "_") in
    let whole = length-append (front ++ codes "_") digits in (
      name_from_bytes (front ++ codes "_" ++ digits) (omega (arith, few, whole, marked, cut))
          (All-append IsInName (front ++ codes "_") digits first are),
      λ none. let short : length (front ++ codes "_" ++ digits) ≡ 0 = ap length none in absurd
          (omega (arith, whole, marked, short)),
    )

numbered_one : (name : List ℕ) (number : ℕ) → number < 2 ^ 64 → IsOne name → IsOne (numbered name number)
numbered_one name number small one =
    joined_one name (decimal number) one (bytes_of_name (decimal number) (word_numbered number small))
    (length-decimal-le 20 number (omega arith) (omega arith) (omega arith))

one_name : (state : State) (name : List ℕ) → IsNamed state name → (state.place.name ≡ []) ⊎ IsOne state.place.name
    → IsOne name
one_name state name named (inl none) = named.alone none
one_name state name named (inr one) = subst IsOne (sym (named.by_header one.1)) (by_count (state.named == 0))
  where
    by_count : (first : Bool) → IsOne (if first then state.place.name else numbered state.place.name
        (counted (state.named + 1)))
    by_count true = one
    by_count false = numbered_one state.place.name (counted (state.named + 1)) (below_most (state.named + 1)) one

name_of_heading : (variant : Variant) (said : Bool) (heading : Heading) → Gives variant said heading
    → (unwrap_or heading.name [] ≡ []) ⊎ IsOne (unwrap_or heading.name [])
name_of_heading variant said heading without = inl refl
name_of_heading variant said heading (unnamed own) = inl refl
name_of_heading variant said heading (gives own name is) = inr
    (is.is_one, λ none. absurd (omega (arith, is.some, ap length none)))

header_name : (variant : Variant) (line : List ℕ) → (name_by (heading_of variant line) ≡ []) ⊎ IsOne
    (name_by (heading_of variant line))
header_name variant line = by (heading_of variant line) refl
  where
    by : (read : Result Heading RecordFault) → heading_of variant line ≡ read
        → (name_by read ≡ []) ⊎ IsOne (name_by read)
    by (Err fault) e = inl refl
    by (Ok heading) e = name_of_heading variant (begins_with header_mark line) heading
        (heading_said variant line heading e)

-- ---- what was written so far

pub record SoFar (variant : Variant) (game : Game) (state : State) (written : List ℕ) : Type 0 where
  pub named : (state.place.name ≡ []) ⊎ IsOne state.place.name
  pub last : Option Board
  pub many : ℕ
  pub printed : PrintedTo variant game None written last many
  pub same : (board : Board) → state.last ≡ Some board → last ≡ Some board
  pub tallied : state.tally.boards ≡ counted many

module _ {variant : Variant} {game : Game} where
  -- nothing was written
  unwritten : {state next : State} {written : List ℕ} → next.place.name ≡ state.place.name
      → ((board : Board) → next.last ≡ Some board → state.last ≡ Some board)
      → next.tally.boards ≡ counted (state.tally.boards + 0)
      → SoFar variant game state written → SoFar variant game next (written ++ [])
  unwritten {state} {next} {written} name last boards so_far = record {
    named = subst (λ name. (name ≡ []) ⊎ IsOne name) (sym name) so_far.named;
    last = so_far.last;
    many = so_far.many;
    printed = subst (λ text. PrintedTo variant game None text so_far.last so_far.many) (sym (append-nil written))
        so_far.printed;
    same = λ board is. so_far.same board (last board is);
    tallied = omega (arith, boards, so_far.tallied);
  }

  read_more : {state : State} {piece : List ℕ} {next : State} {written more says : List ℕ}
      → Reading variant game state piece next more says
      → SoFar variant game state written → SoFar variant game next (written ++ more)
  read_more (passed apart quiet) so_far = unwritten refl (λ board is. is) refl so_far
  read_more (left_out said apart names prose note) so_far = unwritten refl (λ board is. is) refl so_far
  read_more {state = state} (a_board name board said game_is named well can of says) so_far = record {
    named = so_far.named;
    last = Some board;
    many = suc so_far.many;
    printed = record_more name board (one_name state name named so_far.named) well so_far.printed;
    same = λ other is. is;
    tallied = omega (arith, so_far.tallied);
  }
  read_more (once_more board said last begun of says) so_far = unwritten refl (λ board is. is) refl so_far
  read_more (a_list board list said apart last legal few names says) so_far = record {
    named = so_far.named;
    last = Some board;
    many = so_far.many;
    printed = list_more board list legal few so_far.printed (so_far.same board last);
    same = λ other is. sym last ∙ is;
    tallied = omega (arith, so_far.tallied);
  }
  read_more (refused_board said note) so_far = unwritten refl (λ board is. absurd (cc)) refl so_far
  read_more {state = state} {piece = piece} (refused_list last said apart stays note) so_far =
      unwritten refl (by stays) refl so_far
    where
      by : StaysLast game piece state.last last → (board : Board) → last ≡ Some board → state.last ≡ Some board
      by (inl none) board is = absurd (let e = sym none ∙ is in cc)
      by (inr (same, lines)) board is = sym same ∙ is

  pub written_so_far : {options : ImportOptions} {text : List ℕ} {state : State} {written said : List ℕ}
      → Imported variant options game text state written said
      → SoFar variant game state written
  written_so_far none_yet =
      record { named = inl refl; last = None; many = 0; printed = no_more None; same = λ board is. is; tallied = refl }
  written_so_far (headed text state written said so_far ends line heading) =
      let before = written_so_far so_far in
      record {
        named = header_name variant line;
        last = before.last;
        many = before.many;
        printed = before.printed;
        same = λ board is. absurd (cc);
        tallied = before.tallied;
      }
  written_so_far (one_more text state written said so_far ends piece none next more says reading) = read_more reading
      (written_so_far so_far)

  -- what is written is what fcanon prints
  pub written_printed : {options : ImportOptions} {text : List ℕ} {state : State} {written said : List ℕ}
      → Imported variant options game text state written said
      → IsPrinted variant game None written
  written_printed imported = to_printed (written_so_far imported).printed

-- ---- imports

-- what fcanon prints is imported as it is, where `show` takes it
pub printed_kept : {variant : Variant} {options : ImportOptions} {bytes made said : List ℕ} {summary : Summary} {records : ℕ}
    → Makes variant options bytes made said summary → IsPrinted variant (game_of variant) None (text_read bytes)
    → text_read bytes ≢ []
    → IsShown variant (text_read bytes) records → (made ≡ text_read bytes) × (said ≡ [])
printed_kept (collection state made notes records imported shown some_made refused is) printed some shows =
    let (as_it_is, silent) = imported.kept printed in
    (as_it_is, ap (with_tally state.tally) silent)
printed_kept (no_board state notes imported none) printed some shows = absurd (some (sym (imported.kept printed).0))
printed_kept {variant = variant} {records = records} (too_much state made notes imported unshown) printed some shows =
    absurd (unshown records (subst (λ text. IsShown variant text records) (sym (imported.kept printed).0) shows))

pub makes_printed : {variant : Variant} {options : ImportOptions} {bytes made said : List ℕ} {summary : Summary}
    → Makes variant options bytes made said summary → IsPrinted variant (game_of variant) None made
makes_printed (collection state made notes records imported shown some_made refused is) = written_printed imported.imported
makes_printed (no_board state notes imported none) = nothing None
makes_printed (too_much state made notes imported unshown) = nothing None

-- what an import wrote is imported as it is
pub makes_again : {variant : Variant} {options other : ImportOptions} {bytes made said more again says : List ℕ}
    {summary next : Summary}
    → Makes variant options bytes made said summary → made ≢ [] → text_read more ≡ made
    → Makes variant other more again says next → (again ≡ made) × (says ≡ [])
makes_again {variant = variant} (collection state made notes records imported shown some_made refused is) some read second =
    let printed = subst (IsPrinted variant (game_of variant) None) (sym read) (written_printed imported.imported) in
    let (same, silent) = printed_kept second printed (λ none. some (sym read
    ∙ none)) (subst (λ text. IsShown variant text records) (sym read) shown) in
    (same ∙ read, silent)
makes_again (no_board state notes imported none) some read second = absurd (some refl)
makes_again (too_much state made notes imported unshown) some read second = absurd (some refl)
