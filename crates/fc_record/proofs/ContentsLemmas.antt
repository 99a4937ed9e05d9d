-- The lines of a record after its header: where the lists begin, and what they say one after another.
use Rattle.std.proofs.Common.{◌++◌, ◌+◌, ◌==◌, ◌∙◌, ◌∷◌, ◌≡◌, ◌≤◌, [], All, ap, append_assoc, arith, Bool, cond, drop}
use Rattle.std.proofs.Common.{Err, false, length, List, map, None, Ok, Option, refl, Result, Some, subst, sym, take}
use Rattle.std.{proofs.{Common.{true, ℕ}, lemmas.List.Elements.{All-head, All-tail}}, specs.List.{find, prefix_len}}
use Rattle.fc_board.specs.{Boards.{Board}, Games.{Game}, Moves.{MoveList}}
use Rattle.fc_text.proofs.MovesReadLemmas.{read-BadTokenAt, read-Listed, read-TooManyAt}
use Rattle.fc_text.proofs.{NextLineLemmas.{piece_within}, PlaceLemmas.{missing_at_end, others_within}}
use Rattle.fc_text.{proofs.{TokenLemmas.{Reads}, WordLemmas.{words-are_pieces}}, specs.Bytes.{is_gap, number_sign}}
use Rattle.fc_text.specs.Faults.{first_fault}
use Rattle.fc_text.specs.Lines.{IsPieceOf, lines_from, moved, Piece, trim_carriage_return, words_from}
use Rattle.fc_text.specs.Notation.{BadToken, BadTokenAt, Listed, listed_by, ListFault, separates_tokens, TooMany}
use Rattle.fc_text.specs.{Notation.{TooManyAt}, Rows.{Comment, Content, is_empty, line_of, line_of_front, row_of}}
use Rattle.fc_text.specs.Spelling.{board_of}
use Rattle.fc_text.specs.declared.fault.MovesFault.{MovesFault}
use Rattle.fc_record.specs.Grammar.{begins_with, Contents, contents_of, contents_with, fault_at, list_fault, list_mark}
use Rattle.fc_record.specs.Grammar.{list_read, list_with, lists_of, lists_start, with_list}
use Rattle.fc_record.specs.inside.{IfFaultOf, IsFirstFault, IsNoFurther, unread_for}
use Rattle.fc_text.specs.declared.fault.MovesFault.TheVariants as list
use Rattle.fc_text.specs.declared.fault.{BoardFault.{BoardFault}, BoardFaultKind.{BoardFaultKind}}
use Rattle.fc_text.specs.declared.fault.BoardFaultKind.TheVariants.{BadCard, BadFoundation, MissingCard, RepeatedCard}
use Rattle.fc_text.specs.declared.fault.BoardFaultKind.TheVariants.{RepeatedLine, TooManyCells, TooManyColumns}
use Rattle.fc_record.specs.declared.record.body.Unread.{TheVariants.{Fault, Memory}, Unread}
use Rattle.fc_record.specs.declared.record.{RecordFault.{RecordFault}, RecordFaultKind.TheVariants.{StrayLine}}

-- ---- places are within the text

pub at_place : {X : Type 0} (P : X → Type 0) (before : List X) (item : X) (later : List X) → All P (before ++ item ∷ later) → P item
at_place P [] item later all = All-head P item later all
at_place P (first ∷ before) item later all = at_place P before item later (All-tail P first (before ++ item ∷ later) all)

pub word_within : (text : List ℕ) (before : List Piece) (word : Piece) (later : List Piece) → words_from separates_tokens 0 text ≡ before ++ word ∷ later → word.start ≤ length text
word_within text before word later e =
    let is_piece = at_place (IsPieceOf 0 text) before word later (subst (All (IsPieceOf 0 text)) e (words-are_pieces separates_tokens 0 text)) in
    let inside = piece_within text word is_piece in
    omega (arith, inside)

pub fault_within : (game : Game) (text : List ℕ) (fault : BoardFault) → first_fault game text ≡ Some fault → fault.place ≤ length text
fault_within game text fault e = by_kind fault.place fault.kind e
  where
    by_kind : (place : ℕ) (kind : BoardFaultKind) → first_fault game text ≡ Some (record { place = place; kind = kind }) → place ≤ length text
    by_kind place (MissingCard card) e = let end = missing_at_end game text place card e in omega (arith, end)
    by_kind place BadCard e = let inside = others_within game text _ e (λ card. λ same. cc) in omega (arith, inside)
    by_kind place TooManyColumns e = let inside = others_within game text _ e (λ card. λ same. cc) in omega (arith, inside)
    by_kind place TooManyCells e = let inside = others_within game text _ e (λ card. λ same. cc) in omega (arith, inside)
    by_kind place BadFoundation e = let inside = others_within game text _ e (λ card. λ same. cc) in omega (arith, inside)
    by_kind place RepeatedLine e = let inside = others_within game text _ e (λ card. λ same. cc) in omega (arith, inside)
    by_kind place RepeatedCard e = let inside = others_within game text _ e (λ card. λ same. cc) in omega (arith, inside)

-- ---- the first list

-- the line is that of a list
abbrev pub begins_list : Piece → Bool
begins_list line = begins_with list_mark line.bytes

pub first_list-here : (lines later : List Piece) (line : Piece) → lines ≡ line ∷ later → begins_list line ≡ true → find begins_list lines ≡ Some line
first_list-here lines later line e here = ap (find begins_list) e ∙ ap (λ b. cond b (Some line) (find begins_list later)) here

pub first_list-later : (lines later : List Piece) (line : Piece) → lines ≡ line ∷ later → begins_list line ≡ false → find begins_list lines ≡ find begins_list later
first_list-later lines later line e on = ap (find begins_list) e ∙ ap (λ b. cond b (Some line) (find begins_list later)) on

-- ---- lists one after another

-- these lists, and then what later lines say
abbrev pub after_seen : List MoveList → Result (List MoveList) RecordFault → Result (List MoveList) RecordFault
after_seen seen (Ok later) = Ok (seen ++ later)
after_seen seen (Err fault) = Err fault

pub after_seen-none : (said : Result (List MoveList) RecordFault) → after_seen [] said ≡ said
after_seen-none (Ok later) = refl
after_seen-none (Err fault) = refl

after_seen-list : (seen : List MoveList) (list : MoveList) (later : Result (List MoveList) RecordFault) → after_seen seen (with_list (Ok list) later) ≡ after_seen (seen ++ list ∷ []) later
after_seen-list seen list (Ok lists) = ap Ok (sym (append_assoc seen (list ∷ []) lists))
after_seen-list seen list (Err fault) = refl

empty-anywhere : (place other : ℕ) (bytes : List ℕ) → is_empty (line_of_front place bytes) ≡ is_empty (line_of_front other bytes)
empty-anywhere place other [] = refl
empty-anywhere place other (byte ∷ rest) = by_test (byte == number_sign)
  where
    by_test : (b : Bool) → is_empty (cond b Comment (Content (row_of place (byte ∷ rest)))) ≡ is_empty (cond b Comment (Content (row_of other (byte ∷ rest))))
    by_test true = refl
    by_test false = refl

moved-empty : (place : ℕ) (line : Piece) → is_empty (line_of (moved place line)) ≡ is_empty (line_of line)
moved-empty place line =
    let bytes = trim_carriage_return line.bytes in
    empty-anywhere (place + line.start + prefix_len is_gap bytes) (line.start + prefix_len is_gap bytes) (drop (prefix_len is_gap bytes) bytes)

module _ (game : Game) (place : ℕ) (lines later : List Piece) (line : Piece) (e : lines ≡ line ∷ later) where
  -- what the lines say, in a text whose first byte has this place
  abbrev said : List Piece → Result (List MoveList) RecordFault
  said lines = lists_of game (map (moved place) lines)

  by_tests : (list empty : Bool) → begins_list line ≡ list → is_empty (line_of line) ≡ empty
      → said lines ≡ cond list (with_list (list_read game (place + line.start) line.bytes) (said later)) (cond empty (said later) (Err (fault_at (place + line.start) StrayLine)))
  by_tests list empty e_list e_empty =
      ap said e
      ∙ ap (λ b. cond b (with_list (list_read game (place + line.start) line.bytes) (said later)) (cond (is_empty (line_of (moved place line))) (said later) (Err (fault_at (place + line.start) StrayLine)))) e_list
      ∙ ap (λ b. cond list (with_list (list_read game (place + line.start) line.bytes) (said later)) (cond b (said later) (Err (fault_at (place + line.start) StrayLine)))) (moved-empty place line ∙ e_empty)

  pub list-read : (seen : List MoveList) (list : MoveList) → begins_list line ≡ true → list_read game (place + line.start) line.bytes ≡ Ok list → after_seen seen (said lines) ≡ after_seen (seen ++ list ∷ []) (said later)
  list-read seen list marked read =
      ap (after_seen seen) (by_tests true (is_empty (line_of line)) marked refl ∙ ap (λ read. with_list read (said later)) read) ∙ after_seen-list seen list (said later)

  pub empty-skipped : (seen : List MoveList) → begins_list line ≡ false → is_empty (line_of line) ≡ true → after_seen seen (said lines) ≡ after_seen seen (said later)
  empty-skipped seen list empty = ap (after_seen seen) (by_tests false true list empty)

-- ---- a board and the lists after it

module _ (game : Game) (place : ℕ) (body : List ℕ) (start : ℕ) (starts : start ≡ lists_start body) (faultless : first_fault game (take start body) ≡ None) where
  -- what the body says where its lists begin here
  abbrev said_from : ℕ → Result Contents RecordFault
  said_from at = contents_with place (first_fault game (take at body)) (lists_of game (lines_from (place + at) (drop at body))) (board_of game (take at body))

  by_lists : contents_of game place body ≡ contents_with place None (lists_of game (lines_from (place + start) (drop start body))) (board_of game (take start body))
  by_lists =
      ap said_from (sym starts)
      ∙ ap (λ fault. contents_with place fault (lists_of game (lines_from (place + start) (drop start body))) (board_of game (take start body))) faultless

  pub contents-read : (board : Board) (lists : List MoveList) → board ≡ board_of game (take start body)
      → lists_of game (lines_from (place + start) (drop start body)) ≡ Ok lists → contents_of game place body ≡ Ok (record { board = board; lists = lists })
  contents-read board lists one read =
      by_lists
      ∙ ap (λ lists. contents_with place None lists (board_of game (take start body))) read
      ∙ ap (λ board. contents_with place None (Ok lists) board) (sym one)

  pub contents-at_fault : (fault : RecordFault) → lists_of game (lines_from (place + start) (drop start body)) ≡ Err fault → contents_of game place body ≡ Err fault
  contents-at_fault fault read = by_lists ∙ ap (λ lists. contents_with place None lists (board_of game (take start body))) read

pub IfFaultOf-weaker : (P Q : RecordFault → Type 0) → ((fault : RecordFault) → P fault → Q fault) → (unread : Unread) → IfFaultOf P unread → IfFaultOf Q unread
IfFaultOf-weaker P Q weaker (Fault fault) is = weaker fault is
IfFaultOf-weaker P Q weaker Memory is = is

-- ---- a list that is not read

-- what the reader of a list says of its faults: each is at a word of the text
fault-placed : {Item A : Type 0} (IsToken : List ℕ → Item → Type 0) (text : List ℕ) (result : Result A MovesFault) (fault : MovesFault) → result ≡ Err fault
    → ((place : ℕ) → result ≡ Err (list.BadToken place) → BadTokenAt IsToken text place) → ((place : ℕ) → result ≡ Err (list.TooMany place) → TooManyAt IsToken text place)
    → IsNoFurther (length text) fault
fault-placed IsToken text result (list.BadToken at) is bad many =
    let found = bad at is in let inside = word_within text found.good found.word found.later found.words_are in omega (arith, inside, found.starts)
fault-placed IsToken text result (list.TooMany at) is bad many =
    let found = many at is in let inside = word_within text found.good found.word found.later found.words_are in omega (arith, inside, found.starts)
fault-placed IsToken text result list.Memory is bad many = tt

IsNoFurther-weaker : (low high : ℕ) (fault : MovesFault) → low ≤ high → IsNoFurther low fault → IsNoFurther high fault
IsNoFurther-weaker low high (list.BadToken at) less near = omega (arith, less, near)
IsNoFurther-weaker low high (list.TooMany at) less near = omega (arith, less, near)
IsNoFurther-weaker low high list.Memory less near = tt

pub fault-near : {Item A : Type 0} (IsToken : List ℕ → Item → Type 0) (text : List ℕ) (most : ℕ) (result : Result A MovesFault) (fault : MovesFault) → length text ≤ most → result ≡ Err fault
    → ((place : ℕ) → result ≡ Err (list.BadToken place) → BadTokenAt IsToken text place) → ((place : ℕ) → result ≡ Err (list.TooMany place) → TooManyAt IsToken text place)
    → IsNoFurther most fault
fault-near IsToken text most result fault less is bad many = IsNoFurther-weaker (length text) most fault less (fault-placed IsToken text result fault is bad many)

-- and it is the first fault of the text
pub unread-first : {Item A : Type 0} (IsToken : List ℕ → Item → Type 0) (place : ℕ) (text : List ℕ)
    (result : Result A MovesFault) (fault : MovesFault) → result ≡ Err fault
    → ((at : ℕ) → result ≡ Err (list.BadToken at) → BadTokenAt IsToken text at)
    → ((at : ℕ) → result ≡ Err (list.TooMany at) → TooManyAt IsToken text at)
    → IfFaultOf (λ fault. (found : ListFault) × (fault ≡ list_fault place found) × IsFirstFault IsToken text found)
    (unread_for place fault)
unread-first IsToken place text result (list.BadToken at) is bad many = (BadToken at, refl, bad at is)
unread-first IsToken place text result (list.TooMany at) is bad many = (TooMany at, refl, many at is)
unread-first IsToken place text result list.Memory is bad many = tt

-- what a line says after its marks, by what its words name
module _ {Item : Type 0} (IsToken : List ℕ → Item → Type 0) (named : List ℕ → Option Item) (reads : Reads IsToken named)
    (form : List Item → MoveList) (place : ℕ) (text : List ℕ) (said : Result MoveList RecordFault)
    (says : list_with form place (listed_by named (words_from separates_tokens 0 text)) ≡ said) where
  pub said-listed : (moves : List Item) → Listed IsToken text moves → said ≡ Ok (form moves)
  said-listed moves listed = sym says ∙ ap (list_with form place) (read-Listed IsToken named reads text moves listed)

  pub said-fault : (fault : RecordFault)
      → ((found : ListFault) × (fault ≡ list_fault place found) × IsFirstFault IsToken text found) → said ≡ Err fault
  said-fault fault (BadToken at, same, is) =
      sym says ∙ ap (list_with form place) (read-BadTokenAt IsToken named reads text at is) ∙ ap Err (sym same)
  said-fault fault (TooMany at, same, is) =
      sym says ∙ ap (list_with form place) (read-TooManyAt IsToken named reads text at is) ∙ ap Err (sym same)

pub unread-small : (place most : ℕ) (fault : MovesFault) → IsNoFurther most fault → IfFaultOf (λ fault. fault.place ≤ place + most) (unread_for place fault)
unread-small place most (list.BadToken at) near = omega (arith, near)
unread-small place most (list.TooMany at) near = omega (arith, near)
unread-small place most list.Memory near = tt
