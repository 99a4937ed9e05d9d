-- What fcanon prints is imported as it is.
use Rattle.std.proofs.Common.{◌++◌, ◌<◌, ◌∙◌, ◌∷◌, ◌≡◌, ◌≢◌, ◌≤◌, ◌⊎◌, [], All, ap, append-nil, append_assoc, ap₂}
use Rattle.std.proofs.Common.{arith, false, get_or, inl, inr, length, List, not, Option, refl, Some, subst, sym, true}
use Rattle.std.proofs.{Common.{ℕ}, lemmas.List.Elements.{All-cons, All-nil, All-weaker}}
use Rattle.fc_board.specs.{Boards.{Board, IsWellFormed}, Games.{Game}}
use Rattle.fc_board.specs.{Moves.{Fits, ListFits, move_count, MoveList, OneCard, RunFits, Runs}, Play.{Legal, Played}}
use Rattle.fc_board.specs.Steps.{RunStep, Step}
use Rattle.fc_board.specs.declared.{moves.Move.{Move}, rule.Variant.TheVariants.{BakersGame, EightOff, FreeCell}}
use Rattle.fc_board.specs.declared.{rule.Variant.{Variant}, run_move.RunMove.{RunMove, TheVariants.{One, Run}}}
use Rattle.fc_text.proofs.ListedLemmas.{listed_or_bad, listed_or_too_many, one_list, one_listing}
use Rattle.fc_text.proofs.{PrintedTextLemmas.{text_spells}, PrintLemmas.{print-Listed, print_runs-Listed}}
use Rattle.fc_text.{proofs.RunTokenLemmas.{one_run}, specs.Lines.{lines_from}}
use Rattle.fc_text.specs.Notation.{BadTokenAt, IsRunToken, IsToken, Listed, most_moves, print, TooManyAt}
use Rattle.fc_text.specs.{Printed.{text_of}, Spelling.{Spells}}
use Rattle.fc_text.specs.declared.fault.MovesFault.{MovesFault, TheVariants.{BadToken, Memory, TooMany}}
use Rattle.fc_record.proofs.{PrintedPartLemmas.{IsPlain, lines_of_board}, TextLineLemmas.{ends-after}}
use Rattle.fc_record.specs.{Grammar.{begins_with, heading_of, is_name, list_mark}, Printing.{header_text, list_line}}
use Rattle.fc_record.specs.RecordTexts.{ends_line, header_mark}
use Rattle.fc_import.{proofs.TakingLemmas.{one_taken_more, taken}, specs.Import.{a_board, a_list, BoardNeedsNoNote}}
use Rattle.fc_import.specs.Import.{HasNoHeader, IsHeading, IsNamed, IsPrinted, list_next, ListNeedsNoNote, Names}
use Rattle.fc_import.specs.Import.{nothing, printed, record_next}
use Rattle.fc_import.specs.inside.{form_of, GoesOn, IsMade, state_of, Takes, TakesName}
use Rattle.fc_import.specs.Notes.{after, name_by, names_game}
use Rattle.fc_import.specs.declared.options.Noted.{Noted, TheVariants.{Changes, Doubts, Strict}}
use Rattle.fc_import.specs.declared.made.Form.TheVariants as in_form
use Rattle.fc_import.specs.declared.{made.Made.{Made}, tally.Fate.TheVariants.{ABoard, AList}}

-- ---- lists

-- what leads from board to board fits
all_fit : {Item : Type 0} (Leads : Board → Item → Board → Type 0) (P : Item → Type 0)
    → ((board : Board) (item : Item) (after : Board) → Leads board item after → P item)
    → (items : List Item) (board after : Board)
    → Played Leads board items after → All P items
all_fit Leads P fits [] board after played = All-nil P
all_fit Leads P fits (item ∷ items) board after (between, leads, played) =
    All-cons P item items (fits board item between leads) (all_fit Leads P fits items between after played)

run_fits : (game : Game) (board : Board) (move : RunMove) (after : Board) → RunStep game board move after
    → RunFits game move
run_fits game board (One move) after (other, step) = (step.fits, other)
run_fits game board (Run from to said) after (fits, goes) = fits

-- the moves of a legal list fit
pub legal_fits : (game : Game) (board : Board) (list : MoveList) → Legal game board list → ListFits game list
legal_fits game board (OneCard moves) (after, played) =
    all_fit (Step game) (Fits game) (λ board move after step. step.fits) moves board after played
legal_fits game board (Runs moves) (after, played) = all_fit (RunStep game) (RunFits game)
    (run_fits game) moves board after played

module _ (game : Game) (few : game.cells ≤ 8) where
  -- the printed moves of a list name them
  pub printed_names : (list : MoveList) → ListFits game list → move_count list ≤ most_moves
      → Names game (print list) list
  printed_names (OneCard moves) fits short = print-Listed game moves few fits short
  printed_names (Runs moves) fits short = print_runs-Listed game moves few fits short

  module _ (words : List ℕ) (list : MoveList) (names : Names game words list) where
    -- moves of one card that are read where the words name a list in that form are its moves
    pub same_moves : in_form.OneCard ≡ form_of list → (moves : List Move) → Listed (IsToken game) words moves
        → OneCard moves ≡ list
    same_moves form moves listed = by list form names
      where
        by : (list : MoveList) → in_form.OneCard ≡ form_of list → Names game words list → OneCard moves ≡ list
        by (OneCard others) form names = ap OneCard (one_list game words moves others few listed names)
        by (Runs others) form names = absurd (cc)

    -- and so are those of several
    pub same_runs : in_form.Runs ≡ form_of list → (moves : List RunMove) → Listed (IsRunToken game) words moves
        → Runs moves ≡ list
    same_runs form moves listed = by list form names
      where
        by : (list : MoveList) → in_form.Runs ≡ form_of list → Names game words list → Runs moves ≡ list
        by (OneCard others) form names = absurd (cc)
        by (Runs others) form names = ap Runs (one_listing (IsRunToken game)
            (one_run game few) words moves others listed names)

    listed_one : in_form.OneCard ≡ form_of list → (moves : List Move) × Listed (IsToken game) words moves
    listed_one form = by list form names
      where
        by : (list : MoveList) → in_form.OneCard ≡ form_of list → Names game words list
            → (moves : List Move) × Listed (IsToken game) words moves
        by (OneCard moves) form names = (moves, names)
        by (Runs moves) form names = absurd (cc)

    listed_runs : in_form.Runs ≡ form_of list → (moves : List RunMove) × Listed (IsRunToken game) words moves
    listed_runs form = by list form names
      where
        by : (list : MoveList) → in_form.Runs ≡ form_of list → Names game words list
            → (moves : List RunMove) × Listed (IsRunToken game) words moves
        by (OneCard moves) form names = absurd (cc)
        by (Runs moves) form names = (moves, names)

    -- where the words name a list, reading it fails for want of memory alone
    pub only_memory : in_form.OneCard ≡ form_of list → (fault : MovesFault)
        → ((place : ℕ) → fault ≡ BadToken place → BadTokenAt (IsToken game) words place)
        → ((place : ℕ) → fault ≡ TooMany place → TooManyAt (IsToken game) words place) → fault ≡ Memory
    only_memory form (BadToken place) bad many =
        let (moves, listed) = listed_one form in absurd (listed_or_bad (IsToken game) words moves place listed
        (bad place refl))
    only_memory form (TooMany place) bad many =
        let (moves, listed) = listed_one form in absurd (listed_or_too_many (IsToken game) words moves place listed
        (many place refl))
    only_memory form Memory bad many = refl

    pub only_memory_runs : in_form.Runs ≡ form_of list → (fault : MovesFault)
        → ((place : ℕ) → fault ≡ BadToken place → BadTokenAt (IsRunToken game) words place)
        → ((place : ℕ) → fault ≡ TooMany place → TooManyAt (IsRunToken game) words place) → fault ≡ Memory
    only_memory_runs form (BadToken place) bad many =
        let (moves, listed) = listed_runs form in absurd (listed_or_bad (IsRunToken game) words moves place listed
        (bad place refl))
    only_memory_runs form (TooMany place) bad many =
        let (moves, listed) = listed_runs form in absurd (listed_or_too_many
        (IsRunToken game) words moves place listed (many place refl))
    only_memory_runs form Memory bad many = refl

-- ---- boards

-- the lines of a printed board are no headers
pub no_header_board : (game : Game) (board : Board) → IsWellFormed game board → HasNoHeader (text_of board)
no_header_board game board well =
    let are = lines_of_board game board well in
    All-weaker (λ line. IsPlain line.bytes) (λ line. begins_with header_mark line.bytes ≡ false) (λ line is. is.0)
    (lines_from 0 (text_of board)) (are.lines 0)

-- nothing is noted of a board as it is printed
pub board_unnoted : (noted : Noted) (game : Game) (piece : List ℕ) (board : Board) → IsWellFormed game board
    → piece ≡ text_of board → BoardNeedsNoNote noted game piece board
board_unnoted Doubts game piece board well is = (
  inl (subst (λ piece. Spells game piece board) (sym is)
      (text_spells game board well)),
  inr is,
)
board_unnoted Changes game piece board well is = is
board_unnoted Strict game piece board well is = is

-- nor of a list
pub list_unnoted : (noted : Noted) (game : Game) (piece : List ℕ) (list : MoveList) → piece ≡ list_line list
    → ListNeedsNoNote noted game piece list
list_unnoted Doubts game piece list is = inl is
list_unnoted Changes game piece list is = is
list_unnoted Strict game piece list is = is

-- a list begins with its mark, and a header names its game
marked : (list : MoveList) → begins_with list_mark (list_line list) ≡ true
marked (OneCard moves) = refl
marked (Runs moves) = refl

this_game : (variant : Variant) (name : List ℕ) → names_game variant (header_text variant name) ≡ true
this_game FreeCell name = refl
this_game BakersGame name = refl
this_game EightOff name = refl

-- ---- what is taken in its turn

module _ {R : Type 0} (variant : Variant) (game : Game) where
  -- a header or a piece goes on after what was taken
  pub goes_on : (piece : List ℕ) (old new : Made R) → (IsHeading piece × TakesName variant piece old new) ⊎
      (HasNoHeader piece × Takes variant game piece old new)
      → GoesOn variant game piece old new
  goes_on piece old new taken = λ options before ends made.
      let more = one_taken_more variant options game before piece old new in
      more ends made taken

  -- what is taken after whole lines
  pub goes_on_twice : (first next : List ℕ) (old between new : Made R) → ends_line first ≡ true
      → GoesOn variant game first old between
      → GoesOn variant game next between new → GoesOn variant game (first ++ next) old new
  goes_on_twice first next old between new ends one two = λ options before ended made.
      subst (λ text. IsMade variant options game text new) (append_assoc before first next)
      (two options (before ++ first) (ends-after before first ended ends) (one options before ended made))

  -- a board as it is printed, after the header that names it
  pub board_kept : (line piece name : List ℕ) (board : Board) (old between new : Made R)
      → TakesName variant line old between
      → name ≡ name_by (heading_of variant line) → name ≢ [] → line ≡ header_text variant name
      → IsWellFormed game board → piece ≡ text_of board
      → state_of new ≡ after (state_of between) piece (Some board) ABoard
      → new.written.items ≡ between.written.items ++ (line ++ piece)
      → new.notes.items ≡ between.notes.items → Takes variant game piece between new
  board_kept line piece name board old between new names name_is some_name line_is well piece_is state written notes =
      taken variant game piece between new (after (state_of between) piece (Some board) ABoard) state
      (header_text variant name ++ text_of board) []
      (a_board name board [] (ap (λ state. state.other_game) names.state ∙ ap (λ line. not (names_game variant line)) line_is ∙ ap not (this_game variant name)) (subst (λ state. IsNamed state name) (sym names.state)
      (record {
        by_header = λ some. name_is;
        alone = λ none. absurd (some_name (name_is
            ∙ none));
      })) well (inr (inr piece_is))
      (printed piece_is)
      (inl (board_unnoted between.options.noted game piece board well piece_is, refl)))
      (written ∙ ap₂ (λ line piece. between.written.items ++ (line ++ piece)) line_is piece_is) (notes
      ∙ sym (append-nil between.notes.items))

  -- a list as it is printed
  pub list_kept : (piece : List ℕ) (board : Board) (list : MoveList) (old new : Made R) → old.last ≡ Some board
      → Legal game board list → move_count list ≤ most_moves → piece ≡ list_line list
      → state_of new ≡ after (state_of old) piece old.last AList → new.written.items ≡ old.written.items ++ piece
      → new.notes.items ≡ old.notes.items → Takes variant game piece old new
  list_kept piece board list old new last legal few piece_is state written notes =
      taken variant game piece old new (after (state_of old) piece old.last AList) state (list_line list) []
      (a_list board list [] (inr (inl (ap (begins_with list_mark) piece_is ∙ marked list))) last legal few (inl piece_is) (inl (list_unnoted old.options.noted game piece list piece_is, refl)))
      (written ∙ ap (λ piece. old.written.items ++ piece) piece_is) (notes ∙ sym (append-nil old.notes.items))

-- ---- a text that fcanon prints

-- what such a text begins with
pub data Begins (variant : Variant) (game : Game) (last : Option Board) (text : List ℕ) : Type 0 where
  with_record : (name : List ℕ) (board : Board) (rest : List ℕ) → is_name name ≡ true → name ≢ []
      → IsWellFormed game board
      → IsPrinted variant game (Some board) rest → text ≡ header_text variant name ++ (text_of board ++ rest)
      → Begins variant game last text
  with_list : (board : Board) (list : MoveList) (rest : List ℕ) → last ≡ Some board → Legal game board list
      → move_count list ≤ most_moves
      → IsPrinted variant game (Some board) rest → text ≡ list_line list ++ rest → Begins variant game last text

pub begins : (variant : Variant) (game : Game) (last : Option Board) (text : List ℕ)
    → IsPrinted variant game last text → 0 < length text → Begins variant game last text
begins variant game first text (nothing last) some = absurd (omega (arith, some))
begins variant game first text (record_next last name board rest named some_name well more) some = with_record name
    board rest named some_name well more refl
begins variant game first text (list_next board list rest legal few more) some = with_list board list rest refl legal
    few more refl

pub front_of_header : (variant : Variant) (name rest : List ℕ)
    → get_or (header_text variant name ++ rest) 0 0 ≡ header_mark
front_of_header FreeCell name rest = refl
front_of_header BakersGame name rest = refl
front_of_header EightOff name rest = refl

pub front_of_list : (list : MoveList) (rest : List ℕ) → get_or (list_line list ++ rest) 0 0 ≡ list_mark
front_of_list (OneCard moves) rest = refl
front_of_list (Runs moves) rest = refl
