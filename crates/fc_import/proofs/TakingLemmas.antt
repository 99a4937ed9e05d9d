-- Lemmas on pieces of a text, and on the words of texts.
use Rattle.std.proofs.Common.{◌++◌, ◌+◌, ◌<◌, ◌↔◌, ◌∙◌, ◌∷◌, ◌≡◌, ◌≢◌, ◌≤◌, ◌⊎◌, [], All, ap, append-nil, append_assoc}
use Rattle.std.proofs.Common.{ap₂, arith, Bool, drop, false, if◌then◌else◌, inl, inr, IsTrue, length, List, map, None}
use Rattle.std.proofs.{Common.{refl, Some, subst, subst₂, suc, sym, true, zero, ℕ}, lemmas.Bool.Decides.{leb_tells}}
use Rattle.std.proofs.lemmas.List.{at_drop_more, drop_all, Elements.{All-cons, All-nil}}
use Rattle.std.proofs.lemmas.{List.FromFn.{get_or-range_with_len, length-range_with_len}, Option.{slice_get_past}}
use Rattle.std.specs.{List.{flat_map}, Option.{option_to_list}, Prelude.{slice_get}}
use Rattle.{fc_board.specs.{Boards.{Board, IsWellFormed}, Games.{Game}, Moves.{MoveList}}, fc_card.specs.{places}}
use Rattle.{fc_board.specs.declared.rule.Variant.{Variant}, fc_text.specs.declared.fault.BoardFault.{BoardFault}}
use Rattle.fc_text.proofs.{ReadingLemmas.{faultless-from_Spells, Spells-board_of}, SpellingLemmas.{spelled}}
use Rattle.fc_text.specs.{Faults.{first_fault}, Lines.{Piece, with_end}, Printed.{text_of}, Spelling.{Spells}}
use Rattle.fc_record.specs.{Printing.{header_text, list_line}, RecordTexts.{ends_line}}
use Rattle.fc_import.{proofs.SilenceLemmas.{both_empty}, specs.Import.{a_board, AreLists, BoardNeedsNoNote, CanBe}}
use Rattle.fc_import.specs.Import.{HasLines, HasNoHeader, headed, Imported, IsHeading, IsNamed, IsReadAs}
use Rattle.fc_import.specs.Import.{ListNeedsNoNote, none_yet, once_more, one_more, Reading, SpellsOut}
use Rattle.fc_import.specs.inside.{IsMade, part, printing, Says, state_of, Takes, TakesName}
use Rattle.fc_import.specs.{Notes.{after, first_state, State, tally_of}, Scan.{named_cards}, Words.{ended, is_between}}
use Rattle.fc_import.specs.declared.{made.Made.{Made}, options.ImportOptions.{ImportOptions}}
use Rattle.fc_import.specs.declared.options.{LinesAre.TheVariants.{Columns as AsColumns}, Noted.{Noted}}
use Rattle.fc_import.specs.declared.options.Noted.TheVariants.{Changes, Doubts, Strict}
use Rattle.fc_import.specs.declared.tally.{Fate.TheVariants.{ABoard, Again, Passed}, Tally.{Tally}}

-- words with the places of their ends are the same words
pub without_ends : (words : List Piece) → map (λ left. left.0.bytes) (map with_end words) ≡ map (λ word. word.bytes) words
without_ends [] = refl
without_ends (word ∷ words) = ap (λ rest. word.bytes ∷ rest) (without_ends words)

-- ---- going over places in their order

-- what one place gives has been taken
pub one_place : (of : ℕ → List ℕ) (count place : ℕ) (taken grown whole : List ℕ) → place < count → taken ++ flat_map of (drop place (places count)) ≡ whole → grown ≡ taken ++ of place
    → grown ++ flat_map of (drop (place + 1) (places count)) ≡ whole
one_place of count place taken grown whole inside is grows =
    let long : place < length (places count) = omega (arith, length-range_with_len 0 count) in
    let there = get_or-range_with_len 0 count place 0 inside in
    let same : 0 + place ≡ place = omega arith in
    ap (λ front. front ++ flat_map of (drop (place + 1) (places count))) (grows ∙ ap (λ at. taken ++ of at) (sym (there ∙ same)))
    ∙ append_assoc taken _ _
    ∙ sym (ap (λ more. taken ++ more) (at_drop_more (flat_map of) (places count) place 0 long))
    ∙ is

-- what all places give has been taken
pub all_places : (of : ℕ → List ℕ) (count place : ℕ) (taken whole : List ℕ) → count ≤ place → taken ++ flat_map of (drop place (places count)) ≡ whole → taken ≡ whole
all_places of count place taken whole past is =
    let long : length (places count) ≤ place = omega (arith, length-range_with_len 0 count) in
    sym (append-nil taken) ∙ sym (ap (λ left. taken ++ flat_map of left) (drop_all place (places count) long)) ∙ is

-- and so has it where no later place gives anything
pub none_later : (of : ℕ → List ℕ) (count more place : ℕ) → count ≤ place + more → ((later : ℕ) → place ≤ later → of later ≡ [])
    → (taken whole : List ℕ) → taken ++ flat_map of (drop place (places count)) ≡ whole → taken ≡ whole
none_later of count zero place near none taken whole is = all_places of count place taken whole (omega (arith, near)) is
none_later of count (suc more) place near none taken whole is = elim (leb_tells count place) [
  | inl past ↦ all_places of count place taken whole past.1 is
  | inr inside ↦
      let here = sym (append-nil taken) ∙ sym (ap (λ front. taken ++ front) (none place (omega arith))) in
      none_later of count more (place + 1) (omega (arith, near)) (λ later after. none later (omega (arith, after))) taken whole
      (one_place of count place taken taken whole inside.1 is here)
]

-- a row past the ends of all columns has no card
pub past_rows : (columns : List (List ℕ)) (row later : ℕ) → row ≤ later → All (λ column. length column ≤ row) columns
    → flat_map (λ column. option_to_list (slice_get column later)) columns ≡ []
past_rows [] row later after past = refl
past_rows (column ∷ columns) row later after past =
    let short : length column ≤ row = past 0 [] (omega arith) in
    let low : length column ≤ later = omega (arith, short, after) in
    ap₂ (λ front rest. front ++ rest) (ap option_to_list (slice_get_past column later low))
    (past_rows columns row later after (λ place none inside. past (suc place) none (omega (arith, inside))))

-- what has no card has no end
pub no_part : (is_ended : Bool) → part is_ended [] ≡ []
no_part true = refl
no_part false = refl

-- lines that name no card have no end
pub no_ends : (lines : List Piece) → flat_map (λ line. named_cards line.bytes) lines ≡ [] → flat_map (λ line. ended (named_cards line.bytes)) lines ≡ []
no_ends [] none = refl
no_ends (line ∷ lines) none =
    let parts = both_empty (named_cards line.bytes) (flat_map (λ line. named_cards line.bytes) lines) none in
    ap₂ (λ first rest. first ++ rest) (ap ended parts.0) (no_ends lines parts.1)

-- ---- taking pieces of a text

-- nothing was taken yet
abbrev state_begun : ImportOptions → List ℕ → Tally → State
state_begun options name tally =
    record { options = options; last = None; begun = false; goes_on = false; other_game = false; place = record { name = name; header = 0; line = 1 }; named = 0; tally = tally }

pub begun : (variant : Variant) (options : ImportOptions) (game : Game) (name written notes : List ℕ) (tally : Tally) → name ≡ []
    → written ≡ [] → notes ≡ [] → tally ≡ tally_of Passed
    → Imported variant options game [] (state_begun options name tally) written notes
begun variant options game name written notes tally no_name no_text silent none =
    subst₂ (λ name tally. Imported variant options game [] (state_begun options name tally) written notes) (sym no_name) (sym none)
    (subst₂ (Imported variant options game [] (first_state options)) (sym no_text) (sym silent) none_yet)

module _ {R : Type 0} (variant : Variant) (game : Game) (piece : List ℕ) (old new : Made R) (next : State) (state : state_of new ≡ next) where
  -- this is written, and this said
  pub taken : (more says : List ℕ) → Reading variant game (state_of old) piece next more says → new.written.items ≡ old.written.items ++ more → new.notes.items ≡ old.notes.items ++ says
      → Takes variant game piece old new
  taken more says reading written notes = (more, says, subst (λ next. Reading variant game (state_of old) piece next more says) (sym state) reading, written, notes)

  -- nothing is written, and this said
  pub noted : (says : List ℕ) → Reading variant game (state_of old) piece next [] says → new.written.items ≡ old.written.items → new.notes.items ≡ old.notes.items ++ says → Takes variant game piece old new
  noted says reading written notes = taken [] says reading (written ∙ sym (append-nil old.written.items)) notes

  -- nothing is written, and nothing said
  pub silent : Reading variant game (state_of old) piece next [] [] → new.written.items ≡ old.written.items → new.notes.items ≡ old.notes.items → Takes variant game piece old new
  silent reading written notes = noted [] reading written (notes ∙ sym (append-nil old.notes.items))

-- ---- boards

-- `show` reads lines as one board
pub read_alone : (game : Game) (piece : List ℕ) (read board : Board) → Spells game piece read → Spells game piece board
    → read ≡ board
read_alone game piece read board spells spelled =
    Spells-board_of game piece read spells ∙ sym (Spells-board_of game piece board spelled)

-- and where it finds a fault, none
pub none_read : (game : Game) (piece : List ℕ) (board : Board) (fault : BoardFault)
    → first_fault game piece ≡ Some fault → ¬ Spells game piece board
none_read game piece board fault is spelled =
    let e = sym is ∙ faultless-from_Spells game piece board spelled in cc

-- lines that spell out a board, and that `show` does not read as it, are its lines
pub spelled_by_lines : (game : Game) (piece : List ℕ) (board : Board) → ¬ Spells game piece board → SpellsOut game piece board
    → HasLines piece board
spelled_by_lines game piece board unread (inl spelled) = absurd (unread spelled)
spelled_by_lines game piece board unread (inr lines) = lines

-- lines that need no note of a board need none where doubts alone are noted
pub board_needs_none : (asked : Noted) (game : Game) (piece : List ℕ) (board : Board) → IsWellFormed game board
    → BoardNeedsNoNote asked game piece board → BoardNeedsNoNote Doubts game piece board
board_needs_none Doubts game piece board well silent = silent
board_needs_none Changes game piece board well silent = (inl (spelled game board piece well silent), inr silent)
board_needs_none Strict game piece board well silent = (inl (spelled game board piece well silent), inr silent)

module _ {R : Type 0} (variant : Variant) (game : Game) (piece : List ℕ) (board : Board) (old said new : Made R)
    (of : IsReadAs old.options.lines_are game piece board) (says : Says game piece board old said) where
  -- what is to be said of a board was said, and the board was written
  pub board_taken : old.other_game ≡ false → IsWellFormed game board → (old.options.lines_are ≡ AsColumns) ⊎ CanBe game piece board
      → state_of new ≡ after (state_of said) piece (Some board) ABoard
      → (name : List ℕ) × IsNamed (state_of said) name
      × (new.written.items ≡ said.written.items ++ (header_text variant name ++ text_of board))
      → new.notes.items ≡ said.notes.items → Takes variant game piece old new
  board_taken this_game well can state (name, named, written) notes =
      taken variant game piece old new (after (state_of old) piece (Some board) ABoard)
      (state ∙ ap (λ state. after state piece (Some board) ABoard) says.state)
      (header_text variant name ++ text_of board) says.said
      (a_board name board says.said this_game (subst (λ state. IsNamed state name) says.state named) well can of says.is)
      (written ∙ ap (λ text. text ++ (header_text variant name ++ text_of board)) says.written) (notes ∙ says.notes)

  -- or it is the last one once more
  pub last_taken : old.last ≡ Some board → old.begun ≡ true → state_of new ≡ after (state_of said) piece said.last Again
      → new.written.items ≡ said.written.items → new.notes.items ≡ said.notes.items
      → Takes variant game piece old new
  last_taken last begun state written notes =
      noted variant game piece old new (after (state_of old) piece old.last Again)
      (state ∙ ap (λ state. after state piece state.last Again) says.state)
      says.said (once_more board says.said last begun of says.is) (written ∙ says.written) (notes ∙ says.notes)

-- one header or one piece more was taken
pub one_taken_more : {R : Type 0} (variant : Variant) (options : ImportOptions) (game : Game) (text piece : List ℕ)
    (old new : Made R) → ends_line text ≡ true → IsMade variant options game text old
    → (IsHeading piece × TakesName variant piece old new) ⊎ (HasNoHeader piece × Takes variant game piece old new)
    → IsMade variant options game (text ++ piece) new
one_taken_more variant options game text line old new ends made (inl (heading, name)) =
    subst₂ (Imported variant options game (text ++ line) (state_of new)) (sym name.written) (sym name.notes)
    (subst (λ state. Imported variant options game (text ++ line) state old.written.items old.notes.items) (sym name.state)
    (headed text (state_of old) old.written.items old.notes.items made ends line heading))
one_taken_more variant options game text piece old new ends made (inr (none, (more, says, reading, written, notes))) =
    subst₂ (Imported variant options game (text ++ piece) (state_of new)) (sym written) (sym notes)
    (one_more text (state_of old) old.written.items old.notes.items made ends piece none (state_of new) more says reading)

-- ---- lists

-- whether a list that is not as it is printed needs no note, where doubts alone are noted
pub list_needs : (asked : Noted) (game : Game) (piece : List ℕ) (list : MoveList) (silent : Bool) → asked ≡ Doubts → (piece ≢ list_line list)
    → (IsTrue silent ↔ AreLists game piece) → IsTrue silent ↔ ListNeedsNoNote asked game piece list
list_needs Doubts game piece list silent is other are = ((λ so. inr (are.0 so)), by)
  where
    by : ListNeedsNoNote Doubts game piece list → IsTrue silent
    by (inl printed) = absurd (other printed)
    by (inr all) = are.1 all
list_needs Changes game piece list silent is other are = absurd (cc)
list_needs Strict game piece list silent is other are = absurd (cc)

-- ---- notes

-- five texts were put after one another
pub put_five : (first a b c d e m₁ m₂ m₃ m₄ m₅ : List ℕ) → m₁ ≡ first ++ a → m₂ ≡ m₁ ++ b → m₃ ≡ m₂ ++ c → m₄ ≡ m₃ ++ d → m₅ ≡ m₄ ++ e → m₅ ≡ first ++ (a ++ b ++ c ++ d ++ e)
put_five first a b c d e m₁ m₂ m₃ m₄ m₅ e₁ e₂ e₃ e₄ e₅ =
    let two = e₂ ∙ ap (λ m. m ++ b) e₁ ∙ append_assoc first a b in
    let three = e₃ ∙ ap (λ m. m ++ c) two ∙ append_assoc first (a ++ b) c in
    let four = e₄ ∙ ap (λ m. m ++ d) three ∙ append_assoc first (a ++ b ++ c) d in
    e₅ ∙ ap (λ m. m ++ e) four ∙ append_assoc first (a ++ b ++ c ++ d) e

prints : (byte : ℕ) (test : Bool) → is_between 0x20 0x7E byte ≡ test → IsTrue (is_between 0x20 0x7E (if test then byte else 0x3F))
prints byte true holds = holds
prints byte false holds = refl

abbrev Prints : ℕ → Type 0
Prints byte = IsTrue (is_between 0x20 0x7E byte)

pub all_print : (words : List ℕ) → All Prints (printing words)
all_print [] = All-nil Prints
all_print (byte ∷ words) =
    All-cons Prints (if is_between 0x20 0x7E byte then byte else 0x3F) (printing words) (prints byte (is_between 0x20 0x7E byte) refl) (all_print words)
