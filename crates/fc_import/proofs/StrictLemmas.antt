-- Lemmas on imports in which each change is noted, and on those that are strict.
use Rattle.std.proofs.Common.{◌++◌, ◌+◌, ◌<◌, ◌==◌, ◌∙◌, ◌∷◌, ◌≡◌, ◌≢◌, ◌⊎◌, [], ap, ap₂, arith, inl, inr, length}
use Rattle.std.proofs.Common.{length-append, List, None, Option, refl, Some, subst, sym, true, ℕ}
use Rattle.std.{proofs.lemmas.List.{Sums.{count_by_more_yes}, take_all}, specs.Prelude.{codes, slice_index}}
use Rattle.fc_board.specs.{Boards.{Board, IsWellFormed}, Games.{Game}, Moves.{MoveList}}
use Rattle.{fc_board.specs.declared.rule.Variant.{Variant}, fc_text.specs.Bytes.{line_feed}}
use Rattle.fc_record.{proofs.TextLineLemmas.{ends-after, ends-line_feed, last_byte}, specs.RecordTexts.{ends_line}}
use Rattle.fc_collect.specs.declared.streams.faults.Summary.{Summary}
use Rattle.fc_import.proofs.SilenceLemmas.{all_taken, both_empty, note_said}
use Rattle.fc_import.{proofs.TakingLemmas.{board_needs_none, put_five}, specs.Import.{a_board, a_list, CanBe}}
use Rattle.fc_import.specs.Import.{collection, headed, Imported, left_out, ListNeedsNoNote, Makes, no_board}
use Rattle.fc_import.specs.Import.{no_board_line, none_yet, once_more, one_more, passed, Reading, refusals}
use Rattle.fc_import.specs.Import.{refused_board, refused_by, refused_list, too_much, too_much_line, with_tally}
use Rattle.fc_import.specs.Notes.{counted, IsNote, line_feeds, Place, place_text, SaysUnless, State}
use Rattle.fc_import.specs.declared.options.{ImportOptions.{ImportOptions}, LinesAre.TheVariants.{Columns as AsColumns}}
use Rattle.fc_import.specs.declared.{options.Noted.{Noted, TheVariants.{Changes, Doubts, Strict}}, tally.Tally.{Tally}}

-- ---- what is silent where changes are noted

-- the same state, but that doubts alone are noted
abbrev doubting : State → State
doubting state = record {
  options = record state.options { noted = Doubts };
  last = state.last;
  place = state.place;
  begun = state.begun;
  goes_on = state.goes_on;
  other_game = state.other_game;
  named = state.named;
  tally =
      state.tally;
}

-- the last board, if there is one, is well formed
abbrev LastIsWell : Game → Option Board → Type 0
LastIsWell game last = (board : Board) → last ≡ Some board → IsWellFormed game board

one_board : {game : Game} (board : Board) → IsWellFormed game board → LastIsWell game (Some board)
one_board {game = game} board well other is = subst (IsWellFormed game) (let e : board ≡ other = cc in e) well

no_last : {game : Game} → LastIsWell game None
no_last board is = absurd (cc)

-- the last board after a piece is well formed, if the one before it was
well_next : {variant : Variant} {game : Game} {state : State} {piece : List ℕ} {next : State} {written said : List ℕ}
    → Reading variant game state piece next written said
    → LastIsWell game state.last → LastIsWell game next.last
well_next (passed apart quiet) well = well
well_next (left_out said apart names prose note) well = well
well_next (a_board name board said game_is named is can of says) well = one_board board is
well_next (once_more board said last begun of says) well = well
well_next (a_list board list said apart last legal few names says) well = well
well_next (refused_board said note) well = no_last
well_next {game = game} (refused_list last said apart (inl none) note) well = subst (LastIsWell game) (sym none) no_last
well_next {game = game} (refused_list last said apart (inr (same, lines)) note) well = subst (LastIsWell game) (sym same) well

-- where nothing was said, nothing may be said for a weaker reason
silent_as : {holds other : Type 0} (place : Place) (piece said : List ℕ) → (holds → other)
    → SaysUnless holds place piece said → said ≡ [] → SaysUnless other place piece said
silent_as place piece said so (inl (holds, none)) silent = inl (so holds, none)
silent_as place piece said so (inr (fails, note)) silent = absurd (note_said place piece said note silent)

-- where nothing was said, no note is needed
needs_no_note : {holds : Type 0} (place : Place) (piece said : List ℕ) → SaysUnless holds place piece said
    → said ≡ [] → holds
needs_no_note place piece said (inl (holds, none)) silent = holds
needs_no_note place piece said (inr (fails, note)) silent = absurd (note_said place piece said note silent)

-- play can make a board that is written in silence
pub can_be_silent : {variant : Variant} {game : Game} {state : State} {piece : List ℕ} {next : State}
    {written said : List ℕ} → Reading variant game state piece next written said → said ≡ [] → written ≢ []
    → (board : Board) → next.last ≡ Some board → CanBe game piece board ⊎ (state.last ≡ Some board)
can_be_silent (passed apart quiet) silent some board is = absurd (some refl)
can_be_silent (left_out said apart names prose note) silent some board is = absurd (some refl)
can_be_silent {game = game} {state = state} {piece = piece} (a_board name other said game_is named well can of says) silent some board is =
    inl (subst (CanBe game piece) (let e : other ≡ board = cc in e)
    (board_needs_none state.options.noted game piece other well (needs_no_note state.place piece said says silent)).1)
can_be_silent (once_more other said last begun of says) silent some board is = absurd (some refl)
can_be_silent (a_list other list said apart last legal few names says) silent some board is = inr is
can_be_silent (refused_board said note) silent some board is = absurd (some refl)
can_be_silent (refused_list last said apart stays note) silent some board is = absurd (some refl)

-- and one that is written where lines are not said to be columns
pub can_be_unsaid : {variant : Variant} {game : Game} {state : State} {piece : List ℕ} {next : State}
    {written said : List ℕ} → Reading variant game state piece next written said
    → state.options.lines_are ≢ AsColumns → written ≢ [] → (board : Board) → next.last ≡ Some board → CanBe game piece board ⊎ (state.last ≡ Some board)
can_be_unsaid (passed apart quiet) unsaid some board is = absurd (some refl)
can_be_unsaid (left_out said apart names prose note) unsaid some board is = absurd (some refl)
can_be_unsaid (a_board name other said game_is named well (inl columns) of says) unsaid some board is =
    absurd (unsaid columns)
can_be_unsaid {game = game} {piece = piece} (a_board name other said game_is named well (inr can) of says) unsaid some board is =
    inl (subst (CanBe game piece) (let e : other ≡ board = cc in e) can)
can_be_unsaid (once_more other said last begun of says) unsaid some board is = absurd (some refl)
can_be_unsaid (a_list other list said apart last legal few names says) unsaid some board is = inr is
can_be_unsaid (refused_board said note) unsaid some board is = absurd (some refl)
can_be_unsaid (refused_list last said apart stays note) unsaid some board is = absurd (some refl)

-- lines that need no note of a list need none where doubts alone are noted
needs_none : (asked : Noted) (game : Game) (piece : List ℕ) (list : MoveList) → ListNeedsNoNote asked game piece list
    → ListNeedsNoNote Doubts game piece list
needs_none Doubts game piece list silent = silent
needs_none Changes game piece list silent = inl silent
needs_none Strict game piece list silent = inl silent

-- a piece of which nothing was said is read so where doubts alone are noted
still_silent : {variant : Variant} {game : Game} {state : State} {piece : List ℕ} {next : State}
    {written said : List ℕ} → Reading variant game state piece next written said → said ≡ []
    → LastIsWell game state.last → Reading variant game (doubting state) piece (doubting next) written said
still_silent (passed apart quiet) silent well = passed apart quiet
still_silent (left_out said apart names prose note) silent well = absurd (note_said _ _ said note silent)
still_silent {game = game} {state = state} {piece = piece} (a_board name board said game_is named is can of says) silent well =
    a_board name board said game_is (record { by_header = named.by_header; alone = named.alone }) is can of
    (silent_as state.place piece said (board_needs_none state.options.noted game piece board is) says silent)
still_silent {game = game} {state = state} {piece = piece} (once_more board said last begun of says) silent well =
    once_more board said last begun of
    (silent_as state.place piece said (board_needs_none state.options.noted game piece board (well board last)) says silent)
still_silent {game = game} {state = state} {piece = piece} (a_list board list said apart last legal few names says) silent well =
    a_list board list said apart last legal few names
    (silent_as state.place piece said (needs_none state.options.noted game piece list) says silent)
still_silent (refused_board said note) silent well = absurd (note_said _ _ said note silent)
still_silent (refused_list last said apart stays note) silent well = absurd (note_said _ _ said note silent)

-- the last board of a text is well formed
last_is_well : {variant : Variant} {options : ImportOptions} {game : Game} {text : List ℕ} {state : State}
    {written said : List ℕ} → Imported variant options game text state written said → LastIsWell game state.last
last_is_well none_yet = no_last
last_is_well (headed text state written said so_far ends line heading) = no_last
last_is_well (one_more text state written said so_far ends piece none next more says reading) =
    well_next reading (last_is_well so_far)

-- and so is a text
silent_without : {variant : Variant} {options : ImportOptions} {game : Game} {text : List ℕ} {state : State}
    {written said : List ℕ} → Imported variant options game text state written said → said ≡ []
    → Imported variant (record options { noted = Doubts }) game text (doubting state) written said
silent_without none_yet silent = none_yet
silent_without (headed text state written said so_far ends line heading) silent =
    headed text (doubting state) written said (silent_without so_far silent) ends line heading
silent_without (one_more text state written said so_far ends piece none next more says reading) silent =
    let parts = both_empty said says silent in
    one_more text (doubting state) written said (silent_without so_far parts.0) ends piece none (doubting next) more
    says (still_silent reading parts.1 (last_is_well so_far))

-- ---- each note is a line

-- a note is a whole line
note_ends : (place : Place) (piece said : List ℕ) → IsNote place piece said → ends_line said ≡ true
note_ends place piece said note =
    let a = codes "fcanon: " in
    let b = place_text place _ note.column in
    let front = ((a ++ b) ++ codes ": ") ++ note.words in
    let whole = put_five [] a b (codes ": ") note.words (line_feed ∷ []) a (a ++ b) ((a ++ b) ++ codes ": ") front in
    ap ends_line (note.is ∙ sym (whole (front ++ line_feed ∷ []) refl refl refl refl refl)) ∙ ends-line_feed front

unless_ends : {holds : Type 0} (place : Place) (piece said : List ℕ) → SaysUnless holds place piece said
    → ends_line said ≡ true
unless_ends place piece said (inl (holds, silent)) = ap ends_line silent
unless_ends place piece said (inr (fails, note)) = note_ends place piece said note

says_end : {variant : Variant} {game : Game} {state : State} {piece : List ℕ} {next : State} {written said : List ℕ}
    → Reading variant game state piece next written said → ends_line said ≡ true
says_end (passed apart quiet) = refl
says_end (left_out said apart names prose note) = note_ends _ _ said note
says_end (a_board name board said game_is named well can of says) = unless_ends _ _ said says
says_end (once_more board said last begun of says) = unless_ends _ _ said says
says_end (a_list board list said apart last legal few names says) = unless_ends _ _ said says
says_end (refused_board said note) = note_ends _ _ said note
says_end (refused_list last said apart stays note) = note_ends _ _ said note

-- and the notes of a text are whole lines
notes_end : {variant : Variant} {options : ImportOptions} {game : Game} {text : List ℕ} {state : State} {written said : List ℕ}
    → Imported variant options game text state written said → ends_line said ≡ true
notes_end none_yet = refl
notes_end (headed text state written said so_far ends line heading) = notes_end so_far
notes_end (one_more text state written said so_far ends piece none next more says reading) =
    ends-after said says (notes_end so_far) (says_end reading)

last_index : (text : List ℕ) → slice_index (text ++ line_feed ∷ []) (length text) ≡ line_feed
last_index [] = refl
last_index (byte ∷ text) = last_index text

-- a line feed at the end is counted
last_feed : (text : List ℕ) → 0 < line_feeds (text ++ line_feed ∷ [])
last_feed text =
    let all = text ++ line_feed ∷ [] in
    let long = length-append text (line_feed ∷ []) in
    let more = count_by_more_yes (λ byte. byte == line_feed) all (length text) 0 (omega (arith, long)) (ap (λ byte. byte == line_feed) (last_index text)) in
    subst (λ notes. 0 < line_feeds notes) (take_all (length text + 1) all (omega (arith, long))) (omega (arith, more))

-- whole lines have a line feed
some_line : (byte : ℕ) (rest : List ℕ) → ends_line (byte ∷ rest) ≡ true → 0 < line_feeds (byte ∷ rest)
some_line byte rest ends =
    let (text, is) = last_byte byte rest ends in
    subst (λ notes. 0 < line_feeds notes) (sym is) (last_feed text)

no_lines : line_feeds [] ≡ 0
no_lines = refl

-- ---- what is made

-- the tally is said where anything is
untallied : (tally : Tally) (notes : List ℕ) → with_tally tally notes ≡ [] → notes ≡ []
untallied tally [] silent = refl
untallied tally (byte ∷ notes) silent = absurd (cc)

said_last : (front last : List ℕ) → last ≢ [] → front ++ last ≢ []
said_last front last some none = absurd (some (both_empty front last none).1)

no_board_said : no_board_line ≢ []
no_board_said none = absurd (cc)

too_much_said : too_much_line ≢ []
too_much_said none = absurd (cc)

-- and nothing is refused, whatever is noted
none_refused : (asked : Noted) (tally : Tally) (notes : List ℕ) → notes ≡ [] → refusals tally ≡ 0
    → refused_by asked tally notes ≡ 0
none_refused Doubts tally notes silent none = none
none_refused Changes tally notes silent none = none
none_refused Strict tally notes silent none = ap (λ notes. counted (line_feeds notes)) silent ∙ ap counted no_lines

-- where nothing is said, each board and list is taken
none_missed : {variant : Variant} {options : ImportOptions} {game : Game} {text : List ℕ} {state : State} {written said : List ℕ}
    → Imported variant options game text state written said → said ≡ []
    → refusals state.tally ≡ 0
none_missed imported silent =
    let (boards, lists, lines) = all_taken imported silent in
    ap₂ (λ boards lists. counted (boards + lists)) boards lists

pub silent_makes : {variant : Variant} {options : ImportOptions} {bytes made said : List ℕ} {summary : Summary}
    → Makes variant options bytes made said summary → said ≡ [] → Makes variant (record options { noted = Doubts }) bytes made said summary
silent_makes {options = options} (collection state made notes records imported shown some_made refused is) silent =
    let quiet = untallied state.tally notes silent in
    let none = none_missed imported.imported quiet in
    collection (doubting state) made notes records (record {
      imported = silent_without imported.imported quiet;
      kept
          = imported.kept;
    }) shown some_made refused
    (is ∙ none_refused options.noted state.tally notes quiet none ∙ sym none)
silent_makes (no_board state notes imported none) silent =
    absurd (said_last (with_tally state.tally notes) no_board_line no_board_said silent)
silent_makes (too_much state made notes imported unshown) silent =
    absurd (said_last notes too_much_line too_much_said silent)

-- of notes there is one at least
strict_some : (tally : Tally) (notes : List ℕ) → ends_line notes ≡ true → with_tally tally notes ≢ []
    → 0 < counted (line_feeds notes)
strict_some tally [] ends some = absurd (some refl)
strict_some tally (byte ∷ rest) ends some = let lines = some_line byte rest ends in omega (arith, lines)

pub strict_refuses : {variant : Variant} {options : ImportOptions} {bytes made said : List ℕ} {summary : Summary}
    → options.noted ≡ Strict → Makes variant options bytes made said summary → said ≢ [] → 0 < summary.refused
strict_refuses {options = options} strict (collection state made notes records imported shown some_made refused is) some =
    subst (λ count. 0 < count)
    (sym (is ∙ ap (λ noted. refused_by noted state.tally notes) strict))
    (strict_some state.tally notes (notes_end imported.imported) some)
strict_refuses strict (no_board state notes imported none) some = omega arith
strict_refuses strict (too_much state made notes imported unshown) some = omega arith

pub strict_silent : {variant : Variant} {options : ImportOptions} {bytes made said : List ℕ} {summary : Summary}
    → Makes variant options bytes made said summary → said ≡ [] → summary.refused ≡ 0
strict_silent {options = options} (collection state made notes records imported shown some_made refused is) silent =
    let quiet = untallied state.tally notes silent in
    is ∙ none_refused options.noted state.tally notes quiet (none_missed imported.imported quiet)
strict_silent (no_board state notes imported none) silent =
    absurd (said_last (with_tally state.tally notes) no_board_line no_board_said silent)
strict_silent (too_much state made notes imported unshown) silent =
    absurd (said_last notes too_much_line too_much_said silent)
