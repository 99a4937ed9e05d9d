-- Lemmas on texts of which nothing is said.
use Rattle.std.proofs.Common.{◌++◌, ◌+◌, ◌∙◌, ◌∷◌, ◌≡◌, ◌≢◌, ◌≤◌, ◌⊎◌, [], All, ap, ap₂, arith, inl, inr, length, List}
use Rattle.std.proofs.{Common.{map, None, refl, subst, sym, true, ℕ}, lemmas.{Bool.{eqb-true}, Grind.{flat_map-append}}}
use Rattle.std.{proofs.lemmas.List.Elements.{All-contains, All-head, All-tail}, specs.List.{Contains, flat_map}}
use Rattle.fc_board.specs.{Games.{Game}, Moves.{MoveList, OneCard, Runs}}
use Rattle.fc_board.specs.declared.rule.Variant.{TheVariants.{BakersGame, EightOff, FreeCell}, Variant}
use Rattle.fc_text.{proofs.LineLemmas.{lines_from-moved}, specs.Lines.{in_line, lines_from, moved, Piece}}
use Rattle.fc_text.specs.Printed.{text_of}
use Rattle.fc_record.{proofs.TextLineLemmas.{lines_after}, specs.Grammar.{begins_with}}
use Rattle.fc_record.specs.{Printing.{header_text, list_line}, RecordTexts.{ends_line, header_mark}}
use Rattle.fc_import.specs.Import.{a_board, a_list, headed, Imported, IsApart, left_out, none_yet, once_more, one_more}
use Rattle.fc_import.specs.Import.{passed, Reading, refused_board, refused_list}
use Rattle.fc_import.specs.{Notes.{counted, IsNote, Place, State}, Scan.{is_list, IsQuiet, named_cards}}
use Rattle.fc_import.specs.Words.{named_in}
use Rattle.fc_import.specs.declared.options.ImportOptions.{ImportOptions}

pub both_empty : {A : Type 0} (xs ys : List A) → xs ++ ys ≡ [] → (xs ≡ []) × (ys ≡ [])
both_empty [] ys none = (refl, none)
both_empty (x ∷ xs) ys none = absurd (cc)

-- a note is not empty
pub note_said : (place : Place) (piece said : List ℕ) → IsNote place piece said → said ≢ []
note_said place piece said note none = absurd (let is : [] ≡ _ = sym none ∙ note.is in cc)

-- ---- nothing is refused

none_more : (count : ℕ) → count ≡ 0 → counted (count + 0) ≡ 0
none_more count none = ap (λ count. counted (count + 0)) none

-- each board and list is taken, and no line left out
abbrev pub AllTaken : State → Type 0
AllTaken state = (state.tally.refused_boards ≡ 0) × (state.tally.refused_lists ≡ 0) × (state.tally.left_out ≡ 0)

still_taken : {variant : Variant} {game : Game} {state : State} {piece : List ℕ} {next : State} {written said : List ℕ} → Reading variant game state piece next written said → said ≡ [] → AllTaken state → AllTaken next
still_taken (passed apart quiet) silent (boards, lists, lines) = (none_more _ boards, none_more _ lists, none_more _ lines)
still_taken (left_out said apart names prose note) silent before = absurd (note_said _ _ said note silent)
still_taken (a_board name board said game_is named well can of says) silent (boards, lists, lines) =
    (none_more _ boards, none_more _ lists, none_more _ lines)
still_taken (once_more board said last begun of says) silent (boards, lists, lines) =
    (none_more _ boards, none_more _ lists, none_more _ lines)
still_taken (a_list board list said apart last legal few names says) silent (boards, lists, lines) =
    (none_more _ boards, none_more _ lists, none_more _ lines)
still_taken (refused_board said note) silent before = absurd (note_said _ _ said note silent)
still_taken (refused_list last said apart stays note) silent before = absurd (note_said _ _ said note silent)

pub all_taken : {variant : Variant} {options : ImportOptions} {game : Game} {text : List ℕ} {state : State}
    {written said : List ℕ} → Imported variant options game text state written said → said ≡ [] → AllTaken state
all_taken none_yet silent = (refl, refl, refl)
all_taken (headed text state written said so_far ends line heading) silent = all_taken so_far silent
all_taken (one_more text state written said so_far ends piece none next more says reading) silent =
    let parts = both_empty said says silent in
    still_taken reading parts.1 (all_taken so_far parts.0)

-- ---- no card is lost

abbrev cards_of : Piece → List ℕ
cards_of line = named_cards line.bytes

moved_cards : (places : ℕ) (lines : List Piece) → flat_map cards_of (map (moved places) lines) ≡ flat_map cards_of lines
moved_cards places [] = refl
moved_cards places (line ∷ lines) = ap (λ cards. cards_of line ++ cards) (moved_cards places lines)

-- the cards of a text and of the lines after it
pub named_after : (text piece : List ℕ) → ends_line text ≡ true → named_in (text ++ piece) ≡ named_in text ++ named_in piece
named_after text piece ends =
    ap (flat_map cards_of) (lines_after 0 text piece ends)
    ∙ flat_map-append cards_of (lines_from 0 text) (lines_from (0 + length text) piece)
    ∙ ap (λ cards. named_in text ++ cards)
    (ap (λ place. flat_map cards_of (lines_from place piece)) (omega arith)
    ∙ ap (flat_map cards_of) (lines_from-moved (length text) 0 piece) ∙ moved_cards (length text) (lines_from 0 piece))

quiet_cards : (game : Game) (lines : List Piece) → All (λ line. IsQuiet game line.bytes) lines → flat_map cards_of lines ≡ []
quiet_cards game [] quiet = refl
quiet_cards game (line ∷ lines) quiet =
    ap₂ (λ first rest. first ++ rest) (All-head (λ line. IsQuiet game line.bytes) line lines quiet).no_card
    (quiet_cards game lines (All-tail (λ line. IsQuiet game line.bytes) line lines quiet))

-- the line of a header names no card
header_first : (lines : List Piece) → length (in_line 0 header_mark lines) ≤ 1 → flat_map cards_of (in_line 0 header_mark lines) ≡ []
header_first [] one = refl
header_first (line ∷ []) one = refl
header_first (line ∷ next ∷ lines) one = absurd (omega (arith, one))

header_cards : (piece : List ℕ) → begins_with header_mark piece ≡ true → length (lines_from 0 piece) ≤ 1 → named_in piece ≡ []
header_cards [] begins one = refl
header_cards (byte ∷ rest) begins one =
    let is : byte ≡ header_mark = eqb-true byte header_mark begins in
    subst (λ byte. length (lines_from 0 (byte ∷ rest)) ≤ 1 → named_in (byte ∷ rest) ≡ []) (sym is) (header_first (lines_from (0 + 1) rest)) one

header_written : (variant : Variant) (name rest : List ℕ) → header_text variant name ++ rest ≢ []
header_written FreeCell name rest none = absurd (cc)
header_written BakersGame name rest none = absurd (cc)
header_written EightOff name rest none = absurd (cc)

abbrev pub NoneLost : State → List ℕ → Type 0
NoneLost state text = (state.last ≡ None) × (named_in text ≡ [])

none_lost : {variant : Variant} {game : Game} {state : State} {piece : List ℕ} {next : State} {written said : List ℕ} → Reading variant game state piece next written said → written ≡ [] → said ≡ []
    → state.last ≡ None → NoneLost next piece
none_lost {game = game} {piece = piece} (passed apart quiet) nothing silent alone = (alone, quiet_cards game (lines_from 0 piece) quiet)
none_lost (left_out said apart names prose note) nothing silent alone = absurd (note_said _ _ said note silent)
none_lost {variant = variant} (a_board name board said game_is named well can of says) nothing silent alone =
    absurd (header_written variant name (text_of board) nothing)
none_lost (once_more board said last begun of says) nothing silent alone = absurd (let e = sym alone ∙ last in cc)
none_lost (a_list board list said apart last legal few names says) nothing silent alone = absurd (let e = sym alone ∙ last in cc)
none_lost (refused_board said note) nothing silent alone = absurd (note_said _ _ said note silent)
none_lost (refused_list last said apart stays note) nothing silent alone = absurd (note_said _ _ said note silent)

pub no_card_lost : {variant : Variant} {options : ImportOptions} {game : Game} {text : List ℕ} {state : State}
    {written said : List ℕ} → Imported variant options game text state written said → written ≡ [] → said ≡ []
    → NoneLost state text
no_card_lost none_yet nothing silent = (refl, refl)
no_card_lost (headed text state written said so_far ends line heading) nothing silent =
    (refl, named_after text line ends ∙ ap₂ (λ first rest. first ++ rest) (no_card_lost so_far nothing silent).1 (header_cards line heading.mark heading.one))
no_card_lost (one_more text state written said so_far ends piece none next more says reading) nothing silent =
    let texts = both_empty written more nothing in
    let notes = both_empty said says silent in
    let before = no_card_lost so_far texts.0 notes.0 in
    let now = none_lost reading texts.1 notes.1 before.0 in
    (now.0, named_after text piece ends ∙ ap₂ (λ first rest. first ++ rest) before.1 now.1)

-- ---- no solution is lost

list_written : (list : MoveList) → list_line list ≢ []
list_written (OneCard moves) none = absurd (cc)
list_written (Runs moves) none = absurd (cc)

not_both : (game : Game) (line : Piece) → IsQuiet game line.bytes → is_list game line.bytes ≡ true → ⊥
not_both game line quiet list = let e = sym quiet.no_list ∙ list in absurd (cc)

-- a piece with a list, of which nothing is written and nothing said, is the last board once more
pub not_silent : {variant : Variant} {game : Game} {state : State} {piece : List ℕ} {next : State} {written said : List ℕ} (line : Piece) → Contains (lines_from 0 piece) line
    → is_list game line.bytes ≡ true → Reading variant game state piece next written said → written ≡ [] → said ≡ [] → state.begun ≡ true
not_silent {game = game} {piece = piece} line inside list (passed apart quiet) nothing silent =
    absurd (not_both game line (All-contains (λ line. IsQuiet game line.bytes) (lines_from 0 piece) line quiet inside) list)
not_silent line inside list (left_out said apart names prose note) nothing silent = absurd (note_said _ _ said note silent)
not_silent {variant = variant} line inside list (a_board name board said game_is named well can of says) nothing silent = absurd (header_written variant name (text_of board) nothing)
not_silent line inside list (once_more board said last begun of says) nothing silent = begun
not_silent line inside list (a_list board moves said apart last legal few names says) nothing silent = absurd (list_written moves nothing)
not_silent line inside list (refused_board said note) nothing silent = absurd (note_said _ _ said note silent)
not_silent line inside list (refused_list last said apart stays note) nothing silent = absurd (note_said _ _ said note silent)

-- what is not apart is a board
pub not_cut : {variant : Variant} {game : Game} {state : State} {piece : List ℕ} {next : State} {written said : List ℕ} → ¬ IsApart state piece
    → Reading variant game state piece next written said → (next.last ≡ None) ⊎ (written ≢ []) ⊎ (state.begun ≡ true)
not_cut joined (passed apart quiet) = absurd (joined apart)
not_cut joined (left_out said apart names prose note) = absurd (joined apart)
not_cut {variant = variant} joined (a_board name board said game_is named well can of says) = inr (inl (header_written variant name (text_of board)))
not_cut joined (once_more board said last begun of says) = inr (inr begun)
not_cut joined (a_list board list said apart last legal few names says) = absurd (joined apart)
not_cut joined (refused_board said note) = inl refl
not_cut joined (refused_list last said apart stays note) = absurd (joined apart)
