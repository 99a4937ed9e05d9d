-- A call that appends to what is printed says so as an `if`: what is there where it did not fail.
use Rattle.std.proofs.Common.{◌++◌, ◌<◌, ◌∙◌, ◌∷◌, ◌≡◌, ◌≤◌, [], All, ap, append_assoc, ap₂, arith, Bool, codes, Err}
use Rattle.std.proofs.Common.{false, if◌then◌else◌, length, List, map, nat_le, Ok, OnOk, refl, Result, slice_index, sym}
use Rattle.std.{proofs.{Common.{true, ℕ}, lemmas.Result.{on_ok_weaker}}, specs.Fmt.{decimal}}
use Rattle.std.specs.{List.{flat_map, join_with_byte}, Result.{is_ok}}
use Rattle.{fc_canon.specs.{chosen_passage, least_text}, fc_card.specs.{renaming_text}}
use Rattle.fc_board.proofs.MoveListLemmas.{list_allowed-exactly, list_legal_not_refused, list_refused-exactly}
use Rattle.fc_board.proofs.{MoveListLemmas.{list_won-exactly}, RunPlayLemmas.{list_expanded, token_after}}
use Rattle.fc_board.{proofs.RunStepLemmas.{all_fit}, specs.Boards.{Board, IsWellFormed}}
use Rattle.fc_board.specs.{Games.{Game, game_of, renamings_of, RuleLaws, variant_word}, laws.ListWords.{RunPlays}}
use Rattle.fc_board.specs.{Moves.{Fits, ListFits, move_count, MoveList, OneCard, RunFits, Runs}, Passages.{Passage}}
use Rattle.fc_board.specs.Play.{expansion_of, expansions, Legal, list_verdict, OnlyLegal, Refused, run_verdict, Verdict}
use Rattle.fc_board.specs.{Play.{Won}, Steps.{RunStep}}
use Rattle.fc_board.specs.declared.{fault.StepFault.{StepFault}, moves.Move.{Move}, run_move.RunMove.{RunMove}}
use Rattle.fc_board.specs.declared.run_move.RunMove.TheVariants.{One, Run}
use Rattle.fc_text.specs.{Bytes.{blank, line_feed, tab}, Notation.{cell_letters, column_digits, most_moves, print}}
use Rattle.fc_text.specs.Printed.{text_of}
use Rattle.fc_record.specs.{Grammar.{Contents, Heading}, inside.{IsExpansion, verdict_of}, Printing.{after_blank}}
use Rattle.fc_record.specs.Printing.{canon_lines, comment_line, expanded_by, expanded_line, heading_line, image_line}
use Rattle.fc_record.specs.Printing.{list_line, name_of, one_card_moves, passage_line, show_lines, verdict_words}
use Rattle.fc_record.specs.Tables.{first_win, side_by_side, table_line}

-- what was appended is this text
pub appended_text : {E : Type 0} (result : Result (Unit {0}) E) (old new given text : List ℕ) → given ≡ text
    → new ≡ (if is_ok result then old ++ given else old) → OnOk result (new ≡ old ++ text)
appended_text (Ok _) old new given text same ensured = ensured ∙ ap (λ last. old ++ last) same
appended_text (Err _) old new given text same ensured = tt

-- ---- what was printed part by part is what is printed for a record, and the verdict on a list follows from how it is played

-- what was printed of the elements, by what is seen of each
pub all_printed : {X A : Type 0} (line : X → List A) (front text : List A) (printed all : List X) → printed ≡ all
    → text ≡ front ++ flat_map line printed → text ≡ front ++ flat_map line all
all_printed line front text printed all same gained = gained ∙ ap (λ xs. front ++ flat_map line xs) same

-- ---- one after another
-- what was appended is this text
pub this_text : (old new given text : List ℕ) → given ≡ text → new ≡ old ++ given → new ≡ old ++ text
this_text old new given text same gained = gained ∙ ap (λ last. old ++ last) same

pub three_parts : (old one two new first next last : List ℕ) → one ≡ old ++ first → two ≡ one ++ next → new ≡ two ++ last → new ≡ old ++ (first ++ next ++ last)
three_parts old one two new first next last begun more ended =
    ended ∙ ap (λ text. text ++ last) (more ∙ ap (λ text. text ++ next) begun) ∙ simp append_assoc

-- the moves of a list that has some, and of one that has none, after a blank
pub tokens-after_blank : (list : MoveList) → 0 < move_count list → after_blank (print list) ≡ blank ∷ print list
tokens-after_blank (OneCard []) some = absurd (omega (arith, some))
tokens-after_blank (OneCard (move ∷ [])) some = refl
tokens-after_blank (OneCard (move ∷ next ∷ moves)) some = refl
tokens-after_blank (Runs []) some = absurd (omega (arith, some))
tokens-after_blank (Runs (One move ∷ [])) some = refl
tokens-after_blank (Runs (One move ∷ next ∷ moves)) some = refl
tokens-after_blank (Runs (Run from to count ∷ [])) some = refl
tokens-after_blank (Runs (Run from to count ∷ next ∷ moves)) some = refl

pub no_tokens-after_blank : (list : MoveList) → move_count list ≤ 0 → after_blank (print list) ≡ []
no_tokens-after_blank (OneCard []) none = refl
no_tokens-after_blank (OneCard (move ∷ moves)) none = absurd (omega (arith, none))
no_tokens-after_blank (Runs []) none = refl
no_tokens-after_blank (Runs (move ∷ moves)) none = absurd (omega (arith, none))

-- the header, the board and the lists
pub shown : {E : Type 0} (result : Result (Unit {0}) E) (number : ℕ) (heading : Heading) (contents : Contents) (old one two new : List ℕ)
    → one ≡ old ++ heading_line number heading → two ≡ one ++ text_of contents.board → OnOk result (new ≡ two ++ flat_map list_line contents.lists)
    → OnOk result (new ≡ old ++ show_lines number heading contents)
shown result number heading contents old one two new begun more ended =
    on_ok_weaker result (three_parts old one two new (heading_line number heading) (text_of contents.board) (flat_map list_line contents.lists) begun more) ended

-- the header, the least text, the chosen passage and the images
pub made_canonical : {E : Type 0} (result : Result (Unit {0}) E) (renamings : List (List ℕ)) (passage : Passage) (number : ℕ) (heading : Heading) (contents : Contents)
    (old one two three text new : List ℕ) → renamings ≡ renamings_of heading.variant
    → text ≡ least_text renamings contents.board → passage ≡ chosen_passage renamings contents.board
    → one ≡ old ++ heading_line number heading → two ≡ one ++ text → three ≡ two ++ passage_line passage
    → OnOk result (new ≡ three ++ flat_map (image_line passage) contents.lists) → OnOk result (new ≡ old ++ canon_lines number heading contents)
made_canonical result renamings passage number heading contents old one two three text new listed is_text is_passage begun more ensured ended =
    let first = heading_line number heading in
    let images = λ (by : Passage). flat_map (image_line by) contents.lists in
    let said = λ (board : List ℕ) (by : Passage). (old ++ (first ++ board ++ passage_line by)) ++ images by in
    let least = is_text ∙ ap (λ names. least_text names contents.board) listed in
    let chosen = is_passage ∙ ap (λ names. chosen_passage names contents.board) listed in
    let together = three_parts old one two three first text (passage_line passage) begun more ensured in
    on_ok_weaker result (λ last. last ∙ ap (λ front. front ++ images passage) together ∙ ap₂ said least chosen ∙ simp append_assoc) ended

-- ---- a line of seven parts, each put after those before it
pub seven_parts : (a b c d e f g one two three four five six seven : List ℕ) → one ≡ [] ++ a → two ≡ one ++ b → three ≡ two ++ c → four ≡ three ++ d → five ≡ four ++ e → six ≡ five ++ f → seven ≡ six ++ g
    → seven ≡ a ++ b ++ c ++ d ++ e ++ f ++ g
seven_parts a b c d e f g one two three four five six seven to_one to_two to_three to_four to_five to_six to_seven =
    to_seven ∙ ap (λ text. text ++ g) (to_six ∙ ap (λ text. text ++ f) (to_five ∙ ap (λ text. text ++ e) (to_four ∙ ap (λ text. text ++ d) (to_three ∙ ap (λ text. text ++ c) (to_two ∙ ap (λ text. text ++ b) to_one)))))
    ∙ simp append_assoc

-- ---- printed part by part

-- ---- the line of a table: what was printed field by field is that line

-- three fields and what follows them
abbrev three : List ℕ → List ℕ → List ℕ → List ℕ → List ℕ
three a b c rest = a ++ tab ∷ (b ++ tab ∷ (c ++ tab ∷ rest))

three_more : (a b c rest more : List ℕ) → three a b c rest ++ more ≡ three a b c (rest ++ more)
three_more a b c rest more =
    append_assoc a (tab ∷ (b ++ tab ∷ (c ++ tab ∷ rest))) more
    ∙ ap (λ text. a ++ tab ∷ text) (append_assoc b (tab ∷ (c ++ tab ∷ rest)) more ∙ ap (λ text. b ++ tab ∷ text) (append_assoc c (tab ∷ rest) more))

-- three fields as they are printed, each with a tab after it
abbrev tabbed : List ℕ → List ℕ → List ℕ → List ℕ
tabbed a b c = a ++ tab ∷ b ++ tab ∷ c ++ tab ∷ []

tabbed_three : (a b c : List ℕ) → tabbed a b c ≡ three a b c []
tabbed_three a b c = append_assoc (a ++ tab ∷ b) (tab ∷ c) (tab ∷ []) ∙ append_assoc a (tab ∷ b) (tab ∷ c ++ tab ∷ [])

-- three fields, three more, two at the end and a line feed are one line
eight_fields : (old a b c d e f g h : List ℕ)
    → old ++ tabbed a b c ++ tabbed d e f ++ (g ++ tab ∷ h) ++ line_feed ∷ []
    ≡ old ++ (join_with_byte tab (a ∷ b ∷ c ∷ d ∷ e ∷ f ∷ g ∷ h ∷ []) ++ line_feed ∷ [])
eight_fields old a b c d e f g h =
    let ended = (g ++ tab ∷ h) ++ line_feed ∷ [] in
    ap₂ (λ first next. old ++ first ++ next ++ (g ++ tab ∷ h) ++ line_feed ∷ []) (tabbed_three a b c) (tabbed_three d e f)
    ∙ append_assoc (old ++ three a b c [] ++ three d e f []) (g ++ tab ∷ h) (line_feed ∷ [])
    ∙ append_assoc (old ++ three a b c []) (three d e f []) ended
    ∙ append_assoc old (three a b c []) (three d e f [] ++ ended)
    ∙ ap (λ text. old ++ text) (three_more a b c [] (three d e f [] ++ ended) ∙ ap (three a b c) (three_more d e f [] ended)
    ∙ sym (three_more a b c (three d e f (g ++ tab ∷ h)) (line_feed ∷ []) ∙ ap (three a b c) (three_more d e f (g ++ tab ∷ h) (line_feed ∷ []))))

abbrev board_fields : ℕ → Heading → List ℕ → List ℕ
board_fields number heading text = tabbed (name_of number heading.name) (variant_word heading.variant) (side_by_side text)

abbrev passage_fields : Passage → List ℕ
passage_fields passage = tabbed (renaming_text passage.renaming) (map (slice_index column_digits) passage.columns) (map (slice_index cell_letters) passage.cells)

abbrev list_fields : Game → Contents → List ℕ
list_fields game contents = decimal (length contents.lists) ++ tab ∷ first_win game contents.board 1 contents.lists

pub tabled : (game : Game) (renamings : List (List ℕ)) (passage : Passage) (number : ℕ) (heading : Heading) (contents : Contents) (old one two three text new : List ℕ)
    → game ≡ game_of heading.variant → renamings ≡ renamings_of heading.variant
    → text ≡ least_text renamings contents.board → passage ≡ chosen_passage renamings contents.board
    → one ≡ old ++ board_fields number heading text → two ≡ one ++ passage_fields passage → three ≡ two ++ list_fields game contents
    → new ≡ three ++ line_feed ∷ [] → new ≡ old ++ table_line number heading contents
tabled game renamings passage number heading contents old one two three text new named listed is_text is_passage begun more ensured ended =
    let least = is_text ∙ ap (λ names. least_text names contents.board) listed in
    let chosen = is_passage ∙ ap (λ names. chosen_passage names contents.board) listed in
    let first = begun ∙ ap (λ text. old ++ board_fields number heading text) least in
    let next = more ∙ ap₂ (λ front passage. front ++ passage_fields passage) first chosen in
    let last = ensured ∙ ap₂ (λ front game. front ++ list_fields game contents) next named in
    ended ∙ ap (λ front. front ++ line_feed ∷ []) last ∙ eight_fields old _ _ _ _ _ _ _ _

-- ---- a list of moves of several cards, made move by move, and the moves of one card that it is short for
pub expansions-next : (game : Game) (board next : Board) (run : RunMove) (rest : List RunMove) → RunStep game board run next
    → expansions game board (run ∷ rest) ≡ expansion_of game board run ++ expansions game next rest
expansions-next game board next run rest step = ap (λ after. expansion_of game board run ++ expansions game after rest) (token_after game board next run step)

-- a list that was played is not refused
pub played-verdict : (game : Game) (board after : Board) (runs : List RunMove) → All (RunFits game) runs → RunPlays game board runs after
    → (won : Bool) × (run_verdict game board runs ≡ verdict_of (Ok won))
played-verdict game board after runs fits plays = by (run_verdict game board runs) refl
  where
    by : (ensured : Verdict) → run_verdict game board runs ≡ ensured → (won : Bool) × (run_verdict game board runs ≡ verdict_of (Ok won))
    by Won e = (true, e)
    by OnlyLegal e = (false, e)
    by (Refused index fault) e = absurd (list_legal_not_refused game board (Runs runs) (after, plays) index fault
        ((list_refused-exactly game board (Runs runs) index fault fits).0 e))

-- the line of a list that the board allows, and of one that it refuses
module _ (game : Game) (board : Board) (number : ℕ) (list : MoveList) where
  abbrev one_by_one : List Move
  one_by_one = one_card_moves game board list

  abbrev allowed-line : MoveList → List ℕ
  allowed-line expansion = if nat_le (move_count expansion) most_moves then list_line expansion else comment_line number (codes " too long")

  pub expansion-line : (expansion : MoveList) → IsExpansion game board list expansion
      → allowed-line expansion ≡ expanded_line game board number list
  expansion-line expansion is = ap allowed-line is.moves ∙ by is.won is.verdict
    where
      by : (won : Bool) → list_verdict game board list ≡ verdict_of (Ok won) → allowed-line (OneCard one_by_one) ≡ expanded_line game board number list
      by true e = ap (λ ensured. expanded_by number ensured one_by_one) (sym e)
      by false e = ap (λ ensured. expanded_by number ensured one_by_one) (sym e)

  pub refusal-line : (index : ℕ) (fault : StepFault) → list_verdict game board list ≡ Refused index fault
      → comment_line number (verdict_words 0 (Refused index fault)) ≡ expanded_line game board number list
  refusal-line index fault e = ap (λ ensured. expanded_by number ensured one_by_one) (sym e)

-- ---- a list that is not refused is legal

pub played-ListLegal : (game : Game) (board : Board) (list : MoveList) → IsWellFormed game board → ListFits game list → (won : Bool) → (if won then Won else OnlyLegal) ≡ list_verdict game board list → Legal game board list
played-ListLegal game board list well fits true e =
    let (after, plays, won) = (list_won-exactly game board list fits well.piles.four_foundations).0 (sym e) in (after, plays)
played-ListLegal game board list well fits false e = ((list_allowed-exactly game board list fits well.piles.four_foundations).0 (sym e)).0

-- its moves of one card fit the game
pub one_card_moves-Fit : {game : Game} {renamings : List (List ℕ)} {cells count : ℕ} {kings_only : Bool} → RuleLaws game renamings cells count kings_only
    → (board : Board) (list : MoveList) → IsWellFormed game board → ListFits game list → Legal game board list → All (Fits game) (one_card_moves game board list)
one_card_moves-Fit laws board (OneCard moves) well fits legal = fits
one_card_moves-Fit {game} {kings_only = kings_only} laws board (Runs moves) well fits (after, plays) =
    all_fit game board after (one_card_moves game board (Runs moves)) (list_expanded game kings_only laws.builds_one_rank laws.fills_by_rank board after moves well plays)

pub four_parts : {X : Type 0} (old one two three new first next third last : List X) → one ≡ old ++ first → two ≡ one ++ next → three ≡ two ++ third → new ≡ three ++ last
    → new ≡ old ++ (first ++ next ++ third ++ last)
four_parts old one two three new first next third last begun more ensured ended =
    ended ∙ ap (λ text. text ++ last) (ensured ∙ ap (λ text. text ++ third) (more ∙ ap (λ text. text ++ next) begun)) ∙ simp append_assoc
