-- The line of a list, as it is printed.
use Rattle.std.proofs.Common.{◌++◌, ◌∷◌, ◌≡◌, ◌≤◌, [], All, ap, arith, false, List, map, ℕ}
use Rattle.std.proofs.lemmas.List.Elements.{All-append, All-cons, All-head, All-nil, All-tail, All-weaker}
use Rattle.std.specs.List.{join_with_byte}
use Rattle.fc_board.specs.{Games.{Game}, Moves.{Fits, ListFits, MoveList, OneCard, RunFits, Runs}}
use Rattle.fc_text.proofs.{LineLemmas.{InLine}, RunTokenLemmas.{run_solid}, TokenLemmas.{token-IsSolid}}
use Rattle.fc_text.specs.{Bytes.{blank}, Notation.{print, run_token, separates_tokens, token}}
use Rattle.fc_record.specs.{Grammar.{list_mark}, Printing.{after_blank, marks_of}}

abbrev pub list_bytes : MoveList → List ℕ
list_bytes list = marks_of list ++ after_blank (print list)

in_one_line : (word : List ℕ) → All (λ byte. separates_tokens byte ≡ false) word → All InLine word
in_one_line word are =
    All-weaker (λ byte. separates_tokens byte ≡ false) InLine
    (λ byte joins e. absurd (let ends = ap separates_tokens e in cc)) word are

-- what is printed with blanks between is in one line
pub join_in_line : {Item : Type 0} (word_of : Item → List ℕ) (P : Item → Type 0)
    → ((item : Item) → P item → All InLine (word_of item))
    → (items : List Item) → All P items → All InLine (join_with_byte blank (map word_of items))
join_in_line word_of P each [] are = All-nil InLine
join_in_line word_of P each (item ∷ []) are = each item (All-head P item [] are)
join_in_line word_of P each (item ∷ next ∷ items) are =
    All-append InLine (word_of item) (blank ∷ join_with_byte blank (map word_of (next ∷ items)))
    (each item (All-head P item (next ∷ items) are))
    (All-cons InLine blank _ (λ e. absurd (omega (arith, e)))
    (join_in_line word_of P each (next ∷ items) (All-tail P item (next ∷ items) are)))

blank_in_line : (text : List ℕ) → All InLine text → All InLine (after_blank text)
blank_in_line [] are = are
blank_in_line (byte ∷ text) are = All-cons InLine blank (byte ∷ text) (λ e. absurd (omega (arith, e))) are

mark_in_line : (text : List ℕ) → All InLine text → All InLine (list_mark ∷ text)
mark_in_line text are = All-cons InLine list_mark text (λ e. absurd (omega (arith, e))) are

pub list_in_line : (game : Game) → game.cells ≤ 8 → (list : MoveList) → ListFits game list
    → All InLine (list_bytes list)
list_in_line game few (OneCard moves) fits =
    mark_in_line (after_blank (print (OneCard moves))) (blank_in_line (print (OneCard moves))
    (join_in_line token (Fits game) (λ move fits. in_one_line (token move)
    (token-IsSolid game few move fits).1) moves fits))
list_in_line game few (Runs moves) fits =
    mark_in_line (list_mark ∷ after_blank (print (Runs moves)))
    (mark_in_line (after_blank (print (Runs moves))) (blank_in_line (print (Runs moves))
    (join_in_line run_token (RunFits game) (λ move fits. in_one_line (run_token move)
    (run_solid game few move fits).1) moves fits)))
