use Rattle.std.proofs.Common.{◌++◌, ◌∷◌, ◌≡◌, ◌≢◌, [], All, ap, arith, inl, inr, List, refl, suc, zero, ℕ}
use Rattle.std.{proofs.lemmas.List.Elements.{All-cons, All-nil}, specs.Prelude.{codes, slice_index}}
use Rattle.fc_board.specs.{Games.{freecell}, Moves.{MoveList, OneCard, Runs}}
use Rattle.fc_text.{proofs.ReadingLemmas.{Spells-from_faultless}, specs.{Bytes.{line_feed}, Printed.{text_of}}}
use Rattle.fc_text.specs.Spelling.{board_of, Spells}
use Rattle.fc_record.specs.{Grammar.{list_mark}, Printing.{list_line}}
use Rattle.fc_import.{proofs.SilenceLemmas.{note_said}, specs.{Import.{IsBuilt}, Notes.{Place, SaysUnless}}}
use Rattle.fc_import.proofs.laws.a_ten_is_a_change.Goals as goal

abbrev ten : List ℕ
ten = codes "Foundations: H-9 C-K D-K S-K" ++ line_feed ∷ codes "Freecells: 10H JH QH KH" ++ line_feed ∷ []

ten_spells : Spells freecell ten (board_of freecell ten)
ten_spells = Spells-from_faultless freecell ten refl

no_card_built : IsBuilt freecell []
no_card_built place dealt inside = absurd (omega (arith, inside))

abbrev empty_columns : ℕ → List (List ℕ)
empty_columns zero = []
empty_columns (suc count) = [] ∷ empty_columns count

empty_built : (count : ℕ) → All (IsBuilt freecell) (empty_columns count)
empty_built zero = All-nil (IsBuilt freecell)
empty_built (suc count) = All-cons (IsBuilt freecell) [] (empty_columns count) no_card_built (empty_built count)

ten_built : All (IsBuilt freecell) (board_of freecell ten).columns
ten_built = empty_built 8

not_printed : ten ≢ text_of (board_of freecell ten)
not_printed same = let e : 49 ≡ 84 = ap (λ text. slice_index text 40) same in absurd (omega (arith, e))

no_mark : (list : MoveList) → codes "1a 23" ++ line_feed ∷ [] ≢ list_line list
no_mark (OneCard moves) same = let e : 49 ≡ list_mark =
    ap (λ text. slice_index text 0) same in absurd (omega (arith, e))
no_mark (Runs moves) same = let e : 49 ≡ list_mark = ap (λ text. slice_index text 0) same in absurd (omega (arith, e))

by_ten : {holds : Type 0} (place : Place) (said : List ℕ) → holds → SaysUnless holds place ten said → said ≡ []
by_ten place said holds (inl (spelled, silent)) = silent
by_ten place said holds (inr (fails, note)) = absurd (fails holds)

noted_unless : {holds : Type 0} (place : Place) (piece said : List ℕ) → ¬ holds → SaysUnless holds place piece said
    → said ≢ []
noted_unless place piece said fails (inl (spelled, silent)) = absurd (fails spelled)
noted_unless place piece said fails (inr (not, note)) = note_said place piece said note

pub returns-clause-ten : goal.returns-clause-ten
returns-clause-ten c = λ place said says. by_ten place said (inl ten_spells, inl ten_built) says

pub returns-clause-ten_noted : goal.returns-clause-ten_noted
returns-clause-ten_noted c = λ place said says. noted_unless place ten said not_printed says

pub returns-clause-list_noted : goal.returns-clause-list_noted
returns-clause-list_noted c =
    λ place list said says. noted_unless place (codes "1a 23" ++ line_feed ∷ []) said (no_mark list) says
