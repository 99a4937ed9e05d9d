-- Lemmas on what the words of a line name.
use Rattle.std.proofs.Common.{◌++◌, ◌∙◌, ◌∷◌, ◌≡◌, [], ap, append_assoc, arith, Bool, false, if◌then◌else◌, length}
use Rattle.std.{proofs.Common.{List, refl, sym, true, ℕ}, specs.List.{flat_map, fold}}
use Rattle.fc_record.specs.{Grammar.{begins_with}, RecordTexts.{header_mark}}
use Rattle.fc_import.specs.Scan.{cards_in, named_cards}

no_cards : (cards : List ℕ) → length cards ≡ 0 → cards ≡ []
no_cards [] none = refl
no_cards (card ∷ cards) none = absurd (omega (arith, none))

pub none_named : (line : List ℕ) → length (cards_in line) ≡ 0 → named_cards line ≡ []
none_named line none = by (begins_with header_mark line)
  where
    by : (is : Bool) → (if is then [] else cards_in line) ≡ []
    by true = refl
    by false = no_cards (cards_in line) none

-- ---- one word more

module _ {Word : Type 0} (word : Word) (left rest : List Word) (is : left ≡ word ∷ rest) where
  pub cards_more : (of : Word → List ℕ) (placed named whole : List ℕ) → placed ++ flat_map of left ≡ whole → named ≡ placed ++ of word
      → named ++ flat_map of rest ≡ whole
  cards_more of placed named whole so_far grows =
      ap (λ cards. cards ++ flat_map of rest) grows ∙ append_assoc placed (of word) (flat_map of rest)
      ∙ ap (λ words. placed ++ flat_map of words) (sym is) ∙ so_far

  pub said_more : {Said : Type 0} (step : Said → Word → Said) (is_said : Bool) (old new whole : Said) → (if is_said then old else fold step old left) ≡ whole
      → new ≡ (if is_said then old else step old word) → (if is_said then new else fold step new rest) ≡ whole
  said_more step true old new whole so_far grows = grows ∙ so_far
  said_more step false old new whole so_far grows = ap (λ said. fold step said rest) grows ∙ ap (fold step old) (sym is) ∙ so_far
