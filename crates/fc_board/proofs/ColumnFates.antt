-- What becomes of a column at a step: it loses its last card, or gets one, or stays.
use Rattle.std.proofs.{Common.{◌++◌, ◌∙◌, ◌∷◌, ◌≡◌, ◌≢◌, ◌⊎◌, [], ap, inl, inr, List, sym, ℕ}, lemmas.Bool.{cases_eq}}
use Rattle.std.proofs.lemmas.List.{append-nil, append_assoc}
use Rattle.fc_board.proofs.AmongLemmas.{AllAmong, among_either, among_left, last_split}
use Rattle.fc_board.proofs.MovedCard.{left_in_column, lies_in_column, other_columns}
use Rattle.fc_board.specs.{Boards.{Board, IsWellFormed}, Games.{Game}, Steps.{Among, column_at, Step}}
use Rattle.fc_board.specs.declared.moves.{Move.{Move}, Place.{Place}}
use Rattle.fc_board.specs.declared.moves.{Place.TheVariants.{Cell as ToCell, Column as ToColumn, Home}, Source.{Source}}
use Rattle.fc_board.specs.declared.moves.Source.TheVariants.{Cell as FromCell, Column as FromColumn}

pub from_it : (source : Source) (column : ℕ) → (source ≡ FromColumn column) ⊎ (source ≢ FromColumn column)
from_it (FromColumn other) column =
    elim (cases_eq other column) [ inl same ↦ inl (ap FromColumn same) | inr apart ↦ inr (λ e. apart (cc e)) ]
from_it (FromCell cell) column = inr (λ e. cc)

pub to_it : (place : Place) (column : ℕ) → (place ≡ ToColumn column) ⊎ (place ≢ ToColumn column)
to_it (ToColumn other) column =
    elim (cases_eq other column) [ inl same ↦ inl (ap ToColumn same) | inr apart ↦ inr (λ e. apart (cc e)) ]
to_it (ToCell cell) column = inr (λ e. cc)
to_it Home column = inr (λ e. cc)

module _ (game : Game) (board after : Board) (move : Move) (well : IsWellFormed game board) (step : Step game board move after) where
  pub column_fate : (column : ℕ) →
      (column_at board column ≡ column_at after column ++ step.card ∷ []) ⊎
      ((column_at after column ≡ column_at board column ++ step.card ∷ []) ⊎ (column_at after column ≡ column_at board column))
  column_fate column = elim (from_it move.from column) [
    | inl from ↦ inl (left_in_column game board after move step column from)
    | inr beside ↦ elim (to_it move.to column) [
      | inl to ↦ inr (inl (lies_in_column game board after move step well column to))
      | inr apart ↦ inr (inr (other_columns game board after move step column beside apart))
    ]
  ]

  still : (column : ℕ) (before : List ℕ) (card : ℕ) (rest front : List ℕ) → card ≢ step.card → card ∷ rest ≡ front ++ step.card ∷ [] →
      column_at after column ≡ before ++ front →
      (more : List ℕ) × (column_at after column ≡ before ++ card ∷ more)
  still column before card rest [] other e is = absurd (other (cc))
  still column before card rest (x ∷ front) other e is = let same : x ≡ card = cc in (front, is ∙ ap (λ y. before ++ y ∷ front) same)

  -- what is in front of another card stays there
  pub stays_there : (column : ℕ) (before : List ℕ) (card : ℕ) (rest : List ℕ) → column_at board column ≡ before ++ card ∷ rest → card ≢ step.card →
      (more : List ℕ) × (column_at after column ≡ before ++ card ∷ more)
  stays_there column before card rest e other = elim (column_fate column) [
    | inl lost ↦ elim (last_split before (card ∷ rest) (column_at after column) step.card (sym e ∙ lost)) [
      | inl none ↦ cc
      | inr more ↦ still column before card rest more.0 other more.1 more.2
    ]
    | inr (inl won) ↦ (rest ++ step.card ∷ [], won ∙ ap (λ l. l ++ step.card ∷ []) e ∙ append_assoc before (card ∷ rest) (step.card ∷ []))
    | inr (inr same) ↦ (rest, same ∙ e)
  ]

  -- a column whose further cards are all of the run keeps its front, if that doesn't end in the card
  pub grows_or_shrinks : (column : ℕ) (front rest cards : List ℕ) → column_at board column ≡ front ++ rest →
      ((xs : List ℕ) → front ≡ xs ++ step.card ∷ [] → ⊥) →
      AllAmong rest cards → Among step.card cards → (more : List ℕ) × (column_at after column ≡ front ++ more) × AllAmong more cards
  grows_or_shrinks column front rest cards e apart all is = elim (column_fate column) [
    | inl lost ↦ elim (last_split front rest (column_at after column) step.card (sym e ∙ lost)) [
      | inl none ↦ absurd (apart (column_at after column) (sym (append-nil front) ∙ ap (λ l. front ++ l) (sym none) ∙ sym e ∙ lost))
      | inr more ↦ (more.0, more.2, λ x among. all x (rw more.1 (among_left x more.0 (step.card ∷ []) among)))
    ]
    | inr (inl won) ↦ (
      rest ++ step.card ∷ [],
      won ∙ ap (λ l. l ++ step.card ∷ []) e ∙ append_assoc front rest (step.card ∷ []),
      λ x among. elim (among_either x rest (step.card ∷ []) among) [
        | inl old ↦ all x old
        | inr (inl new) ↦ rw new is
        | inr (inr none) ↦ absurd none
      ],
    )
    | inr (inr same) ↦ (rest, same ∙ e, all)
  ]
