-- A step takes a card from one pile and puts it on another, and leaves every other pile as it is.
use Rattle.std.proofs.Common.{◌++◌, ◌+◌, ◌<◌, ◌∙◌, ◌∷◌, ◌≡◌, ◌≢◌, [], ap, arith, eqb, false, length, None, refl}
use Rattle.std.proofs.{Common.{slice_index, Some, sym, ℕ}, lemmas.Bool.{both_ways, eq-eqb}}
use Rattle.std.proofs.lemmas.List.{get_or-set_other, get_or-set_same}
use Rattle.fc_card.specs.{rank_of, suit_of}
use Rattle.fc_board.proofs.DeckLemmas.{inside_cells, inside_columns, sizes_taken, split_last}
use Rattle.fc_board.{proofs.StepLemmas.{heights_taken}, specs.{Boards.{Board, IsWellFormed}, Games.{Game}}}
use Rattle.fc_board.specs.Steps.{card_at, cell_at, column_at, height_of, is_same_pile, put_on, Step, taken_from}
use Rattle.fc_board.specs.Steps.{without_last}
use Rattle.fc_board.specs.declared.moves.{Move.{Move}, Place.{Place}}
use Rattle.fc_board.specs.declared.moves.{Place.TheVariants.{Cell as ToCell, Column as ToColumn, Home}, Source.{Source}}
use Rattle.fc_board.specs.declared.moves.Source.TheVariants.{Cell as FromCell, Column as FromColumn}

-- ---- the piles after a card is put

put_in_column : (board : Board) (card column : ℕ) → column < length board.columns →
    column_at (put_on board card (ToColumn column)) column ≡ column_at board column ++ card ∷ []
put_in_column board card column inside = get_or-set_same board.columns column (column_at board column ++ card ∷ []) [] inside

columns_beside_target : (board : Board) (card column : ℕ) (place : Place) → place ≢ ToColumn column →
    column_at (put_on board card place) column ≡ column_at board column
columns_beside_target board card column (ToColumn other) apart =
    get_or-set_other board.columns other column (column_at board other ++ card ∷ []) [] (λ same. apart (ap ToColumn (sym same)))
columns_beside_target board card column (ToCell cell) apart = refl
columns_beside_target board card column Home apart = refl

cells_beside_target : (board : Board) (card cell : ℕ) (place : Place) → place ≢ ToCell cell →
    cell_at (put_on board card place) cell ≡ cell_at board cell
cells_beside_target board card cell (ToColumn column) apart = refl
cells_beside_target board card cell (ToCell other) apart =
    get_or-set_other board.cells other cell (Some card) None (λ same. apart (ap ToCell (sym same)))
cells_beside_target board card cell Home apart = refl

foundations_beside_target : (board : Board) (card suit : ℕ) (place : Place) → (¬ ((place ≡ Home) × (suit ≡ suit_of card))) →
    height_of (put_on board card place) suit ≡ height_of board suit
foundations_beside_target board card suit (ToColumn column) apart = refl
foundations_beside_target board card suit (ToCell cell) apart = refl
foundations_beside_target board card suit Home apart =
    get_or-set_other board.heights (suit_of card) suit (height_of board (suit_of card) + 1) 0 (λ same. apart (refl, same))

-- ---- the piles after a card is taken

taken_off : (board : Board) (card column : ℕ) → card_at board (FromColumn column) ≡ Some card →
    column_at board column ≡ column_at (taken_from board (FromColumn column)) column ++ card ∷ []
taken_off board card column found =
    let rest = without_last (column_at board column) in
    rw (get_or-set_same board.columns column rest [] (inside_columns board.columns column card found)) (split_last (column_at board column) card found)

taken_out : (board : Board) (card cell : ℕ) → card_at board (FromCell cell) ≡ Some card → cell_at (taken_from board (FromCell cell)) cell ≡ None
taken_out board card cell found = get_or-set_same board.cells cell None None (inside_cells board.cells cell card found)

columns_beside_source : (board : Board) (column : ℕ) (source : Source) → source ≢ FromColumn column →
    column_at (taken_from board source) column ≡ column_at board column
columns_beside_source board column (FromColumn other) apart =
    get_or-set_other board.columns other column (without_last (column_at board other)) [] (λ same. apart (ap FromColumn (sym same)))
columns_beside_source board column (FromCell cell) apart = refl

cells_beside_source : (board : Board) (cell : ℕ) (source : Source) → source ≢ FromCell cell →
    cell_at (taken_from board source) cell ≡ cell_at board cell
cells_beside_source board cell (FromColumn column) apart = refl
cells_beside_source board cell (FromCell other) apart = get_or-set_other board.cells other cell None None (λ same. apart (ap FromCell (sym same)))

-- ---- the piles after a step

-- different piles are not both this column, or both this cell
not_both_columns : (source : Source) (place : Place) (column : ℕ) → is_same_pile source place ≡ false → source ≡ FromColumn column →
    place ≡ ToColumn column → ⊥
not_both_columns source place column other from to =
    both_ways (eqb column column) (rw (from, to) at other) (eq-eqb column column refl)

not_both_cells : (source : Source) (place : Place) (cell : ℕ) → is_same_pile source place ≡ false → source ≡ FromCell cell → place ≡ ToCell cell → ⊥
not_both_cells source place cell other from to =
    both_ways (eqb cell cell) (rw (from, to) at other) (eq-eqb cell cell refl)

module _ (game : Game) (board after : Board) (move : Move) (step : Step game board move after) where
  pub left_in_column : (column : ℕ) → move.from ≡ FromColumn column → column_at board column ≡ column_at after column ++ step.card ∷ []
  left_in_column column from =
      let found : card_at board (FromColumn column) ≡ Some step.card = rw from at step.offered.1 in
      let apart = not_both_columns move.from move.to column step.offered.0 from in
      taken_off board step.card column found ∙
      ap (λ source. column_at (taken_from board source) column ++ step.card ∷ []) (sym from) ∙
      ap (λ cards. cards ++ step.card ∷ []) (sym (columns_beside_target (taken_from board move.from) step.card column move.to apart)) ∙
      ap (λ b. column_at b column ++ step.card ∷ []) (sym step.moved)

  pub left_in_cell : (cell : ℕ) → move.from ≡ FromCell cell → (cell_at board cell ≡ Some step.card) × (cell_at after cell ≡ None)
  left_in_cell cell from =
      let found : card_at board (FromCell cell) ≡ Some step.card = rw from at step.offered.1 in
      let apart = not_both_cells move.from move.to cell step.offered.0 from in (
        found,
        ap (λ b. cell_at b cell) step.moved ∙
            cells_beside_target (taken_from board move.from) step.card cell move.to apart ∙
            ap (λ source. cell_at (taken_from board source) cell) from ∙ taken_out board step.card cell found,
      )

  pub lies_in_column : IsWellFormed game board → (column : ℕ) → move.to ≡ ToColumn column →
      column_at after column ≡ column_at board column ++ step.card ∷ []
  lies_in_column well column to =
      let fits : column < 8 = rw to at step.fits.1 in
      let sizes = sizes_taken board move.from in
      let eight = well.piles.eight_columns in
      let apart = λ (from : move.from ≡ FromColumn column). not_both_columns move.from move.to column step.offered.0 from to in
      ap (λ b. column_at b column) step.moved ∙
      ap (λ place. column_at (put_on (taken_from board move.from) step.card place) column) to ∙
      put_in_column (taken_from board move.from) step.card column (omega arith) ∙
      ap (λ cards. cards ++ step.card ∷ []) (columns_beside_source board column move.from apart)

  pub lies_in_cell : IsWellFormed game board → (cell : ℕ) → move.to ≡ ToCell cell →
      (cell_at board cell ≡ None) × (cell_at after cell ≡ Some step.card)
  lies_in_cell well cell to =
      let fits : cell < game.cells = rw to at step.fits.1 in
      let sizes = sizes_taken board move.from in
      let cells = well.piles.all_cells in (
        rw to at step.goes,
        ap (λ b. cell_at b cell) step.moved ∙
            ap (λ place. cell_at (put_on (taken_from board move.from) step.card place) cell) to ∙
            get_or-set_same (taken_from board move.from).cells cell (Some step.card) None (omega arith),
      )

  pub lies_home : IsWellFormed game board → move.to ≡ Home →
      (height_of board (suit_of step.card) + 1 ≡ rank_of step.card) × (height_of after (suit_of step.card) ≡ rank_of step.card)
  lies_home well to =
      let next : height_of board (suit_of step.card) + 1 ≡ rank_of step.card = rw to at step.goes in
      let four = well.piles.four_foundations in
      let same = heights_taken board move.from in
      let heights = (taken_from board move.from).heights in (
        next,
        ap (λ b. height_of b (suit_of step.card)) step.moved ∙
            ap (λ place. height_of (put_on (taken_from board move.from) step.card place) (suit_of step.card)) to ∙
            get_or-set_same heights (suit_of step.card) (slice_index heights (suit_of step.card) + 1) 0 (let sizes = ap length same in omega arith) ∙
            ap (λ hs. slice_index hs (suit_of step.card) + 1) same ∙ next,
      )

  pub other_columns : (column : ℕ) → move.from ≢ FromColumn column → move.to ≢ ToColumn column → column_at after column ≡ column_at board column
  other_columns column from to =
      ap (λ b. column_at b column) step.moved ∙ columns_beside_target (taken_from board move.from) step.card column move.to to ∙
      columns_beside_source board column move.from from

  pub other_cells : (cell : ℕ) → move.from ≢ FromCell cell → move.to ≢ ToCell cell → cell_at after cell ≡ cell_at board cell
  other_cells cell from to =
      ap (λ b. cell_at b cell) step.moved ∙ cells_beside_target (taken_from board move.from) step.card cell move.to to ∙
      cells_beside_source board cell move.from from

  pub other_foundations : (suit : ℕ) → (¬ ((move.to ≡ Home) × (suit ≡ suit_of step.card))) → height_of after suit ≡ height_of board suit
  other_foundations suit apart =
      ap (λ b. height_of b suit) step.moved ∙ foundations_beside_target (taken_from board move.from) step.card suit move.to apart ∙
      ap (λ heights. slice_index heights suit) (heights_taken board move.from)
