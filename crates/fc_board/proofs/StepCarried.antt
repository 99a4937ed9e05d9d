-- A step and its image: each leads to the carried board of the other's.
use Rattle.std.proofs.Common.{◌++◌, ◌+◌, ◌<◌, ◌↔◌, ◌∙◌, ◌∷◌, ◌≡◌, [], ap, arith, List, map, None, Option, refl, set}
use Rattle.std.proofs.{Common.{Some, sym, ℕ}, lemmas.List.{map-append}}
use Rattle.fc_card.{proofs.PermutationLemmas.{pick-set, place-inside, place_of-inverse_order}, specs.{inverse_order}}
use Rattle.fc_card.specs.laws.OrderLaws.{inverse_order-IsOrder, length-inverse_order}
use Rattle.fc_card.specs.laws.RenamingLaws.{suit_of-below, suit_of-renamed_card}
use Rattle.fc_card.specs.{pick, place_of, renamed_card, suit_of}
use Rattle.fc_board.proofs.{BoardLemmas.{parts_same}, DeckLemmas.{sizes_taken}, ImageLemmas.{image-Fits}}
use Rattle.fc_board.proofs.RefusalCarried.{column-carried, FillsByRank, found-carried, height-carried, refusal-carried}
use Rattle.fc_board.proofs.RefusalCarried.{rest-renamed, set-carried}
use Rattle.fc_board.proofs.StepLemmas.{not_refused_at_step, one_after, step_from, step_of}
use Rattle.fc_board.specs.{Boards.{Board, HasAllPiles, IsWellFormed}, Games.{Game}, Moves.{Fits, PlaceFits, SourceFits}}
use Rattle.fc_board.specs.Passages.{carried, carried_move, IsPassage, Passage, renamed_cell, renamed_column}
use Rattle.fc_board.specs.Passages.{renamed_heights, source_image, target_image}
use Rattle.fc_board.specs.Steps.{column_at, height_of, put_on, Step, taken_from, without_last}
use Rattle.fc_board.specs.declared.moves.{Move.{Move}, Place.{Place}}
use Rattle.fc_board.specs.declared.moves.{Place.TheVariants.{Cell as ToCell, Column as ToColumn, Home}, Source.{Source}}
use Rattle.fc_board.specs.declared.moves.Source.TheVariants.{Cell as FromCell, Column as FromColumn}

taken-HasAllPiles : (game : Game) (board : Board) (source : Source) → HasAllPiles game board → HasAllPiles game (taken_from board source)
taken-HasAllPiles game board source all =
    let sizes = sizes_taken board source in
    record { four_foundations = sizes.0 ∙ all.four_foundations; all_cells = sizes.1 ∙ all.all_cells; eight_columns = sizes.2 ∙ all.eight_columns }

module _ {game : Game} {passage : Passage} (is : IsPassage game passage) where
  -- ---- boards after a card is taken or put
  -- another column, or another cell, under the passage
  column-set : (board : Board) → HasAllPiles game board → (column : ℕ) → column < 8 → (new new' : List ℕ) →
      renamed_column passage.renaming new ≡ new' → pick (map (renamed_column passage.renaming) (set board.columns column new)) passage.columns ≡
      set (carried passage board).columns (place_of passage.columns column) new'
  column-set board all column inside new new' same =
      let long = all.eight_columns ∙ sym is.orders.eight_columns in
      set-carried (renamed_column passage.renaming) board.columns passage.columns column new new' same
      is.orders.of_columns long (omega (arith, is.orders.eight_columns))

  cell-set : (board : Board) → HasAllPiles game board → (cell : ℕ) → cell < game.cells → (new : Option ℕ) →
      pick (map (renamed_cell passage.renaming) (set board.cells cell new)) passage.cells ≡
      set (carried passage board).cells (place_of passage.cells cell) (renamed_cell passage.renaming new)
  cell-set board all cell inside new =
      let long = all.all_cells ∙ sym is.orders.all_cells in
      set-carried (renamed_cell passage.renaming) board.cells passage.cells cell new (renamed_cell passage.renaming new) refl
      is.orders.of_cells long (omega (arith, is.orders.all_cells))

  taken-carried : (board : Board) (source : Source) → HasAllPiles game board → SourceFits game source →
      carried passage (taken_from board source) ≡ taken_from (carried passage board) (source_image passage.columns passage.cells source)
  taken-carried board (FromColumn column) all fits =
      let at = place_of passage.columns column in
      let rest = without_last (column_at board column) in
      let rest' = without_last (column_at (carried passage board) at) in
      let same = sym (ap without_last (column-carried is board column all fits) ∙ rest-renamed passage.renaming (column_at board column)) in
      parts_same (carried passage (taken_from board (FromColumn column))) (taken_from (carried passage board) (FromColumn at)) refl refl
      (column-set board all column fits rest rest' same)
  taken-carried board (FromCell cell) all fits =
      let at = place_of passage.cells cell in
      parts_same (carried passage (taken_from board (FromCell cell))) (taken_from (carried passage board) (FromCell at)) refl
      (cell-set board all cell fits None) refl

  heights-carried : (board : Board) (card : ℕ) → HasAllPiles game board →
      renamed_heights passage.renaming (set board.heights (suit_of card) (height_of board (suit_of card) + 1)) ≡
      set (renamed_heights passage.renaming board.heights) (suit_of (renamed_card passage.renaming card))
      (height_of (carried passage board) (suit_of (renamed_card passage.renaming card)) + 1)
  heights-carried board card all =
      let back = inverse_order passage.renaming in
      let four = is.renames.four in
      let long = length-inverse_order passage.renaming in
      let suit = suit_of-below card in
      let image = place_of-inverse_order passage.renaming (suit_of card) is.renames.order (omega arith) in
      pick-set board.heights back (suit_of card) (height_of board (suit_of card) + 1)
      (inverse_order-IsOrder passage.renaming is.renames.order) (all.four_foundations ∙ sym (long ∙ four)) (omega arith) ∙
      ap (λ at. set (renamed_heights passage.renaming board.heights) at (height_of board (suit_of card) + 1))
      (image ∙ sym (suit_of-renamed_card passage.renaming card is.renames)) ∙
      ap (λ height. set (renamed_heights passage.renaming board.heights) (suit_of (renamed_card passage.renaming card)) (height + 1))
      (sym (height-carried is board card all))

  put-carried : (board : Board) (card : ℕ) (place : Place) → HasAllPiles game board → PlaceFits game place →
      carried passage (put_on board card place) ≡
      put_on (carried passage board) (renamed_card passage.renaming card) (target_image passage.columns passage.cells place)
  put-carried board card (ToColumn column) all fits =
      let image = renamed_card passage.renaming card in
      let at = place_of passage.columns column in
      let longer = map-append (renamed_card passage.renaming) (column_at board column) (card ∷ []) ∙
      ap (λ cards. cards ++ image ∷ []) (sym (column-carried is board column all fits)) in
      parts_same (carried passage (put_on board card (ToColumn column))) (put_on (carried passage board) image (ToColumn at)) refl refl
      (column-set board all column fits (column_at board column ++ card ∷ []) (column_at (carried passage board) at ++ image ∷ []) longer)
  put-carried board card (ToCell cell) all fits =
      let image = renamed_card passage.renaming card in
      let at = place_of passage.cells cell in
      parts_same (carried passage (put_on board card (ToCell cell))) (put_on (carried passage board) image (ToCell at)) refl
      (cell-set board all cell fits (Some card)) refl
  put-carried board card Home all fits =
      parts_same (carried passage (put_on board card Home)) (put_on (carried passage board) (renamed_card passage.renaming card) Home)
      (heights-carried board card all) refl refl

  moved-carried : (board : Board) (card : ℕ) (move : Move) → HasAllPiles game board → Fits game move →
      carried passage (put_on (taken_from board move.from) card move.to) ≡
      put_on (taken_from (carried passage board) (carried_move passage move).from) (renamed_card passage.renaming card) (carried_move passage move).to
  moved-carried board card move all fits =
      rw (← taken-carried board move.from all fits.0) (put-carried (taken_from board move.from) card move.to (taken-HasAllPiles game board move.from all) fits.1)

  -- ---- a move fits where its image does
  source-Fits : (source : Source) → SourceFits game (source_image passage.columns passage.cells source) → SourceFits game source
  source-Fits (FromColumn column) fits =
      let eight = is.orders.eight_columns in
      let inside = place-inside passage.columns column is.orders.of_columns (omega arith) in omega arith
  source-Fits (FromCell cell) fits =
      let all = is.orders.all_cells in
      let inside = place-inside passage.cells cell is.orders.of_cells (omega arith) in omega arith

  place-Fits : (place : Place) → PlaceFits game (target_image passage.columns passage.cells place) → PlaceFits game place
  place-Fits (ToColumn column) fits =
      let eight = is.orders.eight_columns in
      let inside = place-inside passage.columns column is.orders.of_columns (omega arith) in omega arith
  place-Fits (ToCell cell) fits =
      let all = is.orders.all_cells in
      let inside = place-inside passage.cells cell is.orders.of_cells (omega arith) in omega arith
  place-Fits Home fits = tt

  pub move-Fits : (move : Move) → Fits game (carried_move passage move) → Fits game move
  move-Fits move fits = (source-Fits move.from fits.0, place-Fits move.to fits.1)

  -- ---- steps
  pub step-carried : FillsByRank game → (board after : Board) (move : Move) → IsWellFormed game board →
      Step game board move after → Step game (carried passage board) (carried_move passage move) (carried passage after)
  step-carried fills board after move well step =
      let all = well.piles in
      rw (step.moved, moved-carried board step.card move all step.fits)
      (step_of game (carried passage board) (carried_move passage move) (renamed_card passage.renaming step.card)
      (image-Fits game passage.columns passage.cells move is.orders step.fits)
      (found-carried is board move.from all step.fits.0 ∙ ap (renamed_cell passage.renaming) step.offered.1)
      (refusal-carried is fills board move well step.fits ∙ not_refused_at_step game board after move step))

  pub step-back : FillsByRank game → (board other : Board) (move : Move) → IsWellFormed game board →
      Step game (carried passage board) (carried_move passage move) other →
      (after : Board) × Step game board move after × (other ≡ carried passage after)
  step-back fills board other move well step =
      let fits = move-Fits move step.fits in
      let free =
      sym (refusal-carried is fills board move well fits) ∙ not_refused_at_step game (carried passage board) other (carried_move passage move) step in
      let (after, step') = step_from game board move fits free in
      let onto = step-carried fills board after move well step' in
      (after, step', one_after game (carried passage board) other (carried passage after) (carried_move passage move) step onto)

  pub steps-exactly : FillsByRank game → (board other : Board) (move : Move) → IsWellFormed game board →
      Step game (carried passage board) (carried_move passage move) other ↔ ((after : Board) × Step game board move after × (other ≡ carried passage after))
  steps-exactly fills board other move well = (
    step-back fills board other move well,
    λ (after, step, there). rw there (step-carried fills board after move well step),
  )
