-- Single moves of an expansion, and what a run that was moved leaves.
use Rattle.std.proofs.Common.{◌++◌, ◌-◌, ◌<◌, ◌∙◌, ◌∷◌, ◌≡◌, ◌≢◌, [], ap, arith, eqb, false, length, List, None, refl}
use Rattle.std.proofs.{Common.{set, Some, sym, ℕ}, lemmas.Bool.Decides.{nat_tests}}
use Rattle.std.proofs.lemmas.{List.{append_cancel_right, get_or_push, length_push}, Option.{slice_get-get_or}}
use Rattle.fc_board.proofs.{DeckLemmas.{stays_well_formed}, ListLemmas.{played_after}}
use Rattle.fc_board.proofs.MovedCard.{left_in_column, lies_in_column, other_columns}
use Rattle.fc_board.specs.{Boards.{Board, IsWellFormed}, Games.{Game}, laws.ListWords.{MovesPlay}, Moves.{move_between}}
use Rattle.fc_board.specs.Steps.{after_move, after_taking, Among, cell_at, column_at, Confined, IsOpenPlace}
use Rattle.fc_board.specs.Steps.{IsOpenSource, last_card, MayFollow, put_on, Step, taken_from}
use Rattle.fc_board.specs.declared.moves.{Move.{Move}, Place.TheVariants.{Cell as ToCell, Column as ToColumn}}
use Rattle.fc_board.specs.declared.moves.Source.TheVariants.{Cell as FromCell, Column as FromColumn}

pub last_pushed : (column : List ℕ) (card : ℕ) → last_card (column ++ card ∷ []) ≡ Some card
last_pushed column card =
    let longer = length_push column card in
    slice_get-get_or (column ++ card ∷ []) (length (column ++ card ∷ []) - 1) card (omega arith) ∙
    ap Some (get_or_push column card card (length (column ++ card ∷ []) - 1) (omega arith))

apart_test : (a b : ℕ) → a ≢ b → eqb a b ≡ false
apart_test a b apart = grind (arith, nat_tests)

-- the run went from the one column to the other, and all else is as it was
pub record Moved (game : Game) (board : Board) (from to : ℕ) (under full : List ℕ) (after : Board) : Type 0 where
  pub well : IsWellFormed game after
  pub heights : after.heights ≡ board.heights
  pub cells : after.cells ≡ board.cells
  pub left : column_at after from ≡ under
  pub goes : column_at after to ≡ full
  pub others : (column : ℕ) → column ≢ from → column ≢ to → column_at after column ≡ column_at board column

-- moves that are played and confined
pub record Route (game : Game) (start : Board) (source target : ℕ) (cards : List ℕ) (board : Board) (moves : List Move) (after : Board) : Type 0 where
  pub plays : MovesPlay game board moves after
  pub confined : Confined start source target cards board moves

module _ (game : Game) (start : Board) (source target : ℕ) (cards : List ℕ) where
  confined_then : (board between : Board) (moves others : List Move) → MovesPlay game board moves between →
      Confined start source target cards board moves → Confined start source target cards between others →
      Confined start source target cards board (moves ++ others)
  confined_then board between [] others plays first next = rw plays at next
  confined_then board between (move ∷ moves) others (after, step, plays) (a, b, c, first) next =
      let there : after_move board move ≡ after = ap (after_taking board move.from move.to) step.offered.1 ∙ sym step.moved in (
        a,
        b,
        c,
        rw there (confined_then after between moves others plays (rw there at first) next),
      )

  pub route_then : (board between after : Board) (moves others : List Move) → Route game start source target cards board moves between →
      Route game start source target cards between others after →
      Route game start source target cards board (moves ++ others) after
  route_then board between after moves others a b = record {
    plays = played_after (Step game) board between after moves others a.plays b.plays;
    confined = confined_then board between moves others a.plays a.confined b.confined;
  }

  pub route_of : (board after : Board) (move : Move) → (step : Step game board move after) → IsOpenSource start source target move.from →
      IsOpenPlace start source target move.to → Among step.card cards →
      Route game start source target cards board (move ∷ []) after
  route_of board after move step from to among = record { plays = (after, step, refl); confined = (from, to, (step.card, step.offered.1, among), tt) }

module _ (game : Game) (board : Board) (well : IsWellFormed game board) where
  -- from column to column
  pub across : (from to : ℕ) (under : List ℕ) (card : ℕ) (base : List ℕ) → from ≢ to → from < 8 → to < 8 → column_at board from ≡ under ++ card ∷ [] →
      column_at board to ≡ base → MayFollow game card (last_card base) →
      (after : Board) × (step : Step game board (move_between (FromColumn from) (ToColumn to)) after) × (step.card ≡ card) × Moved game board from to
      under (base ++ card ∷ []) after
  across from to under card base apart inside inside' here there goes =
      let move = move_between (FromColumn from) (ToColumn to) in
      let after : Board = put_on (taken_from board (FromColumn from)) card (ToColumn to) in
      let step : Step game board move after = record {
        fits = (inside, inside');
        card = card;
        offered = (apart_test from to apart, ap last_card here ∙ last_pushed under card);
        goes = rw there goes;
        moved = refl;
      } in (
        after,
        step,
        refl,
        record {
          well = stays_well_formed game board after move well step;
          heights = refl;
          cells = refl;
          left = append_cancel_right (column_at after from) under (card ∷ []) (sym (left_in_column game board after move step from refl) ∙ here);
          goes = rw there at (lies_in_column game board after move step well to refl);
          others = λ column a b. other_columns game board after move step column (λ e. a (cc e)) (λ e. b (cc e));
        },
      )

  -- from a column to a cell
  pub away : (from cell : ℕ) (under : List ℕ) (card : ℕ) → from < 8 → cell < game.cells → column_at board from ≡ under ++ card ∷ [] →
      cell_at board cell ≡ None →
      (after : Board) × (step : Step game board (move_between (FromColumn from) (ToCell cell)) after) × (step.card ≡ card) × IsWellFormed game
      after × (after.heights ≡ board.heights) × (after.cells ≡ set board.cells cell (Some card)) ×
      (column_at after from ≡ under) × ((column : ℕ) → column ≢ from → column_at after column ≡ column_at board column)
  away from cell under card inside inside' here free =
      let move = move_between (FromColumn from) (ToCell cell) in
      let after : Board = put_on (taken_from board (FromColumn from)) card (ToCell cell) in
      let step : Step game board move after = record
      { fits = (inside, inside'); card = card; offered = (refl, ap last_card here ∙ last_pushed under card); goes = free; moved = refl } in (
        after,
        step,
        refl,
        stays_well_formed game board after move well step,
        refl,
        refl,
        append_cancel_right (column_at after from) under (card ∷ []) (sym (left_in_column game board after move step from refl) ∙ here),
        λ column a. other_columns game board after move step column (λ e. a (cc e)) (λ e. cc e),
      )

  -- from a cell to a column
  pub back : (cell to : ℕ) (card : ℕ) → cell < game.cells → to < 8 → cell_at board cell ≡ Some card →
      MayFollow game card (last_card (column_at board to)) →
      (after : Board) × (step : Step game board (move_between (FromCell cell) (ToColumn to)) after) × (step.card ≡ card) × IsWellFormed game
      after × (after.heights ≡ board.heights) × (after.cells ≡ set board.cells cell None) ×
      (column_at after to ≡ column_at board to ++ card ∷ []) × ((column : ℕ) → column ≢ to → column_at after column ≡ column_at board column)
  back cell to card inside inside' held goes =
      let move = move_between (FromCell cell) (ToColumn to) in
      let after : Board = put_on (taken_from board (FromCell cell)) card (ToColumn to) in
      let step : Step game board move after = record { fits = (inside, inside'); card = card; offered = (refl, held); goes = goes; moved = refl } in (
        after,
        step,
        refl,
        stays_well_formed game board after move well step,
        refl,
        refl,
        lies_in_column game board after move step well to refl,
        λ column a. other_columns game board after move step column (λ e. cc e) (λ e. a (cc e)),
      )
