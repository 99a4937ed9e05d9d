-- Two empty piles of a board may be exchanged, so a card that goes to the one or to the other leads to equivalent boards.
use Rattle.std.proofs.Common.{◌<◌, ◌==◌, ◌∙◌, ◌≡◌, ◌≢◌, [], ap, ap₂, arith, Bool, cond, get_or, inl, inr, length, List}
use Rattle.std.proofs.Common.{map, None, Option, refl, set, Some, subst, sym, ℕ}
use Rattle.std.proofs.lemmas.{Bool.{cases_eq, eq-eqb, ne_eqb}, List.Elements.{All-get_or}}
use Rattle.std.proofs.lemmas.List.{FromFn.{get_or-map-range_with_len, length-range_with_len}, get_or-set_other}
use Rattle.std.proofs.lemmas.List.{get_or-set_same, get_or_default, length-map, length-set, same_lists}
use Rattle.fc_card.specs.{AllBelow, IsOrder}
use Rattle.fc_card.specs.laws.OrderLaws.{get_or-pick, length-pick, pick-places, place_of-IsOrder, places-IsOrder}
use Rattle.fc_card.specs.laws.RenamingLaws.{identity-IsRenaming, renamed_card-identity}
use Rattle.fc_card.specs.{pick, place_of, places, renamed_card}
use Rattle.fc_board.proofs.{BoardLemmas.{parts_same}, DeckLemmas.{stays_well_formed}, ImageLemmas.{place_in_places}}
use Rattle.fc_board.proofs.PassageLemmas.{carried-identity, map_unchanged, renamed_cell-identity}
use Rattle.fc_board.proofs.{RenamingLemmas.{fills-renamed_card, Keeps-identity}, StepCarried.{steps-exactly}}
use Rattle.fc_board.{proofs.StepLemmas.{one_after, step_from}, specs.Boards.{Board, HasAllPiles, IsWellFormed}}
use Rattle.fc_board.specs.{Games.{Game, RuleLaws}, Moves.{move_between, SourceFits}, Passages.{carried, carried_move}}
use Rattle.fc_board.specs.Passages.{IsPassage, Passage, renamed_cell, renamed_column, source_image}
use Rattle.fc_board.specs.Steps.{card_at, cell_at, column_at, last_card, Step}
use Rattle.fc_board.specs.declared.moves.{Move.{Move}, Place.{Place}}
use Rattle.fc_board.specs.declared.moves.{Place.TheVariants.{Cell as ToCell, Column as ToColumn, Home}, Source.{Source}}
use Rattle.fc_board.specs.declared.moves.Source.TheVariants.{Cell as FromCell, Column as FromColumn}
use Rattle.fc_canon.{proofs.LeastTextLemmas.{chosen-same, chosen_passage-Chosen}, specs.{chosen_passage, Equivalent}}
use Rattle.fc_bytes.{proofs.LegalMoves.{all_legal}, specs.{HoldsBoard}}
use Rattle.fc_bytes.specs.inside.{AreAlike, AreCells, AreFreeAlike, IsBetweenCells}
use Rattle.fc_bytes.specs.{IsAllowed, IsKeyAfter, legal_moves, move_bytes}
use Rattle.fc_bytes.specs.declared.{board.BoardBytes.{BoardBytes}, moves.MoveBytes.{MoveBytes}}

-- ---- two places exchanged
module _ (i j : ℕ) where
  abbrev pub swapped : ℕ → ℕ
  swapped k = cond (k == i) j (cond (k == j) i k)

  swapped-first : (k : ℕ) → k ≡ i → swapped k ≡ j
  swapped-first k same = ap (λ test. cond test j (cond (k == j) i k)) (eq-eqb k i same)

  swapped-second : (k : ℕ) → k ≡ j → swapped k ≡ i
  swapped-second k same = elim (cases_eq k i) [
    | inl first ↦ swapped-first k first ∙ sym same ∙ first
    | inr other ↦ ap (λ test. cond test j (cond (k == j) i k)) (ne_eqb k i other) ∙ ap (λ test. cond test i k) (eq-eqb k j same)
  ]

  pub swapped-other : (k : ℕ) → k ≢ i → k ≢ j → swapped k ≡ k
  swapped-other k one two =
      ap (λ test. cond test j (cond (k == j) i k)) (ne_eqb k i one) ∙ ap (λ test. cond test i k) (ne_eqb k j two)

  swapped-twice : (k : ℕ) → swapped (swapped k) ≡ k
  swapped-twice k = elim (cases_eq k i) [
    | inl first ↦ swapped-second (swapped k) (swapped-first k first) ∙ sym first
    | inr one ↦ elim (cases_eq k j) [
      | inl second ↦ swapped-first (swapped k) (swapped-second k second) ∙ sym second
      | inr two ↦ ap swapped (swapped-other k one two) ∙ swapped-other k one two
    ]
  ]

  module _ (count : ℕ) (first : i < count) (second : j < count) where
    abbrev pub swap : List ℕ
    swap = map swapped (places count)

    swap-there : (k d : ℕ) → k < count → get_or swap k d ≡ swapped k
    swap-there k d inside = get_or-map-range_with_len swapped 0 count k k d inside (omega arith)

    pub length-swap : length swap ≡ count
    length-swap = length-map (places count) swapped ∙ length-range_with_len 0 count

    swapped-below : (k : ℕ) → k < count → swapped k < count
    swapped-below k inside = elim (cases_eq k i) [
      | inl same ↦ omega (arith, swapped-first k same, second)
      | inr one ↦ elim (cases_eq k j) [
        | inl same ↦ omega (arith, swapped-second k same, first)
        | inr two ↦ omega (arith, swapped-other k one two, inside)
      ]
    ]

    pub swap-IsOrder : IsOrder swap
    swap-IsOrder = record {
      within = λ k h.
          let inside : k < count = omega (arith, h, length-swap) in
          omega (arith, length-swap, swap-there k 0 inside, swapped-below k inside);
      distinct = λ k l h h' e.
          let inside : k < count = omega (arith, h, length-swap) in
          let inside' : l < count = omega (arith, h', length-swap) in
          sym (swapped-twice k) ∙ ap swapped (sym (swap-there k 0 inside) ∙ e ∙ swap-there l 0 inside') ∙ swapped-twice l;
    }

    pub place_of-swap : (k : ℕ) → k < count → place_of swap k ≡ swapped k
    place_of-swap k inside =
        let (low, there) = place_of-IsOrder swap swap-IsOrder k (omega (arith, inside, length-swap)) in
        let at = place_of swap k in
        let inside' : at < count = omega (arith, low, length-swap) in
        sym (swapped-twice at) ∙ ap swapped (sym (swap-there at 0 inside') ∙ there)

    -- what is the same at both places stays
    pub pick-swap : {U : Type 0} (items : List U) (none : U) → length items ≡ count → get_or items i none ≡ get_or items j none →
        pick items swap ≡ items
    pick-swap items none long same =
        let within : AllBelow (length items) swap = λ k h. omega (arith, swap-IsOrder.within k h, length-swap, long) in
        same_lists (pick items swap) items (length-pick items swap within ∙ length-swap ∙ sym long) (λ k d h.
        let inside : k < count = omega (arith, h, length-pick items swap within, length-swap) in
        get_or-pick items swap k d within (omega (arith, inside, length-swap))
        ∙ ap (λ at. get_or items at d) (swap-there k 0 inside)
        ∙ get_or_default items (swapped k) d none (omega (arith, swapped-below k inside, long))
        ∙ stays k
        ∙ get_or_default items k none d (omega (arith, inside, long)))
      where
        stays : (k : ℕ) → get_or items (swapped k) none ≡ get_or items k none
        stays k = elim (cases_eq k i) [
          | inl one ↦ ap (λ at. get_or items at none) (swapped-first k one) ∙ sym same ∙ ap (λ at. get_or items at none) (sym one)
          | inr one ↦ elim (cases_eq k j) [
            | inl two ↦ ap (λ at. get_or items at none) (swapped-second k two) ∙ same ∙ ap (λ at. get_or items at none) (sym two)
            | inr two ↦ ap (λ at. get_or items at none) (swapped-other k one two)
          ]
        ]

-- ---- boards whose piles are in other orders
abbrev in_orders : List ℕ → List ℕ → Passage
in_orders columns cells = record { renaming = places 4; columns = columns; cells = cells }

in_orders-IsPassage : (game : Game) (columns cells : List ℕ) → IsOrder columns → length columns ≡ 8 → IsOrder cells → length cells ≡ game.cells →
    IsPassage game (in_orders columns cells)
in_orders-IsPassage game columns cells is eight is' all = record {
  renames = identity-IsRenaming;
  keeps = Keeps-identity game;
  orders = record { of_columns = is; eight_columns = eight; of_cells = is'; all_cells = all };
}

in_orders-leads : (game : Game) (board other : Board) (columns cells : List ℕ) → HasAllPiles game board → board.heights ≡ other.heights →
    pick board.columns columns ≡ other.columns → pick board.cells cells ≡ other.cells → carried (in_orders columns cells) board ≡ other
in_orders-leads game board other columns cells all same_heights same_columns same_cells =
    let one_column = map_unchanged (renamed_card (places 4)) renamed_card-identity in
    parts_same (carried (in_orders columns cells) board) other (ap (λ board. board.heights) (carried-identity {game = game} board all) ∙ same_heights)
    (ap (λ items. pick items cells) (map_unchanged (renamed_cell (places 4)) renamed_cell-identity board.cells) ∙ same_cells)
    (ap (λ items. pick items columns) (map_unchanged (renamed_column (places 4)) one_column board.columns) ∙ same_columns)

-- ---- moves to empty piles
module _ {game : Game} {renamings : List (List ℕ)} {cells count : ℕ} {kings_only : Bool}
    (laws : RuleLaws game renamings cells count kings_only) (board : Board) (well : IsWellFormed game board) where
  -- what leaves the board as it is, and the one move becomes the other under it
  by_passage : (passage : Passage) (one other : Move) (after after' : Board) → IsPassage game passage → carried passage board ≡ board →
      carried_move passage one ≡ other → Step game board one after → Step game board other after' → Equivalent game after after'
  by_passage passage one other after after' is stays leads step step' =
      let there = (steps-exactly is (fills-renamed_card laws) board (carried passage after) one well).1 (after, step, refl) in
      let same = one_after game board (carried passage after) after' other
      (subst (λ move. Step game board move (carried passage after)) leads (subst (λ board. Step game board (carried_move passage one) (carried passage after)) stays there)) step' in
      (passage, record { is_passage = is; there = sym same })

  to_other_cell : (source : Source) (i j : ℕ) (after after' : Board) → Step game board (move_between source (ToCell i)) after →
      Step game board (move_between source (ToCell j)) after' → Equivalent game after after'
  to_other_cell source i j after after' step step' =
      by_passage (in_orders (places 8) order) (move_between source (ToCell i)) (move_between source (ToCell j)) after after'
      (in_orders-IsPassage game (places 8) order (places-IsOrder 8) (length-range_with_len 0 8) (swap-IsOrder i j game.cells first second)
      (length-swap i j game.cells first second))
      (in_orders-leads game board board (places 8) order well.piles refl (pick-places board.columns 8 well.piles.eight_columns)
      (pick-swap i j game.cells first second board.cells None well.piles.all_cells (step.goes ∙ sym step'.goes)))
      (ap₂ move_between (same source step.card step.offered.1 step.fits.0) (ap ToCell (place_of-swap i j game.cells first second i first ∙ swapped-first i j i refl)))
      step step'
    where
      first : i < game.cells
      first = step.fits.1

      second : j < game.cells
      second = step'.fits.1

      order : List ℕ
      order = swap i j game.cells first second

      apart : (cell card place : ℕ) → cell_at board cell ≡ Some card → cell_at board place ≡ None → cell ≢ place
      apart cell card place found none e = let both : Some card ≡ None = sym found ∙ ap (cell_at board) e ∙ none in cc

      same : (source : Source) (card : ℕ) → card_at board source ≡ Some card → SourceFits game source → source_image (places 8) order source ≡ source
      same (FromColumn column) card found fits = ap FromColumn (place_in_places 8 column fits)
      same (FromCell cell) card found fits =
          ap FromCell (place_of-swap i j game.cells first second cell fits
          ∙ swapped-other i j cell (apart cell card i found step.goes) (apart cell card j found step'.goes))

  to_other_column : (source : Source) (i j : ℕ) (after after' : Board) → column_at board i ≡ [] → column_at board j ≡ [] →
      Step game board (move_between source (ToColumn i)) after → Step game board (move_between source (ToColumn j)) after' → Equivalent game after after'
  to_other_column source i j after after' empty empty' step step' =
      by_passage (in_orders order (places game.cells)) (move_between source (ToColumn i)) (move_between source (ToColumn j)) after after'
      (in_orders-IsPassage game order (places game.cells) (swap-IsOrder i j 8 first second) (length-swap i j 8 first second) (places-IsOrder game.cells)
      (length-range_with_len 0 game.cells))
      (in_orders-leads game board board order (places game.cells) well.piles refl
      (pick-swap i j 8 first second board.columns [] well.piles.eight_columns (empty ∙ sym empty')) (pick-places board.cells game.cells well.piles.all_cells))
      (ap₂ move_between (same source step.card step.offered.1 step.fits.0) (ap ToColumn (place_of-swap i j 8 first second i first ∙ swapped-first i j i refl)))
      step step'
    where
      first : i < 8
      first = step.fits.1

      second : j < 8
      second = step'.fits.1

      order : List ℕ
      order = swap i j 8 first second

      apart : (column card place : ℕ) → last_card (column_at board column) ≡ Some card → column_at board place ≡ [] → column ≢ place
      apart column card place found none e =
          let both : Some card ≡ None = sym found ∙ ap (λ at. last_card (column_at board at)) e ∙ ap last_card none in cc

      same : (source : Source) (card : ℕ) → card_at board source ≡ Some card → SourceFits game source → source_image order (places game.cells) source ≡ source
      same (FromColumn column) card found fits =
          ap FromColumn (place_of-swap i j 8 first second column fits
          ∙ swapped-other i j column (apart column card i found empty) (apart column card j found empty'))
      same (FromCell cell) card found fits = ap FromCell (place_in_places game.cells cell fits)

  alike-Equivalent : (one other : Move) (after after' : Board) → AreAlike board one other → Step game board one after → Step game board other after' →
      Equivalent game after after'
  alike-Equivalent one other after after' (same, free) = by one.from other.from one.to other.to same free
    where
      by : (source source' : Source) (to to' : Place) → source ≡ source' → AreFreeAlike board to to' → Step game board (move_between source to) after →
          Step game board (move_between source' to') after' → Equivalent game after after'
      by source source' (ToCell i) (ToCell j) same free step step' =
          to_other_cell source i j after after' step (subst (λ source. Step game board (move_between source (ToCell j)) after') (sym same) step')
      by source source' (ToColumn i) (ToColumn j) same (empty, empty') step step' =
          to_other_column source i j after after' empty empty' step (subst (λ source. Step game board (move_between source (ToColumn j)) after') (sym same) step')
      by source source' (ToCell i) (ToColumn j) same free step step' = absurd free
      by source source' (ToCell i) Home same free step step' = absurd free
      by source source' (ToColumn i) (ToCell j) same free step step' = absurd free
      by source source' (ToColumn i) Home same free step step' = absurd free
      by source source' Home (ToCell j) same free step step' = absurd free
      by source source' Home (ToColumn j) same free step step' = absurd free
      by source source' Home Home same free step step' = absurd free

  -- one key serves for both
  pub key-alike : (one other : Move) (key : BoardBytes) → AreAlike board one other → IsAllowed game board other →
      IsKeyAfter game renamings board one key → IsKeyAfter game renamings board other key
  key-alike one other key alike (fits, free) (after, way, step, chosen, holds) =
      let (after', step') = step_from game board other fits free in
      let well' = stays_well_formed game board after one well step in
      let well'' = stays_well_formed game board after' other well step' in
      let chosen' = chosen_passage-Chosen laws after' well'' in
      let same = chosen-same game renamings after after' way (chosen_passage renamings after') well' well'' chosen chosen'
      (alike-Equivalent one other after after' alike step step') in
      (after', chosen_passage renamings after', step', chosen', subst (HoldsBoard game key) same holds)

  -- a card that goes from cell to cell exchanges two cells
  between-Equivalent : (i j : ℕ) (after : Board) → Step game board (move_between (FromCell i) (ToCell j)) after → Equivalent game board after
  between-Equivalent i j after step = (
    in_orders (places 8) order,
    record {
      is_passage = in_orders-IsPassage game (places 8) order (places-IsOrder 8) (length-range_with_len 0 8) (swap-IsOrder i j game.cells first second)
          (length-swap i j game.cells first second);
      there = sym (in_orders-leads game board after (places 8) order well.piles (sym (ap (λ board. board.heights) step.moved))
          (pick-places board.columns 8 well.piles.eight_columns ∙ sym (ap (λ board. board.columns) step.moved)) (exchanged ∙ sym (ap (λ board. board.cells) step.moved)));
    },
  )
    where
      first : i < game.cells
      first = step.fits.0

      second : j < game.cells
      second = step.fits.1

      order : List ℕ
      order = swap i j game.cells first second

      apart : i ≢ j
      apart e = let both : Some step.card ≡ None = sym step.offered.1 ∙ ap (cell_at board) e ∙ step.goes in cc

      long : length board.cells ≡ game.cells
      long = well.piles.all_cells

      within : AllBelow (length board.cells) order
      within = λ k h. omega (arith, (swap-IsOrder i j game.cells first second).within k h, length-swap i j game.cells first second, long)

      taken : List (Option ℕ)
      taken = set board.cells i None

      as_many : length taken ≡ length board.cells
      as_many = length-set board.cells i None

      at_each : (k : ℕ) (d : Option ℕ) → k < game.cells → get_or board.cells (swapped i j k) d ≡ get_or (set taken j (Some step.card)) k d
      at_each k d inside = elim (cases_eq k j) [
        | inl two ↦
            ap (λ at. get_or board.cells at d) (swapped-second i j k two) ∙ get_or_default board.cells i d None (omega (arith, first, long)) ∙ step.offered.1
            ∙ sym (get_or-set_same taken j (Some step.card) d (omega (arith, second, long, as_many))) ∙ ap (λ at. get_or (set taken j (Some step.card)) at d) (sym two)
        | inr other ↦ elim (cases_eq k i) [
          | inl one ↦
              ap (λ at. get_or board.cells at d) (swapped-first i j k one) ∙ get_or_default board.cells j d None (omega (arith, second, long)) ∙ step.goes
              ∙ sym (get_or-set_same board.cells i None d (omega (arith, first, long))) ∙ ap (λ at. get_or taken at d) (sym one)
              ∙ sym (get_or-set_other taken j k (Some step.card) d other)
          | inr not ↦
              ap (λ at. get_or board.cells at d) (swapped-other i j k not other) ∙ sym (get_or-set_other board.cells i k None d not)
              ∙ sym (get_or-set_other taken j k (Some step.card) d other)
        ]
      ]

      exchanged : pick board.cells order ≡ set taken j (Some step.card)
      exchanged =
          let picked = length-pick board.cells order within ∙ length-swap i j game.cells first second in
          same_lists (pick board.cells order) (set taken j (Some step.card)) (picked ∙ sym long ∙ sym (length-set taken j (Some step.card) ∙ as_many)) (λ k d h.
          let inside : k < game.cells = omega (arith, h, picked) in
          get_or-pick board.cells order k d within (omega (arith, inside, length-swap i j game.cells first second))
          ∙ ap (λ at. get_or board.cells at d) (swap-there i j game.cells first second k 0 inside) ∙ at_each k d inside)

  -- one key serves for all of them
  pub key-between : (one other : Move) (key : BoardBytes) → IsBetweenCells one → IsBetweenCells other → IsAllowed game board other →
      IsKeyAfter game renamings board one key → IsKeyAfter game renamings board other key
  key-between one other key between between' (fits, free) (after, way, step, chosen, holds) =
      let (after', step') = step_from game board other fits free in
      let well' = stays_well_formed game board after one well step in
      let well'' = stays_well_formed game board after' other well step' in
      let chosen' = chosen_passage-Chosen laws after' well'' in
      let own = chosen_passage-Chosen laws board well in
      let there = chosen-same game renamings board after (chosen_passage renamings board) way well well' own chosen (by one.from one.to after between step) in
      let there' = chosen-same game renamings board after' (chosen_passage renamings board) (chosen_passage renamings after') well well'' own chosen'
      (by other.from other.to after' between' step') in
      (after', chosen_passage renamings after', step', chosen', subst (HoldsBoard game key) (sym there ∙ there') holds)
    where
      by : (source : Source) (to : Place) (after : Board) → AreCells source to → Step game board (move_between source to) after → Equivalent game board after
      by (FromCell i) (ToCell j) after cells step = between-Equivalent i j after step
      by (FromCell i) (ToColumn j) after cells step = absurd cells
      by (FromCell i) Home after cells step = absurd cells
      by (FromColumn i) to after cells step = absurd cells

  -- the key after an earlier move is that after this one too, if it is where the earlier move is allowed
  pub key-again : (bytes : List MoveBytes) (keys : List BoardBytes) (at place : ℕ) (any : Move) (none : BoardBytes) → at < place →
      place < length bytes → bytes ≡ map move_bytes (legal_moves game board) →
      ((key : BoardBytes) → IsAllowed game board (get_or (legal_moves game board) place any) →
      IsKeyAfter game renamings board (get_or (legal_moves game board) at any) key → IsKeyAfter game renamings board (get_or (legal_moves game board) place any) key) →
      ((k : ℕ) (move : Move) (key : BoardBytes) → k < place →
      IsKeyAfter game renamings board (get_or (legal_moves game board) k move) (get_or keys k key)) →
      (move : Move) → IsKeyAfter game renamings board (get_or (legal_moves game board) place move) (get_or keys at none)
  key-again bytes keys at place any none earlier inside are serves before move =
      let legal = legal_moves game board in
      let there : place < length legal = omega (arith, inside, ap length are ∙ length-map legal move_bytes) in
      let key = get_or keys at none in
      subst (λ other. IsKeyAfter game renamings board other key) (get_or_default legal place any move there)
      (serves key (All-get_or (IsAllowed game board) legal place any there (all_legal game board)) (before at any none earlier))
