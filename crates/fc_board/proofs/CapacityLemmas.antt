-- What the capacity counts, and that the first card of a longer run stays.
use Rattle.std.proofs.Common.{◌&&◌, ◌*◌, ◌++◌, ◌+◌, ◌-◌, ◌<◌, ◌^◌, ◌||◌, ◌∙◌, ◌∷◌, ◌≡◌, ◌≤◌, [], ap, arith, Bool, cond}
use Rattle.std.proofs.Common.{eqb, false, get_or, length, List, map, None, not, Option, refl, Some, sym, true, ℕ}
use Rattle.std.proofs.lemmas.{Bool.{Decides.{nat_tests}, eqb-true}, List.{append_assoc, Elements.{filter_agree}}}
use Rattle.std.proofs.lemmas.List.{FromFn.{fill_by_all}, Sums.{length-filter, sum_by-cons}}
use Rattle.std.specs.{List.{count_by, filter}, Option.{is_none}}
use Rattle.fc_card.specs.{IsCard, places, rank_of}
use Rattle.fc_board.proofs.{AmongLemmas.{Clears.{cleared}, highest, newly}, BaseLemmas.{highest-pow}}
use Rattle.fc_board.proofs.{BoardLemmas.{in_cells, in_columns}, ConfinedLemmas.{stays_through}}
use Rattle.fc_board.proofs.{DeckLemmas.{found_is_card}, RunLemmas.{BuildsByRank, lower_in_run}}
use Rattle.fc_board.proofs.StandLemmas.{heads, Holds, Setting, Stands.{on_it}}
use Rattle.fc_board.specs.Boards.{Board, empty_cells_of, empty_columns_of, IsWellFormed}
use Rattle.fc_board.specs.{Games.{Builds, Fills, Game, is_king}, laws.ListWords.{IsRun, MovesPlay}}
use Rattle.fc_board.specs.Steps.{capacity, column_at, Confined, free_cells, is_helper, last_card, spare_columns}
use Rattle.fc_board.specs.declared.moves.{Move.{Move}, Source.TheVariants.{Column as FromColumn}}

pub count_map : {X Y : Type 0} (p : Y → Bool) (f : X → Y) (xs : List X) → count_by p (map f xs) ≡ count_by (λ x. p (f x)) xs
count_map p f [] = refl
count_map p f (x ∷ xs) =
    rw (sum_by-cons (λ y. cond (p y) 1 0) (f x) (map f xs), count_map p f xs, sum_by-cons (λ k. cond (p (f k)) 1 0) x xs)

pub counted : {X : Type 0} (p : X → Bool) (xs : List X) (n : ℕ) (d : X) → length xs ≡ n →
    length (filter (λ i. p (get_or xs i d)) (places n)) ≡ count_by p xs
counted p xs n d e =
    length-filter (λ i. p (get_or xs i d)) (places n) ∙ sym (count_map p (λ i. get_or xs i d) (places n)) ∙
    ap (count_by p) (sym (fill_by_all (λ i. get_or xs i d) xs n d e (λ k inside. refl)))

pub cells_counted : (game : Game) (board : Board) → IsWellFormed game board → length (free_cells game board) ≡ empty_cells_of board
cells_counted game board well = counted is_none board.cells game.cells None well.piles.all_cells

not_target : (e t : Bool) → (t ≡ true → e ≡ false) → (e && not t) ≡ e
not_target e true apart = ap (λ b. b && false) (apart refl) ∙ sym (apart refl)
not_target true false apart = refl
not_target false false apart = refl

some_not_empty : (column : List ℕ) (last : ℕ) → last_card column ≡ Some last → eqb (length column) 0 ≡ false
some_not_empty [] last e = cc
some_not_empty (x ∷ column) last e = grind (arith, nat_tests)

pub columns_counted : (game : Game) (board : Board) (to last : ℕ) → IsWellFormed game board → last_card (column_at board to) ≡ Some last →
    length (spare_columns board to) ≡ empty_columns_of board
columns_counted game board to last well e =
    ap length (filter_agree (is_helper board to) (λ column. eqb (length (column_at board column)) 0)
    (λ column. not_target (eqb (length (column_at board column)) 0) (eqb column to)
    (λ same. some_not_empty (column_at board column) last (ap (λ k. last_card (column_at board k)) (eqb-true column to same) ∙ e))) (places 8)) ∙
    counted (λ c. eqb (length c) 0) board.columns 8 [] well.piles.eight_columns

nothing_new : (now : List (Option ℕ)) → newly now now ≡ []
nothing_new [] = refl
nothing_new (None ∷ now) = nothing_new now
nothing_new (Some x ∷ now) = nothing_new now

pub ranks_below : (game : Game) → BuildsByRank game → (card : ℕ) (cards : List ℕ) → IsRun game (card ∷ cards) → length cards < rank_of card
ranks_below game by_rank card [] run = omega arith
ranks_below game by_rank card (next ∷ cards) run = let step = by_rank next card run.0 in omega (arith, ranks_below game by_rank next cards run.1)

at_start : (game : Game) (s : Setting game) → Holds game s s.start
at_start game s = record {
  well = s.well;
  on_source = (s.later, s.column ∙ sym (append_assoc s.under (s.first ∷ []) s.later), λ x among. among);
  on_target = refl;
  spare_columns = λ column empty x among. absurd (rw empty at among);
  stands =
      λ before above card lower e. on_it s.source (s.under ++ before) lower
      (s.column ∙ ap (λ l. s.under ++ l) e ∙ sym (append_assoc s.under before (above ∷ card ∷ lower)));
  clears = rw (ap (map rank_of) (nothing_new (heads s.start.columns))) cleared;
}

only_kings : (kings king : Bool) → (not kings || false) ≡ false → (not kings || king) ≡ true → king ≡ true
only_kings true king none e = e
only_kings false king none e = cc

too_many : (c e cells columns later rank : ℕ) (every : Bool) → c ≡ cells → e ≡ columns → later < rank → (c + 1) * cond every (2 ^ e) 1 < later + 1 →
    (rank - (later + 1)) + highest (cells + 1) (cond every columns 0) + (cells + 1) < rank
too_many c e cells columns later rank true p q high over =
    let sum = highest-pow (cells + 1) columns in
    let same : (c + 1) * 2 ^ e ≡ (cells + 1) * 2 ^ columns = ap (λ x. (x + 1) * 2 ^ e) p ∙ ap (λ x. (cells + 1) * 2 ^ x) q in
    omega arith
too_many c e cells columns later rank false p q high over = omega arith

module _ (game : Game) (kings_only : Bool) (by_rank : BuildsByRank game)
    (by_fill : (card : ℕ) → game.fills card ≡ (not kings_only || is_king card)) where
  room_for : (board : Board) (card : ℕ) (every : Bool) → game.fills 0 ≡ every → rank_of card < 13 → Fills game card →
      empty_columns_of board ≤ cond every (empty_columns_of board) 0
  room_for board card true e low fills = omega arith
  room_for board card false e low fills =
      let king : is_king card ≡ true = only_kings kings_only (is_king card) (sym (by_fill 0) ∙ e) (sym (by_fill card) ∙ fills) in
      absurd (omega (arith, eqb-true (rank_of card) 13 king))

  pub first_stays_put : (board after : Board) (from to first last : ℕ) (under later : List ℕ) (moves : List Move) → IsWellFormed game board →
      column_at board from ≡ under ++ first ∷ later → IsRun game (first ∷ later) →
      last_card (column_at board to) ≡ Some last → Builds game first last → capacity game board to < length (first ∷ later) →
      Confined board from to (first ∷ later) board moves → MovesPlay game board moves after →
      (rest : List ℕ) × (column_at after from ≡ under ++ first ∷ rest)
  first_stays_put board after from to first last under later moves well column run goes_to goes over confined plays =
      let high = ranks_below game by_rank first later run in
      let is : IsCard last = found_is_card board (FromColumn to) last (in_cells game board well, in_columns game board well) goes_to in
      let top = by_rank first last goes in
      let s : Setting game = record {
        start = board;
        source = from;
        target = to;
        under = under;
        first = first;
        later = later;
        goal = last;
        floor = rank_of first - (length later + 1);
        most = cond (game.fills 0) (empty_columns_of board) 0;
        by_rank = by_rank;
        well = well;
        column = column;
        run = run;
        at_floor = omega arith;
        goes_to = goes_to;
        goes = goes;
        room =
            λ card among fills. room_for board card (game.fills 0) refl (let l = lower_in_run game by_rank first later run card among in omega arith)
            fills;
      } in
      let h = stays_through game s
      (too_many (length (free_cells game board)) (length (spare_columns board to)) (empty_cells_of board) (empty_columns_of board) (length later)
      (rank_of first) (game.fills 0)
      (cells_counted game board well) (columns_counted game board to last well goes_to) high (omega arith)) board after moves (at_start game s)
      confined plays in
      let (rest, e, all) = h.on_source in
      (rest, e ∙ append_assoc under (first ∷ []) rest)
