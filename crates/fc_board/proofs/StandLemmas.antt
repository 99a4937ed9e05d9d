-- Where the cards of a run are while it is taken apart, and what is below a card that can be taken.
use Rattle.std.proofs.Common.{◌++◌, ◌+◌, ◌<◌, ◌∙◌, ◌∷◌, ◌≡◌, ◌≤◌, [], ap, arith, cond, eqb, get_or, inl, inr, length}
use Rattle.std.proofs.Common.{List, map, None, Option, refl, set, Some, subst, suc, sym, zero, ℕ}
use Rattle.std.proofs.lemmas.Bool.{cases_eq, cases_lt, Decides.{nat_tests}}
use Rattle.std.proofs.lemmas.List.{append_assoc, get_or-set_other, get_or-set_same, length-map, Sums.{sum_by-cons}}
use Rattle.std.specs.{List.{count_by, flat_map}, Option.{is_none, option_to_list}}
use Rattle.fc_card.specs.{count_of, IsCard, rank_of}
use Rattle.fc_board.proofs.AmongLemmas.{AllAmong, among_left, among_map, among_right, Clears, last_split, newly}
use Rattle.fc_board.proofs.AmongLemmas.{newly_among}
use Rattle.fc_board.proofs.BoardLemmas.{count_of-append, count_of-cons, in_cells, in_columns}
use Rattle.fc_board.proofs.DeckLemmas.{count_taken, found_is_card, inside_columns, one_if_same, split_last}
use Rattle.fc_board.proofs.RunLemmas.{BuildsByRank, neighbours, rank_in_run}
use Rattle.fc_board.specs.{Boards.{Board, empty_cells_of, empty_columns_of, IsWellFormed}, Games.{Builds, Fills, Game}}
use Rattle.fc_board.specs.laws.ListWords.{IsRun}
use Rattle.fc_board.specs.Steps.{Among, card_at, cell_at, column_at, last_card, taken_from, without_last}
use Rattle.fc_board.specs.declared.moves.Source.{Source, TheVariants.{Cell as FromCell, Column as FromColumn}}

-- ---- no card lies on one that can be taken

itself : (a b : ℕ) → a ≡ b → cond (eqb b a) (suc zero) zero ≡ suc zero
itself a b e = grind (arith, nat_tests)

among_counts : (x : ℕ) (xs : List ℕ) → Among x xs → 1 ≤ count_of x xs
among_counts x [] among = absurd among
among_counts x (y ∷ xs) (inl same) = let e = count_of-cons x y xs in let one = itself x y same in omega arith
among_counts x (y ∷ xs) (inr rest) = let e = count_of-cons x y xs in omega (arith, among_counts x xs rest)

count_in_columns : (x : ℕ) (columns : List (List ℕ)) (k : ℕ) → count_of x (get_or columns k []) ≤ count_of x (flat_map (λ c. c) columns)
count_in_columns x [] k = omega arith
count_in_columns x (column ∷ columns) zero = omega (arith, count_of-append x column (flat_map (λ c. c) columns))
count_in_columns x (column ∷ columns) (suc k) = omega (arith, count_of-append x column (flat_map (λ c. c) columns), count_in_columns x columns k)

once : (x : ℕ) → one_if_same x x ≡ 1
once x = grind (arith, nat_tests)

still_among : (board : Board) (source : Source) (x column : ℕ) (before : List ℕ) (y : ℕ) (rest : List ℕ) → card_at board source ≡ Some x →
    column_at board column ≡ before ++ x ∷ y ∷ rest → Among x (column_at (taken_from board source) column)
still_among board (FromCell cell) x column before y rest found e = rw e (among_right x before (x ∷ y ∷ rest) (inl refl))
still_among board (FromColumn other) x column before y rest found e = elim (cases_eq other column) [
  | inl same ↦
      let here : last_card (column_at board column) ≡ Some x = ap (λ k. last_card (column_at board k)) (sym same) ∙ found in
      let there = inside_columns board.columns column x here in
      let taken = ap (λ k. get_or (set board.columns k (without_last (column_at board k))) column []) same
      ∙ get_or-set_same board.columns column (without_last (column_at board column)) [] there in
      subst (Among x) (sym taken)
      (elim (last_split (before ++ x ∷ []) (y ∷ rest) (without_last (column_at board column)) x
      (append_assoc before (x ∷ []) (y ∷ rest) ∙ sym e ∙ split_last (column_at board column) x here)) [
        | inl none ↦ cc
        | inr more ↦ rw more.2 (among_left x (before ++ x ∷ []) more.0 (among_right x before (x ∷ []) (inl refl)))
      ])
  | inr apart ↦
      subst (Among x) (sym (get_or-set_other board.columns other column (without_last (column_at board other)) [] (λ same. apart (sym same))))
      (rw e (among_right x before (x ∷ y ∷ rest) (inl refl)))
]

pub nothing_on_it : (game : Game) (board : Board) (source : Source) (x column : ℕ) (before : List ℕ) (y : ℕ) (rest : List ℕ) →
    IsWellFormed game board → card_at board source ≡ Some x →
    column_at board column ≡ before ++ x ∷ y ∷ rest → ⊥
nothing_on_it game board source x column before y rest well found e =
    let is : IsCard x = found_is_card board source x (in_cells game board well, in_columns game board well) found in
    let one = well.one_place x is in
    let taken = count_taken x board source x found in
    let self = once x in
    let some = among_counts x (column_at (taken_from board source) column) (still_among board source x column before y rest found e) in
    let within = count_in_columns x (taken_from board source).columns column in
    let parts = count_of-append x (flat_map option_to_list (taken_from board source).cells) (flat_map (λ c. c) (taken_from board source).columns) in
    omega arith

-- ---- the first cards of the columns

abbrev pub first_card : List ℕ → Option ℕ
first_card [] = None
first_card (card ∷ cards) = Some card

abbrev pub heads : List (List ℕ) → List (Option ℕ)
heads columns = map first_card columns

pub head_at : (columns : List (List ℕ)) (k : ℕ) → get_or (heads columns) k None ≡ first_card (get_or columns k [])
head_at [] k = refl
head_at (column ∷ columns) zero = refl
head_at (column ∷ columns) (suc k) = head_at columns k

one_head : (c : List ℕ) (m n : ℕ) → m ≡ n → cond (is_none (first_card c)) 1 0 + m ≡ cond (eqb (length c) 0) 1 0 + n
one_head [] m n e = rw e
one_head (x ∷ xs) m n e = grind (arith, nat_tests)

pub heads_empty : (columns : List (List ℕ)) → count_by is_none (heads columns) ≡ count_by (λ column. eqb (length column) 0) columns
heads_empty [] = refl
heads_empty (column ∷ columns) =
    sum_by-cons (λ x. cond (is_none x) 1 0) (first_card column) (heads columns)
    ∙ one_head column (count_by is_none (heads columns)) (count_by (λ c. eqb (length c) 0) columns) (heads_empty columns) ∙
    sym (sum_by-cons (λ c. cond (eqb (length c) 0) 1 0) column columns)

-- the bases: the ranks of the cards that now are first in columns that were empty
abbrev pub bases : List (Option ℕ) → List (Option ℕ) → List ℕ
bases before now = map rank_of (newly before now)

-- ---- the setting

-- a run that goes to a column with cards
pub record Setting (game : Game) : Type 0 where
  pub start : Board
  pub source : ℕ
  pub target : ℕ
  pub under : List ℕ
  pub first : ℕ
  pub later : List ℕ
  pub goal : ℕ
  pub floor : ℕ
  pub most : ℕ
  pub by_rank : BuildsByRank game
  pub well : IsWellFormed game start
  pub column : column_at start source ≡ under ++ first ∷ later
  pub run : IsRun game (first ∷ later)
  pub at_floor : rank_of first ≡ floor + 1 + length later
  pub goes_to : last_card (column_at start target) ≡ Some goal
  pub goes : Builds game first goal
  pub room : (card : ℕ) → Among card later → Fills game card → empty_columns_of start ≤ most

-- a card of the run is in a cell or first in a column that were empty at the start, or right after the card that it goes on
pub data Stands (start board : Board) (above card : ℕ) : Type 0 where
  in_cell : (cell : ℕ) → cell_at start cell ≡ None → cell_at board cell ≡ Some card → Stands start board above card
  first_there : (column : ℕ) (rest : List ℕ) → column_at start column ≡ [] → column_at board column ≡ card ∷ rest → Stands start board above card
  on_it : (column : ℕ) (before rest : List ℕ) → column_at board column ≡ before ++ above ∷ card ∷ rest → Stands start board above card

abbrev pub reach_of : {game : Game} → Setting game → ℕ
reach_of s = empty_cells_of s.start + 1

-- what holds while the first card of the run stays
pub record Holds (game : Game) (s : Setting game) (board : Board) : Type 0 where
  pub well : IsWellFormed game board
  pub on_source : (rest : List ℕ) × (column_at board s.source ≡ (s.under ++ s.first ∷ []) ++ rest) × AllAmong rest s.later
  pub on_target : column_at board s.target ≡ column_at s.start s.target
  pub spare_columns : (column : ℕ) → column_at s.start column ≡ [] → AllAmong (column_at board column) s.later
  pub stands : (before : List ℕ) (above card : ℕ) (lower : List ℕ) → s.first ∷ s.later ≡ before ++ above ∷ card ∷ lower →
      Stands s.start board above card
  pub clears : Clears (reach_of s) s.most s.floor (bases (heads s.start.columns) (heads board.columns))

-- ---- below a card that can be taken all cards are in cells, down to the next base

pub record Support (game : Game) (s : Setting game) (board : Board) (above : ℕ) : Type 0 where
  pub low : ℕ
  pub among : Among low (s.floor ∷ bases (heads s.start.columns) (heads board.columns))
  pub lower : low < rank_of above
  pub held : (rank : ℕ) → low < rank → rank < rank_of above → Among rank (map rank_of (newly s.start.cells board.cells))

module _ (game : Game) (s : Setting game) (board : Board) (h : Holds game s board) where
  same_cells : length s.start.cells ≡ length board.cells
  same_cells = s.well.piles.all_cells ∙ sym h.well.piles.all_cells

  pub same_columns : length (heads s.start.columns) ≡ length (heads board.columns)
  same_columns =
      length-map s.start.columns first_card ∙ s.well.piles.eight_columns ∙ sym (length-map board.columns first_card ∙ h.well.piles.eight_columns)

  support_by : (lower before : List ℕ) (above card : ℕ) (source : Source) → rank_of card + 1 ≡ rank_of above → card_at board source ≡ Some above →
      ((from : Source) → card_at board from ≡ Some card → Support game s board card) → Stands s.start board above card → Support game s board above
  support_by lower before above card source step found next (in_cell cell was is) =
      let rest = next (FromCell cell) is in
      record {
        low = rest.low;
        among = rest.among;
        lower = let l = rest.lower in omega arith;
        held = λ rank a b. elim (cases_lt rank (rank_of card)) [
          | inl below ↦ rest.held rank a below
          | inr at ↦ subst (λ r. Among r (map rank_of (newly s.start.cells board.cells))) (omega arith)
              (among_map rank_of card (newly s.start.cells board.cells) (newly_among s.start.cells board.cells cell card same_cells was is))
        ];
      }
  support_by lower before above card source step found next (first_there column rest was is) = record {
    low = rank_of card;
    among = inr (among_map rank_of card (newly (heads s.start.columns) (heads board.columns))
        (newly_among (heads s.start.columns) (heads board.columns) column card same_columns (head_at s.start.columns column ∙ ap first_card was)
        (head_at board.columns column ∙ ap first_card is)));
    lower = omega arith;
    held = λ rank a b. absurd (omega arith);
  }
  support_by lower before above card source step found next (on_it column front rest is) =
      absurd (nothing_on_it game board source above column front card rest h.well found is)

  pub support : (lower before : List ℕ) (above : ℕ) (source : Source) → s.first ∷ s.later ≡ before ++ above ∷ lower →
      card_at board source ≡ Some above → Support game s board above
  support [] before above source e found =
      let at = rank_in_run game s.by_rank s.floor s.first s.later before above [] s.run s.at_floor e in
      record { low = s.floor; among = inl refl; lower = omega arith; held = λ rank a b. absurd (omega arith) }
  support (card ∷ lower) before above source e found =
      let step = s.by_rank card above (neighbours game s.by_rank before above card lower (subst (IsRun game) e s.run)) in
      support_by lower before above card source step found
      (λ from there. support lower (before ++ above ∷ []) card from (e ∙ sym (append_assoc before (above ∷ []) (card ∷ lower))) there)
      (h.stands before above card lower e)
