-- A passage carries moves of several cards as it carries boards.
use Rattle.std.proofs.Common.{◌&&◌, ◌++◌, ◌+◌, ◌-◌, ◌<◌, ◌∙◌, ◌∷◌, ◌≡◌, ◌≤◌, [], All, ap, arith, Bool, cond, drop, eqb}
use Rattle.std.proofs.Common.{false, inl, inr, leb, length, List, ltb, map, min, None, not, Option, refl, set, Some}
use Rattle.std.proofs.{Common.{suc, sym, take, true, zero, ℕ}, lemmas.Bool.{Decides.{nat_tests}, leb-true}}
use Rattle.std.proofs.lemmas.List.{drop-map, Elements.{All-get_or, All-head, All-tail}}
use Rattle.std.proofs.lemmas.List.{get_or-map, length-map, length-set, map-append, Sorted.{sum_by-IsPermutation}}
use Rattle.std.{proofs.lemmas.List.{Sums.{length-filter, sum_by-cons}, take-map}, specs.List.{count_by}}
use Rattle.std.specs.Option.{is_none}
use Rattle.fc_card.{proofs.PermutationLemmas.{IsPermutation-pick, same_place}, specs.{IsCard}}
use Rattle.fc_card.specs.laws.{OrderLaws.{place_of-IsOrder}, RenamingLaws.{rank_of-renamed_card}}
use Rattle.fc_card.specs.{pick, place_of, places, rank_of, renamed_card}
use Rattle.fc_board.{
  proofs.{BoardLemmas.{in_cells, in_columns, parts_same}, CapacityLemmas.{cells_counted, count_map, counted}},
  proofs.{CarriedLemmas.{carried-IsWellFormed}, DeckLemmas.{found_is_card}, ExactLemmas.{range_apart}},
  proofs.{ExpansionLemmas.{AreApart}, PlacesLemmas.{in_range}},
  proofs.RefusalCarried.{column-carried, FillsByRank, free-renamed, last-renamed, refusal-carried, set-carried},
  proofs.RunStepLemmas.{longest_few, longest_some, more_test, some_capacity},
  specs.{Boards.{Board, empty_cells_of, empty_columns_of, IsWellFormed}, Games.{Game}, Moves.{IsCount, RunFits}},
  specs.{Passages.{carried, IsPassage, Passage, renamed_cell, renamed_column, run_image}, Steps.{Among, capacity}},
  specs.Steps.{column_at, fault_or, first_of_last, free_cells, is_helper, is_run, last_card, longest_run},
  specs.Steps.{matches_stated, onto, onto_card, onto_nothing, run_moved, run_refusal, spare_columns},
}
use Rattle.fc_board.specs.declared.fault.StepFault.{StepFault, TheVariants.{KingsOnly, NoRun, NotBuilding}}
use Rattle.fc_board.specs.declared.fault.StepFault.TheVariants.{OverCapacity, SamePile, WrongCount}
use Rattle.fc_board.specs.declared.{moves.Source.TheVariants.{Column as FromColumn}, run_move.RunMove.{RunMove}}
use Rattle.fc_board.specs.declared.run_move.RunMove.TheVariants.{One, Run}

-- ---- counts

count_same : {X : Type 0} (p q : X → Bool) → ((x : X) → p x ≡ q x) → (xs : List X) → count_by p xs ≡ count_by q xs
count_same p q same [] = refl
count_same p q same (x ∷ xs) =
    rw (sum_by-cons (λ y. cond (p y) 1 0) x xs, same x, count_same p q same xs, sum_by-cons (λ y. cond (q y) 1 0) x xs)

-- all but one of a list of different numbers
one_less : (p : ℕ → Bool) (t : ℕ) (xs : List ℕ) → (Among t xs → ⊥) → count_by (λ x. p x && not (eqb x t)) xs ≡ count_by p xs
one_less p t [] out = refl
one_less p t (x ∷ xs) out =
    let other = passes (p x) (eqb x t) (apart_test x t (λ same. out (inl (sym same)))) in
    let rest = one_less p t xs (λ among. out (inr among)) in
    rw (sum_by-cons (λ y. cond (p y && not (eqb y t)) 1 0) x xs, other, rest, sum_by-cons (λ y. cond (p y) 1 0) x xs)
  where
    passes : (a b : Bool) → b ≡ false → (a && not b) ≡ a
    passes true true e = cc
    passes true false e = refl
    passes false b e = refl

    apart_test : (a b : ℕ) → (a ≡ b → ⊥) → eqb a b ≡ false
    apart_test a b apart = grind (arith, nat_tests)

all_but : (p : ℕ → Bool) (t : ℕ) (xs : List ℕ) → AreApart xs → Among t xs → count_by (λ x. p x && not (eqb x t)) xs + cond (p t) 1 0 ≡ count_by p xs
all_but p t [] apart among = absurd among
all_but p t (x ∷ xs) apart (inl same) =
    let rest = one_less p t xs (λ among. apart.0 (rw same at among)) in
    let a = sum_by-cons (λ y. cond (p y && not (eqb y t)) 1 0) x xs in
    let b = sum_by-cons (λ y. cond (p y) 1 0) x xs in
    let c : cond (p t) (suc zero) zero ≡ cond (p x) (suc zero) zero = ap (λ y. cond (p y) (suc zero) zero) same in
    let d : cond (p x && not (eqb x t)) (suc zero) zero ≡ zero = itself (p x) x t same in
    omega arith
  where
    itself : (q : Bool) (y t' : ℕ) → t' ≡ y → cond (q && not (eqb y t')) (suc zero) zero ≡ zero
    itself true y t' e = grind (arith, nat_tests)
    itself false y t' e = refl
all_but p t (x ∷ xs) apart (inr among) =
    let rest = all_but p t xs apart.1 among in
    let a = sum_by-cons (λ y. cond (p y && not (eqb y t)) 1 0) x xs in
    let b = sum_by-cons (λ y. cond (p y) 1 0) x xs in
    let d = other (p x) x t (λ same. apart.0 (rw same among)) in
    omega arith
  where
    other : (q : Bool) (y t' : ℕ) → (y ≡ t' → ⊥) → cond (q && not (eqb y t')) (suc zero) zero ≡ cond q (suc zero) zero
    other true y t' e = grind (arith, nat_tests)
    other false y t' e = refl

helpers_counted : (game : Game) (board : Board) (to : ℕ) → IsWellFormed game board → to < 8 →
    length (spare_columns board to) + cond (eqb (length (column_at board to)) 0) 1 0 ≡ empty_columns_of board
helpers_counted game board to well inside =
    let empty : ℕ → Bool = λ column. eqb (length (column_at board column)) 0 in
    ap (λ n. n + cond (empty to) 1 0) (length-filter (is_helper board to) (places 8))
    ∙ all_but empty to (places 8) (range_apart 0 8) (in_range 8 0 to (omega arith) (omega arith)) ∙
    sym (length-filter empty (places 8)) ∙ counted (λ c. eqb (length c) 0) board.columns 8 [] well.piles.eight_columns

-- ---- renamed runs

module _ (game : Game) (renaming : List ℕ)
    (keeps : (upper lower : ℕ) → IsCard upper → IsCard lower → game.builds (renamed_card renaming upper) (renamed_card renaming lower) ≡ game.builds upper lower) where
  is_run-renamed : (cards : List ℕ) → All IsCard cards → is_run game (map (renamed_card renaming) cards) ≡ is_run game cards
  is_run-renamed [] are = refl
  is_run-renamed (card ∷ []) are = refl
  is_run-renamed (card ∷ next ∷ cards) are =
      let here = All-head IsCard card (next ∷ cards) are in
      let follows = All-tail IsCard card (next ∷ cards) are in
      rw (keeps next card (All-head IsCard next cards follows) here, is_run-renamed (next ∷ cards) follows)

  longest-renamed : (column : List ℕ) → All IsCard column → longest_run game (renamed_column renaming column) ≡ longest_run game column
  longest-renamed [] are = refl
  longest-renamed (card ∷ column) are =
      rw (is_run-renamed (card ∷ column) are, length-map column (renamed_card renaming), longest-renamed column (All-tail IsCard card column are))

pub first-renamed : (renaming column : List ℕ) (count : ℕ) → 1 ≤ count → count ≤ length column →
    first_of_last count (renamed_column renaming column) ≡ renamed_card renaming (first_of_last count column)
first-renamed renaming column count some few =
    rw (length-map column (renamed_card renaming)) (get_or-map (renamed_card renaming) column (length column - count) 0 0 (omega arith))

-- ---- the capacity

module _ {game : Game} {passage : Passage} (is : IsPassage game passage) where
  empty_cells-carried : (board : Board) → IsWellFormed game board → empty_cells_of (carried passage board) ≡ empty_cells_of board
  empty_cells-carried board well =
      let cells = map (renamed_cell passage.renaming) board.cells in
      let long = length-map board.cells (renamed_cell passage.renaming) ∙ well.piles.all_cells ∙ sym is.orders.all_cells in
      let permutes = IsPermutation-pick cells passage.cells is.orders.of_cells long in
      sum_by-IsPermutation (λ x. cond (is_none x) 1 0) cells (pick cells passage.cells) permutes ∙
      count_map is_none (renamed_cell passage.renaming) board.cells
      ∙ count_same (λ c. is_none (renamed_cell passage.renaming c)) is_none (free-renamed passage.renaming) board.cells

  empty_columns-carried : (board : Board) → IsWellFormed game board → empty_columns_of (carried passage board) ≡ empty_columns_of board
  empty_columns-carried board well =
      let columns = map (renamed_column passage.renaming) board.columns in
      let long = length-map board.columns (renamed_column passage.renaming) ∙ well.piles.eight_columns ∙ sym is.orders.eight_columns in
      let permutes = IsPermutation-pick columns passage.columns is.orders.of_columns long in
      sum_by-IsPermutation (λ c. cond (eqb (length c) 0) 1 0) columns (pick columns passage.columns) permutes ∙
      count_map (λ c. eqb (length c) 0) (renamed_column passage.renaming) board.columns ∙
      count_same (λ c. eqb (length (renamed_column passage.renaming c)) 0) (λ c. eqb (length c) 0)
      (λ c. ap (λ n. eqb n 0) (length-map c (renamed_card passage.renaming))) board.columns

  pub new_place : (column : ℕ) → column < 8 → place_of passage.columns column < 8
  new_place column inside =
      let (a, b) = place_of-IsOrder passage.columns is.orders.of_columns column (let n = is.orders.eight_columns in omega arith) in
      let n = is.orders.eight_columns in omega arith

  spare_columns-carried : (board : Board) (to : ℕ) → IsWellFormed game board → to < 8 →
      length (spare_columns (carried passage board) (place_of passage.columns to)) ≡ length (spare_columns board to)
  spare_columns-carried board to well inside =
      let other = carried-IsWellFormed game passage board is well in
      let a = helpers_counted game (carried passage board) (place_of passage.columns to) other (new_place to inside) in
      let b = helpers_counted game board to well inside in
      let c = empty_columns-carried board well in
      let d = ap (λ column. cond (eqb (length column) 0) (suc zero) zero) (column-carried is board to well.piles inside)
      ∙ ap (λ n. cond (eqb n 0) (suc zero) zero) (length-map (column_at board to) (renamed_card passage.renaming)) in
      same_rest (length (spare_columns (carried passage board) (place_of passage.columns to))) (length (spare_columns board to)) _ _ a b c d
    where
      same_rest : (m n : ℕ) {x y : ℕ} (k l : ℕ) → m + x ≡ k → n + y ≡ l → k ≡ l → x ≡ y → m ≡ n
      same_rest m n k l a b c d = omega arith

  pub capacity-carried : (board : Board) (to : ℕ) → IsWellFormed game board → to < 8 →
      capacity game (carried passage board) (place_of passage.columns to) ≡ capacity game board to
  capacity-carried board to well inside =
      let cells : length (free_cells game (carried passage board)) ≡ length (free_cells game board) =
      cells_counted game (carried passage board) (carried-IsWellFormed game passage board is well) ∙ empty_cells-carried board well
      ∙ sym (cells_counted game board well) in
      rw (cells, spare_columns-carried board to well inside)

  -- ---- the board after a run

  pub run_moved-carried : (board : Board) (from to count : ℕ) → IsWellFormed game board → from < 8 → to < 8 →
      carried passage (run_moved board from to count) ≡ run_moved (carried passage board) (place_of passage.columns from)
      (place_of passage.columns to) count
  run_moved-carried board from to count well inside inside' =
      let rename = renamed_column passage.renaming in
      let column = column_at board from in
      let rest = length column - count in
      let long = well.piles.eight_columns ∙ sym is.orders.eight_columns in
      let a = column-carried is board from well.piles inside in
      let b = column-carried is board to well.piles inside' in
      let n : length (rename column) ≡ length column = length-map column (renamed_card passage.renaming) in
      let cut = take (length (rename column) - count) (rename column) in
      let new = rename (column_at board to) ++ drop (length (rename column) - count) (rename column) in
      let left : rename (take rest column) ≡ cut = rw (n, take-map (renamed_card passage.renaming) rest column) in
      let right : rename (drop rest column) ≡ drop (length (rename column) - count) (rename column) =
      rw (n, drop-map (renamed_card passage.renaming) rest column) in
      let full : rename (column_at board to ++ drop rest column) ≡ new =
      map-append (renamed_card passage.renaming) (column_at board to) (drop rest column) ∙ ap (λ l. rename (column_at board to) ++ l) right in
      let first = set-carried rename board.columns passage.columns from (take rest column) cut left
      is.orders.of_columns long (omega (arith, is.orders.eight_columns)) in
      let second = set-carried rename (set board.columns from (take rest column)) passage.columns to (column_at board to ++ drop rest column) new full
      is.orders.of_columns (length-set board.columns from (take rest column) ∙ long) (omega (arith, is.orders.eight_columns)) in
      parts_same (carried passage (run_moved board from to count))
      (run_moved (carried passage board) (place_of passage.columns from) (place_of passage.columns to) count) refl refl
      (rw (a, b) (second ∙ ap (λ l. set l (place_of passage.columns to) new) first))

-- ---- refusals

fault_or-same : (t t' : Bool) (fault : StepFault) (rest rest' : Option StepFault) → t ≡ t' → (t' ≡ true → rest ≡ rest') →
    fault_or t fault rest ≡ fault_or t' fault rest'
fault_or-same t true fault rest rest' e same = rw e (same refl)
fault_or-same t false fault rest rest' e same = rw e

module _ {game : Game} {passage : Passage} (is : IsPassage game passage) (fills : FillsByRank game)
    (board : Board) (well : IsWellFormed game board) (from to : ℕ) (inside : from < 8) (inside' : to < 8) where
  abbrev other : Board
  other = carried passage board

  abbrev from' : ℕ
  from' = place_of passage.columns from

  abbrev to' : ℕ
  to' = place_of passage.columns to

  source_cards : All IsCard (column_at board from)
  source_cards = All-get_or (All IsCard) board.columns from [] (let n = well.piles.eight_columns in omega arith) (in_columns game board well)

  there_now : column_at other from' ≡ renamed_column passage.renaming (column_at board from)
  there_now = column-carried is board from well.piles inside

  pub longest_now : longest_run game (column_at other from') ≡ longest_run game (column_at board from)
  longest_now = rw there_now (longest-renamed game passage.renaming is.keeps (column_at board from) source_cards)

  first_now : (count count' : ℕ) → count' ≡ count → 1 ≤ count → count ≤ longest_run game (column_at board from) →
      first_of_last count' (column_at other from') ≡ renamed_card passage.renaming (first_of_last count (column_at board from))
  first_now count count' e some few =
      rw (e, there_now) (first-renamed passage.renaming (column_at board from) count some (omega (arith, longest_few game (column_at board from))))

  first_is_card : (count : ℕ) → 1 ≤ count → count ≤ longest_run game (column_at board from) → IsCard (first_of_last count (column_at board from))
  first_is_card count some few =
      All-get_or IsCard (column_at board from) (length (column_at board from) - count) 0 (let l = longest_few game (column_at board from) in omega arith) source_cards

  onto_card-carried : (said : Option ℕ) (card last : ℕ) → IsCard last →
      onto_card game other from' to' said (renamed_card passage.renaming card) (renamed_card passage.renaming last) ≡ onto_card game board from to
      said card last
  onto_card-carried said card last is_last =
      let low = rank_of-renamed_card passage.renaming card is.renames in
      let high = rank_of-renamed_card passage.renaming last is.renames in
      let count = rank_of last - rank_of card in
      let count' = rank_of (renamed_card passage.renaming last) - rank_of (renamed_card passage.renaming card) in
      let e : count' ≡ count = ap (λ n. n - rank_of (renamed_card passage.renaming card)) high ∙ ap (λ n. rank_of last - n) low in
      fault_or-same _ (ltb (rank_of card) (rank_of last)) NotBuilding _ _
      (ap (λ n. ltb n (rank_of (renamed_card passage.renaming last))) low ∙ ap (ltb (rank_of card)) high)
      (λ more. let some = more_test (rank_of card) (rank_of last) more in
      fault_or-same _ (matches_stated said count) WrongCount _ _ (ap (matches_stated said) e)
      (λ agreed. fault_or-same _ (leb count (longest_run game (column_at board from))) NoRun _ _
      (ap (λ n. leb n (longest_run game (column_at other from'))) e ∙ ap (leb count) longest_now)
      (λ long. let few = leb-true count (longest_run game (column_at board from)) long in
      fault_or-same _ (game.builds (first_of_last count (column_at board from)) last) NotBuilding _ _
      (ap (λ c. game.builds c (renamed_card passage.renaming last)) (first_now count count' e (omega arith) few) ∙
      is.keeps (first_of_last count (column_at board from)) last (first_is_card count (omega arith) few) is_last)
      (λ goes. fault_or-same _ (leb count (capacity game board to)) OverCapacity _ _
      (ap (λ n. leb n (capacity game other to')) e ∙ ap (leb count) (capacity-carried is board to well inside')) (λ within. refl)))))

  fills_now : (count count' : ℕ) → count' ≡ count → 1 ≤ count → count ≤ longest_run game (column_at board from) →
      game.fills (first_of_last count' (column_at other from')) ≡ game.fills (first_of_last count (column_at board from))
  fills_now count count' e some few =
      rw (first_now count count' e some few) (fills passage.renaming (first_of_last count (column_at board from)) is.renames)

  onto_nothing-carried : (said : Option ℕ) → IsCount said → 1 ≤ length (column_at board from) →
      onto_nothing game other from' to' said ≡ onto_nothing game board from to said
  onto_nothing-carried (Some count) is_count some =
      fault_or-same _ (leb count (longest_run game (column_at board from))) NoRun _ _ (ap (leb count) longest_now)
      (λ long. fault_or-same _ (leb count (capacity game board to)) OverCapacity _ _ (ap (leb count) (capacity-carried is board to well inside'))
      (λ within. fault_or-same _ (game.fills (first_of_last count (column_at board from))) KingsOnly _ _
      (fills_now count count refl is_count.0 (leb-true count (longest_run game (column_at board from)) long)) (λ fills. refl)))
  onto_nothing-carried None is_count some =
      let a = longest_some game (column_at board from) some in
      let b = some_capacity game board to in
      let e = ap (λ n. min n (capacity game other to')) longest_now
      ∙ ap (min (longest_run game (column_at board from))) (capacity-carried is board to well inside') in
      fault_or-same _ (game.fills (first_of_last (min (longest_run game (column_at board from)) (capacity game board to)) (column_at board from)))
      KingsOnly _ _
      (fills_now (min (longest_run game (column_at board from)) (capacity game board to))
      (min (longest_run game (column_at other from')) (capacity game other to')) e (omega arith) (omega arith)) (λ fills. refl)

  some_cards : (column : List ℕ) (card : ℕ) → last_card column ≡ Some card → 1 ≤ length column
  some_cards [] card e = cc
  some_cards (x ∷ column) card e = omega arith

  onto-carried : (said source target : Option ℕ) → IsCount said → last_card (column_at board from) ≡ source →
      last_card (column_at board to) ≡ target →
      onto game other from' to' said (renamed_cell passage.renaming source) (renamed_cell passage.renaming target) ≡ onto game board from to said
      source target
  onto-carried said None target is_count a b = refl
  onto-carried said (Some card) (Some last) is_count a b =
      onto_card-carried said card last (found_is_card board (FromColumn to) last (in_cells game board well, in_columns game board well) b)
  onto-carried said (Some card) None is_count a b = onto_nothing-carried said is_count (some_cards (column_at board from) card a)

  run_carried : (said : Option ℕ) → IsCount said → run_refusal game other (Run from' to' said) ≡ run_refusal game board (Run from to said)
  run_carried said is_count =
      fault_or-same _ (not (eqb from to)) SamePile _ _
      (ap not (same_place passage.columns from to is.orders.of_columns (let n = is.orders.eight_columns in omega arith)
      (let n = is.orders.eight_columns in omega arith)))
      (λ apart. ap (λ found. onto game other from' to' said found (last_card (column_at other to')))
      (ap last_card there_now ∙ last-renamed passage.renaming (column_at board from)) ∙
      ap (onto game other from' to' said (renamed_cell passage.renaming (last_card (column_at board from))))
      (ap last_card (column-carried is board to well.piles inside') ∙ last-renamed passage.renaming (column_at board to)) ∙
      onto-carried said (last_card (column_at board from)) (last_card (column_at board to)) is_count refl refl)

pub run_refusal-carried : {game : Game} {passage : Passage} (is : IsPassage game passage) (fills : FillsByRank game) (board : Board) (token : RunMove) → IsWellFormed game board → RunFits game token →
    run_refusal game (carried passage board) (run_image passage.columns passage.cells token) ≡ run_refusal game board token
run_refusal-carried is fills board (One move) well fits = refusal-carried is fills board move well fits.0
run_refusal-carried is fills board (Run from to said) well fits = run_carried is fills board well from to fits.0 fits.1 said fits.2
