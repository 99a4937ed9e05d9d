-- The cards of a run have ranks one below the other, so each is known by its rank.
use Rattle.std.proofs.Common.{◌&&◌, ◌++◌, ◌+◌, ◌-◌, ◌<◌, ◌∙◌, ◌∷◌, ◌≡◌, ◌≤◌, [], ap, ap₂, arith, Bool, cond, drop}
use Rattle.std.proofs.Common.{false, get_or, inl, inr, length, List, refl, suc, sym, true, zero, ℕ}
use Rattle.fc_card.specs.{rank_of}
use Rattle.fc_board.specs.{Games.{Builds, Game}, laws.ListWords.{IsRun}, Steps.{Among, is_run, longest_run}}

-- a card goes on one that is a rank higher, if on any
abbrev pub BuildsByRank : Game → Type 0
BuildsByRank game = (upper lower : ℕ) → Builds game upper lower → rank_of upper + 1 ≡ rank_of lower

pub run_tail : (game : Game) (card : ℕ) (cards : List ℕ) → IsRun game (card ∷ cards) → IsRun game cards
run_tail game card [] run = tt
run_tail game card (next ∷ cards) run = run.1

pub run_after : (game : Game) (before cards : List ℕ) → IsRun game (before ++ cards) → IsRun game cards
run_after game [] cards run = run
run_after game (card ∷ before) cards run = run_after game before cards (run_tail game card (before ++ cards) run)

-- a list with a number in it is not empty
pub not_empty : (xs : List ℕ) (y : ℕ) (ys : List ℕ) → xs ++ y ∷ ys ≡ [] → ⊥
not_empty [] y ys e = cc
not_empty (x ∷ xs) y ys e = cc

module _ (game : Game) (by_rank : BuildsByRank game) where
  pub lower_in_run : (card : ℕ) (cards : List ℕ) → IsRun game (card ∷ cards) → (x : ℕ) → Among x cards → rank_of x < rank_of card
  lower_in_run card [] run x among = absurd among
  lower_in_run card (next ∷ cards) run x (inl same) = let step = by_rank next card run.0 in let e = ap rank_of same in omega arith
  lower_in_run card (next ∷ cards) run x (inr rest) = let step = by_rank next card run.0 in omega (arith, lower_in_run next cards run.1 x rest)

  pub same_by_rank : (cards : List ℕ) → IsRun game cards → (x y : ℕ) → Among x cards → Among y cards → rank_of x ≡ rank_of y → x ≡ y
  same_by_rank [] run x y among other e = absurd among
  same_by_rank (card ∷ cards) run x y (inl same) (inl same') e = same ∙ sym same'
  same_by_rank (card ∷ cards) run x y (inl same) (inr rest) e =
      let here = ap rank_of same in absurd (omega (arith, lower_in_run card cards run y rest))
  same_by_rank (card ∷ cards) run x y (inr rest) (inl same) e =
      let here = ap rank_of same in absurd (omega (arith, lower_in_run card cards run x rest))
  same_by_rank (card ∷ cards) run x y (inr rest) (inr rest') e = same_by_rank cards (run_tail game card cards run) x y rest rest' e

  -- the rank of a card of the run, by how many are after it
  pub rank_in_run : (floor first : ℕ) (later before : List ℕ) (card : ℕ) (lower : List ℕ) → IsRun game (first ∷ later) →
      rank_of first ≡ floor + 1 + length later →
      first ∷ later ≡ before ++ card ∷ lower → rank_of card ≡ floor + 1 + length lower
  rank_in_run floor first later [] card lower run at e =
      let same : first ≡ card = cc in let rest : later ≡ lower = cc in let a = ap rank_of same in let b = ap length rest in omega arith
  rank_in_run floor first [] (x ∷ before) card lower run at e = absurd (not_empty before card lower (cc))
  rank_in_run floor first (next ∷ later) (x ∷ before) card lower run at e =
      rank_in_run floor next later before card lower run.1 (let step = by_rank next first run.0 in omega arith) (cc)

  -- two, one after the other
  pub neighbours : (before : List ℕ) (above card : ℕ) (lower : List ℕ) → IsRun game (before ++ above ∷ card ∷ lower) → Builds game card above
  neighbours before above card lower run = (run_after game before (above ∷ card ∷ lower) run).0

-- ---- the longest run at the end of a column, counted from its last card on
module _ (game : Game) where
  pub last_is_run : (column : List ℕ) → is_run game (drop (length column - 1) column) ≡ true
  last_is_run [] = refl
  last_is_run (card ∷ []) = refl
  last_is_run (card ∷ next ∷ cards) = rw one_less (last_is_run (next ∷ cards))
    where
      one_less : length (card ∷ next ∷ cards) - 1 ≡ suc (length (next ∷ cards) - 1)
      one_less = omega arith

  pub longest_all : (column : List ℕ) → is_run game column ≡ true → longest_run game column ≡ length column
  longest_all [] run = refl
  longest_all (card ∷ cards) run = rw run

  run_longer : (column : List ℕ) (low upper lower : ℕ) → suc low < length column → upper ≡ get_or column (suc low) upper →
      lower ≡ get_or column low lower →
      game.builds upper lower ≡ true → is_run game (drop (suc low) column) ≡ true → is_run game (drop low column) ≡ true
  run_longer [] low upper lower inside a b builds run = absurd (omega arith)
  run_longer (card ∷ []) low upper lower inside a b builds run = absurd (omega arith)
  run_longer (card ∷ next ∷ cards) zero upper lower inside a b builds run = ap₂ (λ t u. t && u) (ap₂ game.builds (sym a) (sym b) ∙ builds) run
  run_longer (card ∷ next ∷ cards) (suc low) upper lower inside a b builds run =
      run_longer (next ∷ cards) low upper lower (omega arith) a b builds run

  not_both : (t u : Bool) → u ≡ false → (t && u) ≡ false
  not_both true u e = e
  not_both false u e = refl

  run_stops : (column : List ℕ) (low upper lower : ℕ) → suc low < length column → upper ≡ get_or column (suc low) upper →
      lower ≡ get_or column low lower →
      game.builds upper lower ≡ false → is_run game (drop (suc low) column) ≡ true →
      (is_run game column ≡ false) × (longest_run game column ≡ length column - suc low)
  run_stops [] low upper lower inside a b builds run = absurd (omega arith)
  run_stops (card ∷ []) low upper lower inside a b builds run = absurd (omega arith)
  run_stops (card ∷ next ∷ cards) zero upper lower inside a b builds run =
      let none = ap (λ t. t && is_run game (next ∷ cards)) (ap₂ game.builds (sym a) (sym b) ∙ builds) in
      (none, ap (λ t. cond t (length (card ∷ next ∷ cards)) (longest_run game (next ∷ cards))) none ∙ longest_all (next ∷ cards) run ∙ one_less)
    where
      one_less : length (next ∷ cards) ≡ length (card ∷ next ∷ cards) - 1
      one_less = omega arith
  run_stops (card ∷ next ∷ cards) (suc low) upper lower inside a b builds run =
      let (none, size) = run_stops (next ∷ cards) low upper lower (omega arith) a b builds run in
      let here = not_both (game.builds next card) (is_run game (next ∷ cards)) none in
      (here, rw (here, size) both_less)
    where
      both_less : length (next ∷ cards) - suc low ≡ length (card ∷ next ∷ cards) - suc (suc low)
      both_less = omega arith

  module _ (column : List ℕ) (index upper lower : ℕ) (some : 1 < index) (inside : index ≤ length column)
      (a : upper ≡ get_or column (index - 1) upper) (b : lower ≡ get_or column (index - 1 - 1) lower)
      (run : is_run game (drop (index - 1) column) ≡ true) where
    above : index - 1 ≡ suc (index - 1 - 1)
    above = omega arith

    pub longer_there : game.builds upper lower ≡ true → is_run game (drop (index - 1 - 1) column) ≡ true
    longer_there builds = run_longer column (index - 1 - 1) upper lower (omega arith) (rw above at a) b builds (rw above at run)

    pub stops_there : game.builds upper lower ≡ false → length column - (index - 1) ≡ longest_run game column
    stops_there builds =
        ap (λ place. length column - place) above ∙
        sym (run_stops column (index - 1 - 1) upper lower (omega arith) (rw above at a) b builds (rw above at run)).1

  pub all_there : (column : List ℕ) (index : ℕ) → index ≤ 1 → is_run game (drop (index - 1) column) ≡ true → length column ≡ longest_run game column
  all_there column index low run = sym (longest_all column (rw none at run))
    where
      none : index - 1 ≡ 0
      none = omega arith
