-- Lists of boards of which each has one move at most.
use Rattle.std.proofs.Common.{◌∷◌, ◌≡◌, ◌⊎◌, [], ap, arith, inl, inr, List, slice_index, subst, suc, zero}
use Rattle.std.specs.List.{Contains}
use Rattle.fc_board.{proofs.StepLemmas.{not_refused_at_step, one_after}, specs.Boards.{Board, IsWellFormed}}
use Rattle.fc_board.specs.{Games.{Game}, Play.{IsWon}, Steps.{Step}}
use Rattle.{fc_board.specs.declared.moves.Move.{Move}, fc_canon.proofs.CanonicalLemmas.{Equivalent-refl}}
use Rattle.{fc_bytes.{proofs.LegalMoves.{all_listed}, specs.{legal_moves}}, fc_closed.specs.{IsAmong}}

pub the_one : {X : Type 0} (x y : X) → Contains (x ∷ []) y → x ≡ y
the_one x y (zero, below, is) = is
the_one x y (suc k, below, is) = absurd (omega (arith, below))

pub one_of_two : {X : Type 0} (x y z : X) → Contains (x ∷ y ∷ []) z → (x ≡ z) ⊎ (y ≡ z)
one_of_two x y z (zero, below, is) = inl is
one_of_two x y z (suc zero, below, is) = inr is
one_of_two x y z (suc (suc k), below, is) = absurd (omega (arith, below))

pub one_of_three : {X : Type 0} (x y z w : X) → Contains (x ∷ y ∷ z ∷ []) w → (x ≡ w) ⊎ ((y ≡ w) ⊎ (z ≡ w))
one_of_three x y z w (zero, below, is) = inl is
one_of_three x y z w (suc zero, below, is) = inr (inl is)
one_of_three x y z w (suc (suc zero), below, is) = inr (inr is)
one_of_three x y z w (suc (suc (suc k)), below, is) = absurd (omega (arith, below))

-- a board without a listed move has no step
pub no_step : (game : Game) (board after : Board) (move : Move) → legal_moves game board ≡ [] →
    ¬ Step game board move after
no_step game board after move none step =
    let (k, below, is) = subst (λ moves. Contains moves move) none (all_listed game board move (step.fits, not_refused_at_step game board after move step)) in
    absurd (omega (arith, below))

-- with one listed move each step is by that
pub one_step : (game : Game) (board after other : Board) (move only : Move) → legal_moves game board ≡ only ∷ [] →
    Step game board only after →
    Step game board move other → after ≡ other
one_step game board after other move only one there step =
    let listed = subst (λ moves. Contains moves move) one (all_listed game board move (step.fits, not_refused_at_step game board other move step)) in
    one_after game board after other move (subst (λ move. Step game board move after) (the_one only move listed) there) step

-- a member is equivalent to itself
pub is_among : (game : Game) (boards : List Board) (board after : Board) → IsWellFormed game board →
    Contains boards board → board ≡ after → IsAmong game boards after
is_among game boards board after well inside same =
    subst (IsAmong game boards) same (board, inside, Equivalent-refl game board well.piles)

pub not_won : (board : Board) → slice_index board.heights 0 ≡ 0 → ¬ IsWon board
not_won board none won =
    let king : slice_index board.heights 0 ≡ 13 = ap (λ heights. slice_index heights 0) won in
    absurd (omega (arith, king, none))
