-- The first move that leads out, found move by move.
use Rattle.std.proofs.Common.{◌+◌, ◌<◌, ◌≡◌, ◌≤◌, arith, get_or, inl, inr, length, List, subst, ℕ}
use Rattle.std.proofs.lemmas.{Bool.{cases_lt}, Option.{get_or_from_slice_get, slice_get-get_or}}
use Rattle.std.specs.List.{Contains}
use Rattle.fc_board.specs.{Boards.{Board, IsWellFormed}, declared.moves.Move.{Move}, Games.{Game}}
use Rattle.{fc_bytes.specs.declared.board.BoardBytes.{BoardBytes}, fc_canon.specs.{IsFirst}}
use Rattle.fc_closed.{proofs.KeysLemmas.{one_key_after}, specs.{LeadsOut, StaysIn}}

-- the moves before this place stay in
abbrev pub StayTo : Game → List (List ℕ) → List BoardBytes → Board → List Move → ℕ → Type 0
StayTo game renamings keys board moves count =
    (k : ℕ) (default : Move) → k < count → StaysIn game renamings keys board (get_or moves k default)

pub stay_more : (game : Game) (renamings : List (List ℕ)) (keys : List BoardBytes) (board : Board) (moves : List Move) (at : ℕ) → StayTo game renamings keys board moves at →
    ((default : Move) → StaysIn game renamings keys board (get_or moves at default)) → StayTo game renamings keys board moves (at + 1)
stay_more game renamings keys board moves at stay more k default below = elim (cases_lt k at) [
  | inl earlier ↦ stay k default earlier
  | inr past ↦
      let here : at ≡ k = omega (arith, below, past) in
      subst (λ k. StaysIn game renamings keys board (get_or moves k default)) here (more default)
]

module _ (game : Game) (renamings : List (List ℕ)) (keys : List BoardBytes) (board : Board) (well : IsWellFormed game board) (moves : List Move) where
  -- a move that stays in does not lead out
  pub in_not_out : (move : Move) → StaysIn game renamings keys board move → ¬ LeadsOut game renamings keys board move
  in_not_out move (child, after, there) (other, after', out) =
      out (subst (Contains keys) (one_key_after game renamings board move child other well after after') there)

  pub stay_all : (at : ℕ) → length moves ≤ at → StayTo game renamings keys board moves at → (move : Move) →
      Contains moves move → StaysIn game renamings keys board move
  stay_all at all stay move (k, below, is) =
      subst (StaysIn game renamings keys board) is (stay k move (omega (arith, below, all)))

  pub first_to_lead_out : (at : ℕ) (default : Move) → at < length moves → StayTo game renamings keys board moves at →
      LeadsOut game renamings keys board (get_or moves at default) → IsFirst (LeadsOut game renamings keys board) moves (get_or moves at default)
  first_to_lead_out at default within stay out = (
    at,
    slice_get-get_or moves at default within,
    out,
    λ earlier other before there. in_not_out other (subst (StaysIn game renamings keys board) (get_or_from_slice_get moves earlier other default there) (stay earlier default before)),
  )
