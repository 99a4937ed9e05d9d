-- Boards of a closed list are not won, however one plays.
use Rattle.std.proofs.Common.{◌++◌, ◌↔◌, ◌∷◌, [], All, arith, Bool, inl, inr, List, refl, subst, sym, ℕ}
use Rattle.std.proofs.lemmas.List.Elements.{All-contains, Contains-append_cases, Contains-append_left}
use Rattle.std.{proofs.lemmas.List.Elements.{Contains-append_right}, specs.List.{Contains}}
use Rattle.fc_board.proofs.{AlikeLemmas.{carries-PlaysAlike}, DeckLemmas.{stays_well_formed}}
use Rattle.fc_board.proofs.{RenamingLemmas.{fills-renamed_card}, RunPlayLemmas.{list_expanded}}
use Rattle.fc_board.{proofs.StepCarried.{step-carried}, specs.{Boards.{Board, IsWellFormed}, Games.{Game, RuleLaws}}}
use Rattle.fc_board.specs.{Moves.{list_image, MoveList, OneCard, Runs}, Passages.{carried, carried_move}}
use Rattle.fc_board.specs.{Play.{expansions, IsWon, Played, Plays}, Steps.{Step}}
use Rattle.{fc_board.specs.declared.moves.Move.{Move}, fc_closed.specs.{IsAmong, IsClosed, IsUnsolvable}}
use Rattle.fc_canon.proofs.CanonicalLemmas.{Equivalent-IsWellFormed, Equivalent-refl, Equivalent-sym, Equivalent-trans}
use Rattle.fc_canon.specs.{Equivalent}

module _ {game : Game} {renamings : List (List ℕ)} {cells count : ℕ} {kings_only : Bool} (laws : RuleLaws game renamings cells count kings_only) where
  -- a move from a board that is equivalent to one of these leads to such a board
  pub next-among : (boards : List Board) → IsClosed game boards → (board after : Board) (move : Move) →
      IsWellFormed game board →
      IsAmong game boards board → Step game board move after → IsAmong game boards after
  next-among boards closed board after move well (member, inside, (passage, carries)) step =
      let onto = step-carried carries.is_passage (fills-renamed_card laws) board after move well step in
      let from_member = subst (λ b. Step game b (carried_move passage move) (carried passage after)) (sym carries.there) onto in
      let (member', inside', there) = closed.stays member (carried passage after) (carried_move passage move) inside from_member in
      let well' = stays_well_formed game board after move well step in
      let over : Equivalent game after (carried passage after) = (passage, record { is_passage = carries.is_passage; there = refl }) in
      (member', inside', Equivalent-trans game after (carried passage after) member' well'.piles over there)

  pub won_together : (board other : Board) → IsWellFormed game board → Equivalent game board other → IsWon board →
      IsWon other
  won_together board other well (passage, carries) won =
      let (after, same, won') = ((carries-PlaysAlike laws passage board other well carries).wins (OneCard [])).0 (board, refl, won) in
      subst IsWon same won'

  pub never_won_among : (boards : List Board) → IsClosed game boards → (board : Board) → IsWellFormed game board →
      IsAmong game boards board → ¬ IsWon board
  never_won_among boards closed board well (member, inside, there) won =
      closed.none_won member inside (won_together board member well there won)

  module _ (boards : List Board) (closed : IsClosed game boards) where
    played-among : (board after : Board) (moves : List Move) → IsWellFormed game board → IsAmong game boards board →
        Played (Step game) board moves after →
        IsAmong game boards after × IsWellFormed game after
    played-among board after [] well among same =
        subst (λ after. IsAmong game boards after × IsWellFormed game after) (sym same) (among, well)
    played-among board after (move ∷ moves) well among (between, step, rest) =
        played-among between after moves (stays_well_formed game board between move well step) (next-among boards closed board between move well among step) rest

    both-among : (board after : Board) (moves : MoveList) → IsWellFormed game board → Contains boards board →
        Plays game board moves after →
        IsAmong game boards after × IsWellFormed game after
    both-among board after (OneCard moves) well inside plays =
        played-among board after moves well (board, inside, Equivalent-refl game board well.piles) plays
    both-among board after (Runs moves) well inside plays =
        played-among board after (expansions game board moves) well (board, inside, Equivalent-refl game board well.piles)
        (list_expanded game kings_only laws.builds_one_rank laws.fills_by_rank board after moves well plays)

    pub plays-among : (board after : Board) (moves : MoveList) → IsWellFormed game board → Contains boards board →
        Plays game board moves after →
        IsAmong game boards after
    plays-among board after moves well inside plays = (both-among board after moves well inside plays).0

    pub plays-not_won : (board after : Board) (moves : MoveList) → IsWellFormed game board → Contains boards board →
        Plays game board moves after → ¬ IsWon after
    plays-not_won board after moves well inside plays =
        let (among, well') = both-among board after moves well inside plays in never_won_among boards closed after well' among

    pub unsolvable : (board : Board) → IsWellFormed game board → Contains boards board → IsUnsolvable game board
    unsolvable board well inside moves (after, plays, won) = plays-not_won board after moves well inside plays won

  pub together : (board other : Board) → IsWellFormed game board → Equivalent game board other →
      IsUnsolvable game board → IsUnsolvable game other
  together board other well there none moves wins =
      let well' = Equivalent-IsWellFormed game board other well there in
      let (passage, carries) = Equivalent-sym game board other well.piles there in
      none (list_image passage moves) (((carries-PlaysAlike laws passage other board well' carries).wins moves).0 wins)

  pub together_both : (board other : Board) → IsWellFormed game board → Equivalent game board other →
      IsUnsolvable game board ↔ IsUnsolvable game other
  together_both board other well there = (
    together board other well there,
    together other board (Equivalent-IsWellFormed game board other well there) (Equivalent-sym game board other well.piles there),
  )

  -- lists whose boards are equivalent each to one of the other
  pub lists_together : (boards others : List Board) → All (IsWellFormed game) boards → All (IsWellFormed game) others →
      All (IsAmong game others) boards →
      All (IsAmong game boards) others → IsClosed game boards → IsClosed game others
  lists_together boards others wells wells' over back closed = record {
    none_won = λ board inside.
        never_won_among boards closed board (All-contains (IsWellFormed game) others board wells' inside) (All-contains (IsAmong game boards) others board back inside);
    stays = λ board after move inside step.
        let well = All-contains (IsWellFormed game) others board wells' inside in
        let (member, within, there) = next-among boards closed board after move well (All-contains (IsAmong game boards) others board back inside) step in
        let (other, among, onward) = All-contains (IsAmong game others) boards member over within in
        (other, among, Equivalent-trans game after member other (stays_well_formed game board after move well step).piles there onward);
  }

-- ---- lists together
pub none_closed : (game : Game) → IsClosed game []
none_closed game = record {
  none_won = λ board (k, below, is). absurd (omega (arith, below));
  stays = λ board after move (k, below, is). absurd (omega (arith, below));
}

module _ (game : Game) (boards others : List Board) (closed : IsClosed game boards) (closed' : IsClosed game others) where
  pub joined_closed : IsClosed game (boards ++ others)
  joined_closed = record {
    none_won = λ board inside. elim (Contains-append_cases boards others board inside) [
      | inl one ↦ closed.none_won board one
      | inr next ↦ closed'.none_won board next
    ];
    stays = λ board after move inside step. elim (Contains-append_cases boards others board inside) [
      | inl one ↦
          let (member, among, there) = closed.stays board after move one step in
          (member, Contains-append_left boards others member among, there)
      | inr next ↦
          let (member, among, there) = closed'.stays board after move next step in
          (member, Contains-append_right boards others member among, there)
    ];
  }
