-- Boards that a passage leads to play alike.
use Rattle.std.proofs.Common.{◌||◌, ◌↔◌, ◌≡◌, Bool, List, not, ℕ}
use Rattle.fc_board.proofs.{CarriedRunLemmas.{run_refusal-carried}, DeckLemmas.{stays_well_formed}}
use Rattle.fc_board.proofs.ImageLemmas.{image-Fits, run_image-Fits}
use Rattle.fc_board.proofs.ListCarried.{CarriedLaws, legal-exactly, plays-exactly, refused-exactly, wins-exactly}
use Rattle.fc_board.proofs.{RefusalCarried.{FillsByRank, refusal-carried}, RenamingLemmas.{fills-renamed_card}}
use Rattle.fc_board.proofs.RunLemmas.{BuildsByRank}
use Rattle.fc_board.proofs.RunPlayLemmas.{run_step-carried, run_step-there, token-RunFits, token_keeps}
use Rattle.fc_board.{proofs.StepCarried.{move-Fits, step-back, step-carried}, specs.Boards.{Board, IsWellFormed}}
use Rattle.fc_board.specs.{Games.{Game, is_king, RuleLaws}, Moves.{Fits, list_image, MoveList, OneCard, RunFits, Runs}}
use Rattle.fc_board.specs.Passages.{carried, carried_move, carried_run, Carries, IsPassage, Passage}
use Rattle.fc_board.specs.Play.{Legal, Plays, PlaysAlike, RefusedAt, Wins}
use Rattle.fc_board.specs.Steps.{refusal, run_refusal, RunStep, Step}
use Rattle.fc_board.specs.declared.fault.StepFault.{StepFault}

turned : {A B : Type 0} → A ↔ B → B ↔ A
turned (there, back) = (back, there)

-- ---- a move and its image, of one card and of several
module _ {game : Game} (fills : FillsByRank game) (kings_only : Bool) (by_rank : BuildsByRank game)
    (by_fill : (card : ℕ) → game.fills card ≡ (not kings_only || is_king card)) {passage : Passage} (is : IsPassage game passage) where
  one_card-carried : CarriedLaws game passage (Step game) (Fits game) (refusal game) (carried_move passage)
  one_card-carried = record {
    stays = λ board after move well step. stays_well_formed game board after move well step;
    there = λ board after move well step. step-carried is fills board after move well step;
    back = λ board other move well step. step-back is fills board other move well step;
    refused = λ board move well fits. refusal-carried is fills board move well fits;
    fits = λ move fits. image-Fits game passage.columns passage.cells move is.orders fits;
    fits_back = λ move fits. move-Fits is move fits;
  }

  several-carried : CarriedLaws game passage (RunStep game) (RunFits game) (run_refusal game) (carried_run passage)
  several-carried = record {
    stays = λ board after token well step. token_keeps game kings_only by_rank by_fill board after token well step;
    there = λ board after token well step. run_step-carried is fills board after token well step;
    back = λ board other token well step. run_step-there is fills board other token well step;
    refused = λ board token well fits. run_refusal-carried is fills board token well fits;
    fits = λ token fits. run_image-Fits game passage.columns passage.cells token is.orders fits;
    fits_back = λ token fits. token-RunFits is token fits;
  }

  -- ---- lists in either form
  pub list_plays-exactly : (board other : Board) (moves : MoveList) → IsWellFormed game board →
      Plays game (carried passage board) (list_image passage moves) other ↔ ((after : Board) × Plays game board moves after × (other ≡ carried passage after))
  list_plays-exactly board other (OneCard moves) well = plays-exactly one_card-carried is board other moves well
  list_plays-exactly board other (Runs tokens) well = plays-exactly several-carried is board other tokens well

  pub list_legal-exactly : (board : Board) (moves : MoveList) → IsWellFormed game board →
      Legal game (carried passage board) (list_image passage moves) ↔ Legal game board moves
  list_legal-exactly board (OneCard moves) well = legal-exactly one_card-carried is board moves well
  list_legal-exactly board (Runs tokens) well = legal-exactly several-carried is board tokens well

  pub list_wins-exactly : (board : Board) (moves : MoveList) → IsWellFormed game board →
      Wins game (carried passage board) (list_image passage moves) ↔ Wins game board moves
  list_wins-exactly board (OneCard moves) well = wins-exactly one_card-carried is board moves well
  list_wins-exactly board (Runs tokens) well = wins-exactly several-carried is board tokens well

  pub list_refused-exactly : (board : Board) (moves : MoveList) (index : ℕ) (fault : StepFault) → IsWellFormed game board →
      RefusedAt game (carried passage board) (list_image passage moves) index fault ↔ RefusedAt game board moves index fault
  list_refused-exactly board (OneCard moves) index fault well = refused-exactly one_card-carried is board moves index fault well
  list_refused-exactly board (Runs tokens) index fault well = refused-exactly several-carried is board tokens index fault well

module _ {game : Game} {renamings : List (List ℕ)} {cells count : ℕ} {kings_only : Bool} (laws : RuleLaws game renamings cells count kings_only) where
  carried-PlaysAlike : (passage : Passage) (board : Board) → IsPassage game passage → IsWellFormed game board →
      PlaysAlike game passage board (carried passage board)
  carried-PlaysAlike passage board is well =
      let fills = fills-renamed_card laws in
      let by_rank = laws.builds_one_rank in
      let by_fill = laws.fills_by_rank in
      record {
        legal = λ moves. turned (list_legal-exactly fills kings_only by_rank by_fill is board moves well);
        wins = λ moves. turned (list_wins-exactly fills kings_only by_rank by_fill is board moves well);
        refused = λ moves index fault. turned (list_refused-exactly fills kings_only by_rank by_fill is board moves index fault well);
      }

  pub carries-PlaysAlike : (passage : Passage) (board other : Board) → IsWellFormed game board → Carries game passage board other →
      PlaysAlike game passage board other
  carries-PlaysAlike passage board other well carries =
      rw carries.there (carried-PlaysAlike passage board carries.is_passage well)
