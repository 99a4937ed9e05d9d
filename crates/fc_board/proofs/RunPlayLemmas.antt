-- Moves of one card and moves of several meet what lists of moves ask of one move.
use Rattle.std.proofs.Common.{◌-◌, ◌<◌, ◌||◌, ◌↔◌, ◌∙◌, ◌∷◌, ◌≡◌, ◌≤◌, [], ap, arith, Bool, length, List, min, None}
use Rattle.std.proofs.Common.{not, Option, refl, Some, subst, sym, ℕ}
use Rattle.fc_card.{proofs.PermutationLemmas.{place-inside}, specs.laws.RenamingLaws.{rank_of-renamed_card}}
use Rattle.fc_card.specs.{place_of, rank_of, renamed_card}
use Rattle.fc_board.proofs.CarriedRunLemmas.{capacity-carried, longest_now, run_moved-carried, run_refusal-carried}
use Rattle.fc_board.proofs.DeckLemmas.{sizes_put, sizes_taken, stays_well_formed}
use Rattle.fc_board.proofs.ImageLemmas.{run_image-Fits, same_form}
use Rattle.fc_board.proofs.ListLemmas.{kept_by_all, MoveLaws, one_end, played_after}
use Rattle.fc_board.proofs.{RefusalCarried.{column-carried, FillsByRank, last-renamed}, RunLemmas.{BuildsByRank}}
use Rattle.fc_board.proofs.RunStepLemmas.{expansion_played, not_refused_exactly, one_board, token_counted}
use Rattle.fc_board.proofs.StepCarried.{move-Fits, step-carried}
use Rattle.fc_board.{proofs.StepLemmas.{not_lower, not_refused_at_step, step_from}, specs.Boards.{Board, IsWellFormed}}
use Rattle.fc_board.specs.{Games.{Game, is_king}, laws.ListWords.{MovesPlay, MovesWin, RunLegal, RunPlays, RunWins}}
use Rattle.fc_board.specs.{Moves.{Fits, RunFits}, Passages.{carried, IsPassage, Passage, renamed_cell, run_image}}
use Rattle.fc_board.specs.{Play.{expansion_of, expansions, IsWon, Played}, Steps.{after_move, after_run_move}}
use Rattle.fc_board.specs.Steps.{after_taking, capacity, column_at, counted_by, height_of, last_card, longest_run}
use Rattle.fc_board.specs.Steps.{moved_count, refusal, run_moved, run_refusal, RunStep, Step, taken_from}
use Rattle.fc_board.specs.declared.{moves.Move.{Move}, run_move.RunMove.{RunMove, TheVariants.{One, Run}}}

-- ---- of one card
as_many_foundations : (game : Game) (board after : Board) (move : Move) → length board.heights ≡ 4 → Step game board move after →
    length after.heights ≡ 4
as_many_foundations game board after move four step =
    ap (λ other. length other.heights) step.moved
    ∙ (sizes_put (taken_from board move.from) step.card move.to).0 ∙ (sizes_taken board move.from).0 ∙ four

pub after_step : (game : Game) (board after : Board) (move : Move) → Step game board move after → after_move board move ≡ after
after_step game board after move step = ap (after_taking board move.from move.to) step.offered.1 ∙ sym step.moved

pub one_card : (game : Game) → MoveLaws (Step game) (Fits game) (refusal game) after_move
one_card game = record {
  goes = step_from game;
  not_refused = not_refused_at_step game;
  ends = after_step game;
  foundations = as_many_foundations game;
}

pub never_lower : (game : Game) (board after : Board) (moves : List Move) (suit : ℕ) → Played (Step game) board moves after →
    height_of board suit ≤ height_of after suit
never_lower game board after moves suit plays =
    kept_by_all (Step game) (λ other. height_of board suit ≤ height_of other suit)
    (λ one next move high step. omega (arith, not_lower game one next move suit step)) board after moves (omega arith) plays

-- ---- of several cards
pub token_after : (game : Game) (board after : Board) (token : RunMove) → RunStep game board token after → after_run_move game board token ≡ after
token_after game board after (One move) step = after_step game board after move step.1
token_after game board after (Run from to said) step =
    sym (step.1.moved ∙ ap (run_moved board from to) (token_counted game board from to said after step.1))

pub step-RunFits : (game : Game) (board after : Board) (token : RunMove) → RunStep game board token after → RunFits game token
step-RunFits game board after (One move) step = (step.1.fits, step.0)
step-RunFits game board after (Run from to said) step = step.0

still_foundations : (game : Game) (board after : Board) (token : RunMove) → length board.heights ≡ 4 → RunStep game board token after →
    length after.heights ≡ 4
still_foundations game board after (One move) four step = as_many_foundations game board after move four step.1
still_foundations game board after (Run from to said) four step = rw step.1.moved four

pub several : (game : Game) → MoveLaws (RunStep game) (RunFits game) (run_refusal game) (after_run_move game)
several game = record {
  goes = λ board token fits. (not_refused_exactly game board token fits).0;
  not_refused = λ board after token step. (not_refused_exactly game board token (step-RunFits game board after token step)).1 (after, step);
  ends = token_after game;
  foundations = still_foundations game;
}

-- ---- a list and its expansion

-- ---- moves of several cards: lists of them play as their expansions do, and each goes through passages
module _ (game : Game) (kings_only : Bool) (by_rank : BuildsByRank game)
    (by_fill : (card : ℕ) → game.fills card ≡ (not kings_only || is_king card)) where
  pub token_keeps : (board after : Board) (token : RunMove) → IsWellFormed game board → RunStep game board token after → IsWellFormed game after
  token_keeps board after token well step =
      kept_by_all (Step game) (IsWellFormed game) (stays_well_formed game) board after
      (expansion_of game board token) well
      (expansion_played game kings_only by_rank by_fill board after token well step)

  pub list_expanded : (board after : Board) (tokens : List RunMove) → IsWellFormed game board → RunPlays game board tokens after →
      MovesPlay game board (expansions game board tokens) after
  list_expanded board after [] well plays = plays
  list_expanded board after (token ∷ tokens) well (between, step, rest) =
      played_after (Step game) board between after (expansion_of game board token) (expansions game (after_run_move game board token) tokens)
      (expansion_played game kings_only by_rank by_fill board between token well step)
      (subst (λ b. MovesPlay game between (expansions game b tokens) after) (sym (token_after game board between token step))
      (list_expanded between after tokens (token_keeps board between token well step) rest))

  -- a list wins exactly if it is legal and its expansion wins
  pub wins_expanded : (board : Board) (tokens : List RunMove) → IsWellFormed game board →
      RunWins game board tokens ↔ (RunLegal game board tokens × MovesWin game board (expansions game board tokens))
  wins_expanded board tokens well = (
    λ (after, plays, won). ((after, plays), (after, list_expanded board after tokens well plays, won)),
    λ both. let (after, plays) = both.0 in let (end, played, won) = both.1 in (
      after,
      plays,
      subst IsWon (one_end (one_card game) board end after (expansions game board tokens) played (list_expanded board after tokens well plays))
          won,
    ),
  )

-- ---- through passages

module _ {game : Game} {passage : Passage} (is : IsPassage game passage) (fills : FillsByRank game) where
  counted-carried : (board : Board) → IsWellFormed game board → (from to : ℕ) → from < 8 → to < 8 → (said source target : Option ℕ) →
      counted_by game (carried passage board) (place_of passage.columns from) (place_of passage.columns to) said
      (renamed_cell passage.renaming source) (renamed_cell passage.renaming target) ≡ counted_by game board from to said source target
  counted-carried board well from to inside inside' said None target = refl
  counted-carried board well from to inside inside' said (Some card) (Some last) =
      ap (λ n. n - rank_of (renamed_card passage.renaming card)) (rank_of-renamed_card passage.renaming last is.renames)
      ∙ ap (λ n. rank_of last - n) (rank_of-renamed_card passage.renaming card is.renames)
  counted-carried board well from to inside inside' (Some count) (Some card) None = refl
  counted-carried board well from to inside inside' None (Some card) None =
      ap (λ n. min n (capacity game (carried passage board) (place_of passage.columns to))) (longest_now is fills board well from to inside inside') ∙
      ap (min (longest_run game (column_at board from))) (capacity-carried is board to well inside')

  moved_count-carried : (board : Board) → IsWellFormed game board → (from to : ℕ) → from < 8 → to < 8 → (said : Option ℕ) →
      moved_count game (carried passage board) (place_of passage.columns from) (place_of passage.columns to) said ≡ moved_count game board from to
      said
  moved_count-carried board well from to inside inside' said =
      ap (λ found. counted_by game (carried passage board) (place_of passage.columns from) (place_of passage.columns to) said found
      (last_card (column_at (carried passage board) (place_of passage.columns to))))
      (ap last_card (column-carried is board from well.piles inside) ∙ last-renamed passage.renaming (column_at board from)) ∙
      ap (counted_by game (carried passage board) (place_of passage.columns from) (place_of passage.columns to) said
      (renamed_cell passage.renaming (last_card (column_at board from))))
      (ap last_card (column-carried is board to well.piles inside') ∙ last-renamed passage.renaming (column_at board to)) ∙
      counted-carried board well from to inside inside' said (last_card (column_at board from)) (last_card (column_at board to))

  after_run-carried : (board : Board) → IsWellFormed game board → (from to : ℕ) (said : Option ℕ) → from < 8 → to < 8 →
      after_run_move game (carried passage board) (run_image passage.columns passage.cells (Run from to said)) ≡ carried passage
      (after_run_move game board (Run from to said))
  after_run-carried board well from to said inside inside' =
      ap (run_moved (carried passage board) (place_of passage.columns from) (place_of passage.columns to))
      (moved_count-carried board well from to inside inside' said) ∙
      sym (run_moved-carried is board from to (moved_count game board from to said) well inside inside')

  pub run_step-carried : (board after : Board) (token : RunMove) → IsWellFormed game board → RunStep game board token after →
      RunStep game (carried passage board) (run_image passage.columns passage.cells token) (carried passage after)
  run_step-carried board after (One move) well step =
      (same_form passage.columns passage.cells move.from move.to ∙ step.0, step-carried is fills board after move well step.1)
  run_step-carried board after (Run from to said) well step =
      let none = (not_refused_exactly game board (Run from to said) step.0).1 (after, step) in
      let (other, step') = (not_refused_exactly game (carried passage board) (run_image passage.columns passage.cells (Run from to said))
      (run_image-Fits game passage.columns passage.cells (Run from to said) is.orders step.0)).0
      (run_refusal-carried is fills board (Run from to said) well step.0 ∙ none) in
      subst (RunStep game (carried passage board) (run_image passage.columns passage.cells (Run from to said)))
      (sym (token_after game (carried passage board) other (run_image passage.columns passage.cells (Run from to said)) step') ∙ after_run-carried
      board well from to said step.0.0 step.0.1 ∙ ap (carried passage) (token_after game board after (Run from to said) step)) step'

  pub run_step-back : (board other : Board) (token : RunMove) → IsWellFormed game board → RunFits game token →
      RunStep game (carried passage board) (run_image passage.columns passage.cells token) other →
      (after : Board) × RunStep game board token after × (other ≡ carried passage after)
  run_step-back board other token well fits step =
      let none = (not_refused_exactly game (carried passage board) (run_image passage.columns passage.cells token)
      (run_image-Fits game passage.columns passage.cells token is.orders fits)).1 (other, step) in
      let (after, step') = (not_refused_exactly game board token fits).0 (sym (run_refusal-carried is fills board token well fits) ∙ none) in (
        after,
        step',
        one_board game (carried passage board) other (carried passage after) (run_image passage.columns passage.cells token) step
            (run_step-carried board after token well step'),
      )

-- a token fits whose image does
module _ {game : Game} {passage : Passage} (is : IsPassage game passage) where
  column_inside : (column : ℕ) → place_of passage.columns column < 8 → column < 8
  column_inside column inside =
      let eight = is.orders.eight_columns in
      subst (λ count. column < count) eight
      (place-inside passage.columns column is.orders.of_columns (rw eight inside))

  pub token-RunFits : (token : RunMove) → RunFits game (run_image passage.columns passage.cells token) → RunFits game token
  token-RunFits (One move) fits =
      (move-Fits is move fits.0, sym (same_form passage.columns passage.cells move.from move.to) ∙ fits.1)
  token-RunFits (Run from to said) fits = (column_inside from fits.0, column_inside to fits.1, fits.2)

module _ {game : Game} {passage : Passage} (is : IsPassage game passage) (fills : FillsByRank game) where
  pub run_step-there : (board other : Board) (token : RunMove) → IsWellFormed game board →
      RunStep game (carried passage board) (run_image passage.columns passage.cells token) other →
      (after : Board) × RunStep game board token after × (other ≡ carried passage after)
  run_step-there board other token well step =
      run_step-back is fills board other token well
      (token-RunFits is token (step-RunFits game (carried passage board) other (run_image passage.columns passage.cells token) step)) step
