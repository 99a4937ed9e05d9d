-- A run is taken over on the columns as they lie in memory.
use Rattle.std.proofs.Common.{◌++◌, ◌+◌, ◌-◌, ◌<◌, ◌∙◌, ◌∷◌, ◌≡◌, ◌≢◌, ◌≤◌, [], ap, arith, Bool, drop, get_or, length}
use Rattle.std.proofs.Common.{length-take-le, List, None, Option, refl, set, Some, subst, sym, take, ℕ}
use Rattle.std.proofs.lemmas.{List.{drop-set-lt, length-drop, length_push}, Option.{same_Some}}
use Rattle.std.proofs.Math.Seq.{take-set-lt}
use Rattle.fc_board.proofs.{BoardLemmas.{columns_together, size_of-set}, DeckLemmas.{sizes_taken, stays_well_formed}}
use Rattle.fc_board.proofs.RunPlayLemmas.{token_keeps}
use Rattle.fc_board.proofs.RunStepLemmas.{longest_few, not_refused_exactly, token_counted}
use Rattle.fc_board.{proofs.StepLemmas.{heights_taken, step_of}, specs.Boards.{Board, IsWellFormed}}
use Rattle.fc_board.specs.{Games.{Game, RuleLaws}, inside.{HasRoomAt, size_of}}
use Rattle.fc_board.specs.{Moves.{Fits, PlaceFits, RunFits, SourceFits}, Steps.{card_at, column_at, last_cards, MayGo}}
use Rattle.fc_board.specs.Steps.{moved_count, put_on, refusal, run_moved, run_refusal, RunStep, Step, taken_from}
use Rattle.fc_board.specs.declared.moves.{Move.{Move}, Place.{Place}}
use Rattle.fc_board.specs.declared.moves.{Place.TheVariants.{Cell as ToCell, Column as ToColumn, Home}, Source.{Source}}
use Rattle.fc_board.specs.declared.moves.Source.TheVariants.{Cell as FromCell, Column as FromColumn}
use Rattle.fc_board.specs.declared.run_move.RunMove.{RunMove, TheVariants.{Run}}

-- ---- what is known of a move that nothing refuses
pub record GoesOver (game : Game) (board : Board) (token : RunMove) (from to count : ℕ) : Type 0 where
  pub apart : from ≢ to
  pub there : count ≤ length (column_at board from)
  pub step : RunStep game board token (run_moved board from to count)
  pub well : IsWellFormed game (run_moved board from to count)

pub goes_over_at_once : {game : Game} {renamings : List (List ℕ)} {cells listed : ℕ} {kings_only : Bool} →
    RuleLaws game renamings cells listed kings_only →
    (board : Board) (token : RunMove) (from to count : ℕ) (said : Option ℕ) → IsWellFormed game board → RunFits game token →
    token ≡ Run from to said →
    run_refusal game board (Run from to said) ≡ None → count ≡ moved_count game board from to said → GoesOver game board token from to count
goes_over_at_once {game = game} {kings_only = kings_only} laws board token from to count said well fits is none counted =
    let fits' = rw is at fits in
    let (after, step) = (not_refused_exactly game board (Run from to said) fits').0 none in
    let same : step.1.count ≡ count = token_counted game board from to said after step.1 ∙ sym counted in
    let moved : after ≡ run_moved board from to count = step.1.moved ∙ ap (run_moved board from to) same in
    let keeps = subst (IsWellFormed game) moved
    (token_keeps game kings_only laws.builds_one_rank laws.fills_by_rank board after (Run from to said) well step) in
    let there : count ≤ length (column_at board from) =
    subst (λ n. n ≤ length (column_at board from)) same (let run = step.1.is_run in omega (arith, longest_few game (column_at board from))) in
    record {
      apart = step.1.apart;
      there = there;
      step = rw is (rw moved at step);
      well = keeps;
    }

-- ---- the columns
-- the cards that are left in the column and those that are taken off it are no more than all were
pub room_over : (columns : List (List ℕ)) (from count : ℕ) (run : List ℕ) → from < length columns → count ≤ length (get_or columns from []) →
    size_of columns ≤ 52 → run ≡ last_cards count (get_or columns from []) →
    size_of (set columns from (take (length (get_or columns from []) - count) (get_or columns from []))) + length run ≤ 52
room_over columns from count run inside there few is =
    let column = get_or columns from [] in
    let rest = take (length column - count) column in
    let long = ap length is in
    omega (arith, size_of-set columns from rest inside, length-take-le (length column - count) column (omega arith), length-drop (length column - count) column, long)

-- ---- the game's part of what lies in memory

-- ---- a card is moved on the parts of a board as they lie in memory, where the game's cells are the first of eight

-- without the cells past the game's
abbrev pub game_part : ℕ → Board → Board
game_part count parts = record parts { cells = take count parts.cells }

taken_in_part : (game : Game) (count : ℕ) (parts : Board) (source : Source) → game.cells ≡ count → SourceFits game source →
    game_part count (taken_from parts source) ≡ taken_from (game_part count parts) source
taken_in_part game count parts (FromColumn column) cells fits = refl
taken_in_part game count parts (FromCell cell) cells fits =
    rw (take-set-lt count parts.cells cell None (omega arith))

put_in_part : (game : Game) (count : ℕ) (parts : Board) (card : ℕ) (place : Place) → game.cells ≡ count → PlaceFits game place →
    game_part count (put_on parts card place) ≡ put_on (game_part count parts) card place
put_in_part game count parts card (ToColumn column) cells fits = refl
put_in_part game count parts card (ToCell cell) cells fits =
    rw (take-set-lt count parts.cells cell (Some card) (omega arith))
put_in_part game count parts card Home cells fits = refl

others_taken : (game : Game) (count : ℕ) (parts : Board) (source : Source) → game.cells ≡ count → SourceFits game source →
    drop count (taken_from parts source).cells ≡ drop count parts.cells
others_taken game count parts (FromColumn column) cells fits = refl
others_taken game count parts (FromCell cell) cells fits = drop-set-lt count parts.cells cell None (omega arith)

others_put : (game : Game) (count : ℕ) (parts : Board) (card : ℕ) (place : Place) → game.cells ≡ count → PlaceFits game place →
    drop count (put_on parts card place).cells ≡ drop count parts.cells
others_put game count parts card (ToColumn column) cells fits = refl
others_put game count parts card (ToCell cell) cells fits = drop-set-lt count parts.cells cell (Some card) (omega arith)
others_put game count parts card Home cells fits = refl

-- ---- there is room where the card goes

room_in_part : (count : ℕ) (parts : Board) (card : ℕ) (place : Place) → HasRoomAt (game_part count parts) card place → HasRoomAt parts card place
room_in_part count parts card (ToColumn column) room = room
room_in_part count parts card (ToCell cell) room = room
room_in_part count parts card Home room = room

room_after : (game : Game) (board taken : Board) (card : ℕ) (place : Place) → length taken.columns ≡ 8 → taken.heights ≡ board.heights →
    IsWellFormed game (put_on taken card place) → PlaceFits game place → MayGo game board card place → HasRoomAt taken card place
room_after game board taken card (ToColumn column) eight same well fits goes =
    let few = columns_together game (put_on taken card (ToColumn column)) well in
    let inside : column < length taken.columns = omega arith in
    omega (arith, few, size_of-set taken.columns column (column_at taken column ++ card ∷ []) inside, length_push (column_at taken column) card)
room_after game board taken card (ToCell cell) eight same well fits goes = tt
room_after game board taken card Home eight same well fits goes = rw same goes

-- ---- the card of a move that nothing refuses is taken, and put

-- the game's part of what lies in memory is moved on, and the cells past the game's are as they were
pub record IsMovedInPlace (game : Game) (count : ℕ) (board parts : Board) (move : Move) (after : Board) : Type 0 where
  pub step : Step game board move (game_part count after)
  pub well : IsWellFormed game (game_part count after)
  pub others : drop count after.cells ≡ drop count parts.cells

module _ (game : Game) (count : ℕ) (board parts : Board) (move : Move) (card : ℕ) (cells : game.cells ≡ count) (same : game_part count parts ≡ board)
    (well : IsWellFormed game board) (fits : Fits game move) (found : card_at board move.from ≡ Some card) (free : refusal game board move ≡ None)
    (taken : Board) (took : taken ≡ taken_from parts move.from) where
  on_board : game_part count taken ≡ taken_from board move.from
  on_board = ap (game_part count) took ∙ taken_in_part game count parts move.from cells fits.0 ∙ ap (λ b. taken_from b move.from) same

  the_step : Step game board move (put_on (taken_from board move.from) card move.to)
  the_step = step_of game board move card fits found free

  it_goes : MayGo game board card move.to
  it_goes = rw (same_Some the_step.card card (sym the_step.offered.1 ∙ found)) at the_step.goes

  pub room_there : HasRoomAt taken card move.to
  room_there =
      let eight = (sizes_taken board move.from).2 ∙ well.piles.eight_columns in
      let room = room_after game board (taken_from board move.from) card move.to eight (heights_taken board move.from)
      (stays_well_formed game board (put_on (taken_from board move.from) card move.to) move well the_step) fits.1 it_goes in
      room_in_part count taken card move.to (rw on_board room)

  pub moved_in_place : (after : Board) → after ≡ put_on taken card move.to → IsMovedInPlace game count board parts move after
  moved_in_place after puts =
      let moved = ap (game_part count) puts ∙ put_in_part game count taken card move.to cells fits.1 ∙ ap (λ b. put_on b card move.to) on_board in
      let step = subst (Step game board move) (sym moved) the_step in
      record {
        step = step;
        well = stays_well_formed game board (game_part count after) move well step;
        others =
            ap (λ b. drop count b.cells) puts ∙ others_put game count taken card move.to cells fits.1 ∙
            ap (λ b. drop count b.cells) took ∙ others_taken game count parts move.from cells fits.0;
      }
