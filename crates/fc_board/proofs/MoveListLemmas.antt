-- What holds of lists of moves in either form.
use Rattle.std.proofs.Common.{◌↔◌, ◌≡◌, ◌⊎◌, Bool, false, if◌then◌else◌, IsTrue, length, List, refl, true, ℕ}
use Rattle.fc_board.proofs.{AlikeLemmas.{carries-PlaysAlike}, ListLemmas.{allowed-exactly, legal_not_refused}}
use Rattle.fc_board.proofs.ListLemmas.{legal_or_refused, one_end, one_refusal, refused-exactly, verdict-OnlyLegal}
use Rattle.fc_board.proofs.{ListLemmas.{verdict-Wins, won-exactly}, RunPlayLemmas.{one_card, several}}
use Rattle.fc_board.specs.{Boards.{Board, IsWellFormed}, Games.{Game, RuleLaws}}
use Rattle.fc_board.specs.{Moves.{list_image, ListFits, MoveList, OneCard, Runs}, Passages.{Carries, Passage}}
use Rattle.fc_board.specs.Play.{IsWon, Legal, list_verdict, OnlyLegal, Plays, Refused, RefusedAt, Wins, Won}
use Rattle.fc_board.specs.declared.fault.StepFault.{StepFault}

module _ (game : Game) where
  -- ---- legal, or refused at one place
  pub list_end : (board after other : Board) (moves : MoveList) → Plays game board moves after → Plays game board moves other → after ≡ other
  list_end board after other (OneCard moves) = one_end (one_card game) board after other moves
  list_end board after other (Runs tokens) = one_end (several game) board after other tokens

  pub list_legal_or_refused : (board : Board) (moves : MoveList) → ListFits game moves
      → Legal game board moves ⊎ ((index : ℕ) × (fault : StepFault) × RefusedAt game board moves index fault)
  list_legal_or_refused board (OneCard moves) fits = legal_or_refused (one_card game) board moves fits
  list_legal_or_refused board (Runs tokens) fits = legal_or_refused (several game) board tokens fits

  pub list_legal_not_refused : (board : Board) (moves : MoveList) → Legal game board moves → (index : ℕ) (fault : StepFault) →
      RefusedAt game board moves index fault → ⊥
  list_legal_not_refused board (OneCard moves) (after, plays) = legal_not_refused (one_card game) board after moves plays
  list_legal_not_refused board (Runs tokens) (after, plays) = legal_not_refused (several game) board after tokens plays

  pub one_list_refusal : (board : Board) (moves : MoveList) (index other : ℕ) (fault why : StepFault)
      → RefusedAt game board moves index fault → RefusedAt game board moves other why → (index ≡ other) × (fault ≡ why)
  one_list_refusal board (OneCard moves) = one_refusal (one_card game) board moves
  one_list_refusal board (Runs tokens) = one_refusal (several game) board tokens

  -- ---- the verdict
  pub list_won-exactly : (board : Board) (moves : MoveList) → ListFits game moves → length board.heights ≡ 4
      → (list_verdict game board moves ≡ Won) ↔ Wins game board moves
  list_won-exactly board (OneCard moves) fits four = won-exactly (one_card game) board moves fits four
  list_won-exactly board (Runs tokens) fits four = won-exactly (several game) board tokens fits four

  pub list_allowed-exactly : (board : Board) (moves : MoveList) → ListFits game moves → length board.heights ≡ 4
      → (list_verdict game board moves ≡ OnlyLegal) ↔ (Legal game board moves × (Wins game board moves → ⊥))
  list_allowed-exactly board (OneCard moves) fits four = allowed-exactly (one_card game) board moves fits four
  list_allowed-exactly board (Runs tokens) fits four = allowed-exactly (several game) board tokens fits four

  pub list_refused-exactly : (board : Board) (moves : MoveList) (index : ℕ) (fault : StepFault) → ListFits game moves
      → (list_verdict game board moves ≡ Refused index fault) ↔ RefusedAt game board moves index fault
  list_refused-exactly board (OneCard moves) index fault fits = refused-exactly (one_card game) board moves index fault fits
  list_refused-exactly board (Runs tokens) index fault fits = refused-exactly (several game) board tokens index fault fits

  -- the verdict on a list that was played to its end, by whether the board is won then
  pub list_verdict-played : (board after : Board) (moves : MoveList) (won : Bool) → length board.heights ≡ 4 → Plays game board moves after
      → (IsTrue won ↔ IsWon after) → list_verdict game board moves ≡ (if won then Won else OnlyLegal)
  list_verdict-played board after (OneCard moves) true four plays decides = verdict-Wins (one_card game) board after moves plays (decides.0 refl)
  list_verdict-played board after (OneCard moves) false four plays decides =
      verdict-OnlyLegal (one_card game) board after moves four plays (λ won. cc (decides.1 won))
  list_verdict-played board after (Runs tokens) true four plays decides = verdict-Wins (several game) board after tokens plays (decides.0 refl)
  list_verdict-played board after (Runs tokens) false four plays decides =
      verdict-OnlyLegal (several game) board after tokens four plays (λ won. cc (decides.1 won))

pub list_wins-carried : {game : Game} {renamings : List (List ℕ)} {cells count : ℕ} {kings_only : Bool} →
    RuleLaws game renamings cells count kings_only
    → (passage : Passage) (board other : Board) → IsWellFormed game board → Carries game passage board other → (list : MoveList) → ListFits game list
    → Wins game board list → Wins game other (list_image passage list)
list_wins-carried laws passage board other well carries list fits wins = ((carries-PlaysAlike laws passage board other well carries).wins list).0 wins
