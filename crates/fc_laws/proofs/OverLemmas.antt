-- The image of what a text lists may be printed and read again, and runs that are refused as over the capacity.
use Rattle.std.proofs.Common.{◌++◌, ◌-◌, ◌<◌, ◌||◌, ◌↔◌, ◌∙◌, ◌∷◌, ◌≡◌, ◌≢◌, ◌≤◌, ◌⊎◌, [], ap, arith, Bool, eqb, false}
use Rattle.std.proofs.Common.{inl, inr, leb, length, List, ltb, None, not, Option, refl, Some, subst, sym, true, ℕ}
use Rattle.std.proofs.lemmas.{Bool.{Decides.{nat_tests}, leb-true}, List.{length-map}}
use Rattle.fc_card.specs.{rank_of}
use Rattle.fc_board.proofs.{CapacityLemmas.{first_stays_put}, ExactLemmas.{cut_out, exact, other_test}}
use Rattle.fc_board.proofs.{ImageLemmas.{images-Fit, run_images-Fit}, RunLemmas.{BuildsByRank}}
use Rattle.fc_board.{proofs.RunStepLemmas.{ends_in_run, first_is, more_test}, specs.Boards.{Board, IsWellFormed}}
use Rattle.fc_board.specs.Games.{Builds, Game, is_king}
use Rattle.fc_board.specs.{laws.ListWords.{CanGoOver, images, IsRun, MovesPlay, run_images}, Moves.{RunFits}}
use Rattle.fc_board.specs.{Passages.{AreOrders, image, run_image}, Steps.{capacity, column_at, Confined, counted_by}}
use Rattle.fc_board.specs.Steps.{fault_or, first_of_last, last_card, last_cards, longest_run, matches_stated}
use Rattle.fc_board.specs.Steps.{moved_count, onto, onto_card, run_moved, run_refusal}
use Rattle.fc_board.specs.declared.fault.StepFault.{StepFault}
use Rattle.fc_board.specs.declared.fault.StepFault.TheVariants.{NoRun, NotBuilding, OverCapacity, SamePile, WrongCount}
use Rattle.fc_board.specs.declared.{moves.Move.{Move}, run_move.RunMove.{RunMove, TheVariants.{Run}}}
use Rattle.fc_text.proofs.{ListedLemmas.{Listed-Fit, Listed-RunFit}, PrintLemmas.{print-Listed, print_runs-Listed}}
use Rattle.fc_text.specs.{Notation.{IsRunToken, IsToken, Listed}, reader.{print_moves, print_runs}}

pub image-Listed : (game : Game) (text columns cells : List ℕ) (moves : List Move) → game.cells ≤ 8
    → AreOrders game columns cells
    → Listed (IsToken game) text moves
    → Listed (IsToken game) (print_moves (images columns cells moves)) (images columns cells moves)
image-Listed game text columns cells moves few are listed =
    let short = listed.at_most in
    print-Listed game (images columns cells moves) few (images-Fit game columns cells moves are (Listed-Fit game text moves listed))
    (let long = length-map moves (image columns cells) in omega arith)

pub run_image-Listed : (game : Game) (text columns cells : List ℕ) (moves : List RunMove) → game.cells ≤ 8
    → AreOrders game columns cells
    → Listed (IsRunToken game) text moves
    → Listed (IsRunToken game) (print_runs (run_images columns cells moves)) (run_images columns cells moves)
run_image-Listed game text columns cells moves few are listed =
    let short = listed.at_most in
    print_runs-Listed game (run_images columns cells moves) few (run_images-Fit game columns cells moves are (Listed-RunFit game text moves listed))
    (let long = length-map moves (run_image columns cells) in omega arith)

-- ---- a token is refused as over the capacity exactly where no confined list does what it says

-- no reason is found before the capacity is looked at
abbrev pub IsLeft : Option StepFault → Type 0
IsLeft refused = (refused ≡ None) ⊎ (refused ≡ Some OverCapacity)

left_over : (t : Bool) (fault : StepFault) (rest : Option StepFault) → (fault ≡ OverCapacity → ⊥) →
    IsLeft (fault_or t fault rest) →
    (t ≡ true) × IsLeft rest
left_over true fault rest other is = (refl, is)
left_over false fault rest other (inl none) = cc
left_over false fault rest other (inr over) = absurd (other (cc))

-- the last test
over_exactly : (t : Bool) → (fault_or t OverCapacity None ≡ Some OverCapacity) ↔ (t ≡ false)
over_exactly true = (λ e. cc, λ e. cc)
over_exactly false = (λ e. refl, λ e. refl)

not_up_to : (m n : ℕ) → (leb m n ≡ false) ↔ (n < m)
not_up_to m n = (λ e. grind (arith, nat_tests), λ h. grind (arith, nat_tests))

-- a test that finds no reason leaves the rest
opens : (t : Bool) (fault : StepFault) (rest : Option StepFault) → t ≡ true → fault_or t fault rest ≡ rest
opens true fault rest e = refl
opens false fault rest e = cc

module _ (game : Game) (kings_only : Bool) (by_rank : BuildsByRank game)
    (by_fill : (card : ℕ) → game.fills card ≡ (not kings_only || is_king card)) (board : Board) (from to : ℕ) (said : Option ℕ) where
  -- so many cards are a run that goes on the last card, and are refused exactly where they are more than the capacity
  record IsOnlyOver (card last count : ℕ) : Type 0 where
    some : 1 ≤ count
    run : count ≤ longest_run game (column_at board from)
    builds : Builds game (first_of_last count (column_at board from)) last
    over : (onto_card game board from to said card last ≡ Some OverCapacity) ↔ (capacity game board to < count)

  only_over : (card last : ℕ) → IsLeft (onto_card game board from to said card last)
      → IsOnlyOver card last (rank_of last - rank_of card)
  only_over card last left =
      let count = rank_of last - rank_of card in
      let column = column_at board from in
      let within = leb count (capacity game board to) in
      let p = left_over (ltb (rank_of card) (rank_of last)) NotBuilding _ (λ e. cc) left in
      let q = left_over (matches_stated said count) WrongCount _ (λ e. cc) p.1 in
      let r = left_over (leb count (longest_run game column)) NoRun _ (λ e. cc) q.1 in
      let s = left_over (game.builds (first_of_last count column) last) NotBuilding _ (λ e. cc) r.1 in
      let opened : onto_card game board from to said card last ≡ fault_or within OverCapacity None =
      opens (ltb (rank_of card) (rank_of last)) _ _ p.0 ∙ opens (matches_stated said count) _ _ q.0
      ∙ opens (leb count (longest_run game column)) _ _ r.0
      ∙ opens (game.builds (first_of_last count column) last) _ _ s.0 in record {
        some = (let more = more_test (rank_of card) (rank_of last) p.0 in omega arith);
        run = leb-true count (longest_run game column) r.0;
        builds = s.0;
        over = (
          λ over. (not_up_to count (capacity game board to)).0 ((over_exactly within).0 (sym opened ∙ over)),
          λ more. opened ∙ (over_exactly within).1 ((not_up_to count (capacity game board to)).1 more),
        );
      }

  -- the run was on the cards under it, and its first card still is
  abbrev pub FirstStays : Board → ℕ → Type 0
  FirstStays after count = (under : List ℕ) × (first : ℕ) × (later : List ℕ) × (rest : List ℕ) × (column_at board from ≡ under ++ first ∷ later)
      × (length (first ∷ later) ≡ count) × (column_at after from ≡ under ++ first ∷ rest)

  module _ (last : ℕ) (well : IsWellFormed game board) (inside : from < 8) (inside' : to < 8)
      (there : last_card (column_at board to) ≡ Some last) where
    module _ (count : ℕ) (some : 1 ≤ count) (goes : Builds game (first_of_last count (column_at board from)) last) where
      by_cards : (under cards : List ℕ) → from ≢ to → column_at board from ≡ under ++ cards
          → length cards ≡ count → IsRun game cards
          → (capacity game board to < count) ↔ (¬ CanGoOver game board from to count)
      by_cards under [] apart parts size run = absurd (omega (arith, some, size))
      by_cards under (first ∷ later) apart parts size run =
          let builds : Builds game first last = rw (first_is (column_at board from) under first later count parts size) at goes in
          let law = exact game kings_only by_rank by_fill board from to first last under later well apart inside inside' parts run there builds in
          let same : last_cards (length (first ∷ later)) (column_at board from) ≡ first ∷ later =
          cut_out game board from to under (first ∷ later) well parts inside inside' in
          subst (λ n. (capacity game board to < n) ↔ (¬ CanGoOver game board from to n)) size
          (subst (λ cards. (capacity game board to < length (first ∷ later)) ↔
          (¬ ((moves : List Move) × Confined board from to cards board moves × MovesPlay game board moves
          (run_moved board from to (length (first ∷ later)))))) (sym same) law)

      stays_by_cards : (after : Board) (moves : List Move) (under cards : List ℕ)
          → column_at board from ≡ under ++ cards
          → length cards ≡ count → IsRun game cards → capacity game board to < count
          → Confined board from to (last_cards count (column_at board from)) board moves → MovesPlay game board moves after
          → FirstStays after count
      stays_by_cards after moves under [] parts size run over confined plays = absurd (omega (arith, some, size))
      stays_by_cards after moves under (first ∷ later) parts size run over confined plays =
          let builds : Builds game first last = rw (first_is (column_at board from) under first later count parts size) at goes in
          let same : last_cards (length (first ∷ later)) (column_at board from) ≡ first ∷ later =
          cut_out game board from to under (first ∷ later) well parts inside inside' in
          let confined' : Confined board from to (first ∷ later) board moves = rw (← same, size) confined in
          let stays = first_stays_put game kings_only by_rank by_fill board after from to first last under later moves well parts run there builds
          (rw size over) confined' plays in
          (under, first, later, stays.0, parts, size, stays.1)

    on_cards : (card : ℕ) → from ≢ to → IsLeft (onto_card game board from to said card last)
        → (onto_card game board from to said card last ≡ Some OverCapacity) ↔ (¬ CanGoOver game board from to (rank_of last - rank_of card))
    on_cards card apart left =
        let count = rank_of last - rank_of card in
        let is = only_over card last left in
        let ends = ends_in_run game (column_at board from) count is.run in
        let law = by_cards count is.some is.builds ends.under ends.cards apart ends.parts ends.size ends.run in
        (λ over. law.0 (is.over.0 over), λ none. is.over.1 (law.1 none))

    stays_on_cards : (after : Board) (moves : List Move) (card : ℕ)
        → onto_card game board from to said card last ≡ Some OverCapacity
        → Confined board from to (last_cards (rank_of last - rank_of card) (column_at board from)) board moves
        → MovesPlay game board moves after → FirstStays after (rank_of last - rank_of card)
    stays_on_cards after moves card over confined plays =
        let count = rank_of last - rank_of card in
        let is = only_over card last (inr over) in
        let ends = ends_in_run game (column_at board from) count is.run in
        stays_by_cards count is.some is.builds after moves ends.under ends.cards ends.parts ends.size ends.run (is.over.0 over) confined plays

    on_found : (found : Option ℕ) → from ≢ to → IsLeft (onto game board from to said found (Some last))
        → (onto game board from to said found (Some last) ≡ Some OverCapacity)
        ↔ (¬ CanGoOver game board from to (counted_by game board from to said found (Some last)))
    on_found None apart (inl none) = cc
    on_found None apart (inr over) = cc
    on_found (Some card) apart left = on_cards card apart left

    stays_on_found : (after : Board) (moves : List Move) (found : Option ℕ)
        → onto game board from to said found (Some last) ≡ Some OverCapacity
        → Confined board from to (last_cards (counted_by game board from to said found (Some last)) (column_at board from)) board moves
        → MovesPlay game board moves after → FirstStays after (counted_by game board from to said found (Some last))
    stays_on_found after moves None over confined plays = cc
    stays_on_found after moves (Some card) over confined plays = stays_on_cards after moves card over confined plays

  -- ---- what is refused for the whole run

  abbrev found : Option ℕ
  found = last_card (column_at board from)

  found_on : (last : ℕ) → last_card (column_at board to) ≡ Some last
      → IsLeft (run_refusal game board (Run from to said))
      → (not (eqb from to) ≡ true) × (run_refusal game board (Run from to said) ≡ onto game board from to said found (Some last))
  found_on last there left =
      let p = left_over (not (eqb from to)) SamePile _ (λ e. cc) left in
      (p.0, opens (not (eqb from to)) _ _ p.0 ∙ ap (onto game board from to said found) there)

  counted : (last : ℕ) → last_card (column_at board to) ≡ Some last
      → moved_count game board from to said ≡ counted_by game board from to said found (Some last)
  counted last there = ap (counted_by game board from to said found) there

  pub over_capacity : (last : ℕ) → IsWellFormed game board → RunFits game (Run from to said) → last_card (column_at board to) ≡ Some last
      → IsLeft (run_refusal game board (Run from to said))
      → (run_refusal game board (Run from to said) ≡ Some OverCapacity) ↔ (¬ CanGoOver game board from to (moved_count game board from to said))
  over_capacity last well fits there left =
      let (apart, opened) = found_on last there left in
      let law = on_found last well fits.0 fits.1 there found (other_test from to apart) (subst IsLeft opened left) in
      rw (counted last there) (λ over. law.0 (sym opened ∙ over), λ none. opened ∙ law.1 none)

  pub over_stays : (after : Board) (last : ℕ) (moves : List Move) → IsWellFormed game board → RunFits game (Run from to said)
      → last_card (column_at board to) ≡ Some last → run_refusal game board (Run from to said) ≡ Some OverCapacity
      → Confined board from to (last_cards (moved_count game board from to said) (column_at board from)) board moves
      → MovesPlay game board moves after → FirstStays after (moved_count game board from to said)
  over_stays after last moves well fits there over confined plays =
      let (apart, opened) = found_on last there (inr over) in
      rw (counted last there) (stays_on_found last well fits.0 fits.1 there after moves found (sym opened ∙ over)
      (subst (λ n. Confined board from to (last_cards n (column_at board from)) board moves) (counted last there) confined) plays)
