-- A step exists where nothing refuses it, and leads to one board. It takes one card from its pile and puts it on another, so the deck stays whole.
use Rattle.std.proofs.Common.{◌+◌, ◌==◌, ◌∙◌, ◌∷◌, ◌≡◌, ◌≤◌, [], ap, arith, Bool, cond, false, List, None, Option, refl}
use Rattle.std.proofs.{Common.{set, slice_index, Some, subst, suc, sym, true, zero, ℕ}, lemmas.Bool.{eq-eqb, eqb-true}}
use Rattle.std.{proofs.lemmas.Option.{same_Some}, specs.Option.{is_none}}
use Rattle.fc_card.specs.{rank_of, suit_of}
use Rattle.fc_board.specs.{Boards.{Board}, Games.{Game}, Moves.{Fits}, Steps.{card_at, cell_at, column_at}}
use Rattle.fc_board.specs.Steps.{column_refusal, fault_unless, found_refusal, height_of, is_same_pile, last_card}
use Rattle.fc_board.specs.Steps.{MayFollow, MayGo, place_refusal, put_on, refusal, Step, taken_from}
use Rattle.fc_board.specs.declared.{fault.StepFault.{StepFault, TheVariants.{SamePile}}, moves.Move.{Move}}
use Rattle.fc_board.specs.declared.moves.Place.{Place, TheVariants.{Cell as ToCell, Column as ToColumn, Home}}
use Rattle.fc_board.specs.declared.moves.Source.{Source, TheVariants.{Cell as FromCell, Column as FromColumn}}

-- ---- a step exists exactly where nothing refuses it

test_holds : (test : Bool) (fault : StepFault) → fault_unless test fault ≡ None → test ≡ true
test_holds true fault e = refl
test_holds false fault e = cc

no_fault : (test : Bool) (fault : StepFault) → test ≡ true → fault_unless test fault ≡ None
no_fault test fault e = rw e

pub nothing_there : (found : Option ℕ) → is_none found ≡ true → found ≡ None
nothing_there None e = refl
nothing_there (Some card) e = cc

follows : (game : Game) (card : ℕ) (last : Option ℕ) → column_refusal game card last ≡ None → MayFollow game card last
follows game card None e = test_holds (game.fills card) _ e
follows game card (Some last) e = test_holds (game.builds card last) _ e

not_refused : (game : Game) (card : ℕ) (last : Option ℕ) → MayFollow game card last → column_refusal game card last ≡ None
not_refused game card None may = no_fault (game.fills card) _ may
not_refused game card (Some last) may = no_fault (game.builds card last) _ may

may_go : (game : Game) (board : Board) (card : ℕ) (place : Place) → place_refusal game board card place ≡ None → MayGo game board card place
may_go game board card (ToColumn column) e = follows game card (last_card (column_at board column)) e
may_go game board card (ToCell cell) e = nothing_there (cell_at board cell) (test_holds (is_none (cell_at board cell)) _ e)
may_go game board card Home e =
    eqb-true (height_of board (suit_of card) + 1) (rank_of card) (test_holds (height_of board (suit_of card) + 1 == rank_of card) _ e)

goes_there : (game : Game) (board : Board) (card : ℕ) (place : Place) → MayGo game board card place → place_refusal game board card place ≡ None
goes_there game board card (ToColumn column) may = not_refused game card (last_card (column_at board column)) may
goes_there game board card (ToCell cell) may = no_fault (is_none (cell_at board cell)) _ (ap is_none may)
goes_there game board card Home may =
    no_fault (height_of board (suit_of card) + 1 == rank_of card) _ (eq-eqb (height_of board (suit_of card) + 1) (rank_of card) may)

found_card : (game : Game) (board : Board) (found : Option ℕ) (place : Place) → found_refusal game board found place ≡ None →
    (card : ℕ) × (found ≡ Some card) × MayGo game board card place
found_card game board None place e = cc
found_card game board (Some card) place e = (card, refl, may_go game board card place e)

other_pile_and_rest : (same : Bool) (rest : Option StepFault) → cond same (Some SamePile) rest ≡ None → (same ≡ false) × (rest ≡ None)
other_pile_and_rest true rest e = cc
other_pile_and_rest false rest e = (refl, e)

pub step_from : (game : Game) (board : Board) (move : Move) → Fits game move → refusal game board move ≡ None →
    (after : Board) × Step game board move after
step_from game board move fits e =
    let parts = other_pile_and_rest (is_same_pile move.from move.to) (found_refusal game board (card_at board move.from) move.to) e in
    let (card, found, goes) = found_card game board (card_at board move.from) move.to parts.1 in
    (put_on (taken_from board move.from) card move.to, record { fits = fits; card = card; offered = (parts.0, found); goes = goes; moved = refl })

pub not_refused_at_step : (game : Game) (board after : Board) (move : Move) → Step game board move after → refusal game board move ≡ None
not_refused_at_step game board after move step =
    ap (λ same. cond same (Some SamePile) (found_refusal game board (card_at board move.from) move.to)) step.offered.0 ∙
    ap (λ found. found_refusal game board found move.to) step.offered.1 ∙ goes_there game board step.card move.to step.goes

pub one_after : (game : Game) (board after other : Board) (move : Move) → Step game board move after → Step game board move other → after ≡ other
one_after game board after other move a b =
    let same = same_Some a.card b.card (sym a.offered.1 ∙ b.offered.1) in
    a.moved ∙ ap (λ card. put_on (taken_from board move.from) card move.to) same ∙ sym b.moved

-- the board that the move of this card leaves, where nothing refuses it
pub step_of : (game : Game) (board : Board) (move : Move) (card : ℕ) → Fits game move → card_at board move.from ≡ Some card →
    refusal game board move ≡ None → Step game board move (put_on (taken_from board move.from) card move.to)
step_of game board move card fits found free =
    let (after, step) = step_from game board move fits free in
    rw (step.moved ∙ ap (λ taken. put_on (taken_from board move.from) taken move.to) (same_Some step.card card (sym step.offered.1 ∙ found))) at step

-- ---- no foundation gets lower

one_more : (heights : List ℕ) (own suit : ℕ) → slice_index heights suit ≤ slice_index (set heights own (slice_index heights own + 1)) suit
one_more [] own suit = omega arith
one_more (height ∷ heights) zero zero = omega arith
one_more (height ∷ heights) zero (suc suit) = omega arith
one_more (height ∷ heights) (suc own) zero = omega arith
one_more (height ∷ heights) (suc own) (suc suit) = one_more heights own suit

pub heights_taken : (board : Board) (source : Source) → (taken_from board source).heights ≡ board.heights
heights_taken board (FromColumn column) = refl
heights_taken board (FromCell cell) = refl

put_not_lower : (board : Board) (card : ℕ) (place : Place) (suit : ℕ) → height_of board suit ≤ height_of (put_on board card place) suit
put_not_lower board card (ToColumn column) suit = omega arith
put_not_lower board card (ToCell cell) suit = omega arith
put_not_lower board card Home suit = one_more board.heights (suit_of card) suit

pub not_lower : (game : Game) (board after : Board) (move : Move) (suit : ℕ) → Step game board move after →
    height_of board suit ≤ height_of after suit
not_lower game board after move suit step =
    subst (λ other. height_of board suit ≤ height_of other suit) (sym step.moved)
    (subst (λ heights. slice_index heights suit ≤ height_of (put_on (taken_from board move.from) step.card move.to) suit) (heights_taken board move.from)
    (put_not_lower (taken_from board move.from) step.card move.to suit))
