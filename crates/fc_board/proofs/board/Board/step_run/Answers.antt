use Rattle.std.proofs.Common.{◌∙◌, ◌≡◌, ◌≤◌, [], ap, get_or, length, List, subst, sym, take, ℕ}
use Rattle.fc_board.proofs.{BoardLemmas.{columns_together}, MoveInPlace.{goes_over_at_once, GoesOver}}
use Rattle.fc_board.specs.{inside.{board_of_laid}, Steps.{run_moved}}
use Rattle.fc_board.proofs.board.Board.step_run.Given
use Rattle.fc_board.proofs.board.Board.step_run.Goals as goal

goes_over : (g : Given.Over) (c : goal.After-take_over-arg-1 g) →
    GoesOver g.R.Rule.game c.args.self.now c.args.mv c.in-Run.from c.in-Run.to c.in_ok-count-in-Run.count
goes_over g c =
    goes_over_at_once g.met.R.Rule.rule_laws c.args.self.now c.args.mv c.in-Run.from c.in-Run.to c.in_ok-count-in-Run.count c.in-Run.count
    (rw c.self.view_is at c.self.invariant.0) c.requires.fits c.in-Run.is c.in_ok-count-in-Run.ensures.allowed
    c.in_ok-count-in-Run.ensures.count

went_over : (g : Given.Over) (c : goal.After-take_over g) →
    GoesOver g.R.Rule.game c.args.self.now c.args.mv c.in-Run.from c.in-Run.to c.in_ok-count-in-Run.count
went_over g c =
    goes_over_at_once g.met.R.Rule.rule_laws c.args.self.now c.args.mv c.in-Run.from c.in-Run.to c.in_ok-count-in-Run.count c.in-Run.count
    (rw c.self.view_is at c.self.invariant.0) c.requires.fits c.in-Run.is c.in_ok-count-in-Run.ensures.allowed
    c.in_ok-count-in-Run.ensures.count

pub take_over-requires-clause-there : goal.take_over-requires-clause-there
take_over-requires-clause-there g c =
    subst (λ (columns : List (List ℕ)). c.in_ok-count-in-Run.count ≤ length (get_or columns c.in-Run.from []))
    (sym (ap (λ board. board.columns) c.self.view_is)) (goes_over g c).there

pub take_over-requires-clause-eight : goal.take_over-requires-clause-eight
take_over-requires-clause-eight g c = c.self.invariant.0.piles.eight_columns

pub take_over-requires-clause-room : goal.take_over-requires-clause-room
take_over-requires-clause-room g c = columns_together g.R.Rule.game _ c.self.invariant.0

moved : (g : Given.Over) (c : goal.After-take_over g) →
    board_of_laid g.R.Rule.CELLS c.self.inside.heights c.self.inside.cells c.take_over.new.columns ≡ run_moved c.args.self.now c.in-Run.from c.in-Run.to
    c.in_ok-count-in-Run.count
moved g c =
    c.take_over.ensures c.self.inside.heights (take g.R.Rule.CELLS c.self.inside.cells)
    ∙ ap (λ board. run_moved board c.in-Run.from c.in-Run.to c.in_ok-count-in-Run.count) c.self.view_is

pub returns-in_ok-count-in-Run-clause-well_formed : goal.returns-in_ok-count-in-Run-clause-well_formed
returns-in_ok-count-in-Run-clause-well_formed g c = rw (moved g c) (went_over g c).well

pub invariant_of-self : goal.invariant_of-self
invariant_of-self g c = (returns-in_ok-count-in-Run-clause-well_formed g c, c.self.invariant.1)

pub returns-in_ok-count-in-Run-clause-step : goal.returns-in_ok-count-in-Run-clause-step
returns-in_ok-count-in-Run-clause-step g c = rw (moved g c) (went_over g c).step
