use Rattle.std.proofs.Common.{◌∙◌, subst, sym}
use Rattle.fc_board.proofs.{BoardLemmas.{has_card}, MoveInPlace.{IsMovedInPlace, moved_in_place, room_there}}
use Rattle.fc_board.{proofs.StepLemmas.{step_from}, specs.{Boards.{Board}, inside.{board_with, HasCard}}}
use Rattle.fc_board.proofs.board.Board.step_allowed.Given
use Rattle.fc_board.proofs.board.Board.step_allowed.Goals as goal

pub unreachable-requires : goal.unreachable-requires
unreachable-requires g c =
    let (after, step) = step_from g.R.Rule.game c.args.self.now c.args.mv c.requires.fits c.requires.allowed in
    c.in_default.not-Some step.card (c.card_at.ensures.value ∙ step.offered.1)

pub take_off-requires-clause-card : goal.take_off-requires-clause-card
take_off-requires-clause-card g c =
    subst (λ board. HasCard board.columns c.args.mv.from) (sym c.self.view_is) (has_card c.args.self.now c.args.mv.from c.in-Some.card (sym c.card_at.ensures.value ∙ c.in-Some.is))

pub put_on-requires-clause-room : goal.put_on-requires-clause-room
put_on-requires-clause-room g c =
    let before : Board = board_with c.self.inside.heights c.self.inside.cells c.self.inside.columns in
    let taken : Board = board_with c.self.inside.heights c.take_off.new.cells c.take_off.new.columns in
    room_there g.R.Rule.game g.R.Rule.CELLS c.args.self.now before c.args.mv c.in-Some.card g.met.R.Rule.rule_laws.cells_are c.self.view_is
    (rw c.self.view_is at c.self.invariant.0) c.requires.fits (sym c.card_at.ensures.value ∙ c.in-Some.is) c.requires.allowed
    taken (c.take_off.ensures c.self.inside.heights)

moved : (g : Given.Over) (c : goal.After-put_on g) → IsMovedInPlace g.R.Rule.game g.R.Rule.CELLS c.args.self.now
    (board_with c.self.inside.heights c.self.inside.cells c.self.inside.columns) c.args.mv (board_with c.put_on.new.heights c.put_on.new.cells c.put_on.new.columns)
moved g c =
    let before : Board = board_with c.self.inside.heights c.self.inside.cells c.self.inside.columns in
    let taken : Board = board_with c.self.inside.heights c.take_off.new.cells c.take_off.new.columns in
    let after : Board = board_with c.put_on.new.heights c.put_on.new.cells c.put_on.new.columns in
    moved_in_place g.R.Rule.game g.R.Rule.CELLS c.args.self.now before c.args.mv c.in-Some.card g.met.R.Rule.rule_laws.cells_are c.self.view_is
    (rw c.self.view_is at c.self.invariant.0) c.requires.fits (sym c.card_at.ensures.value ∙ c.in-Some.is) c.requires.allowed
    taken (c.take_off.ensures c.self.inside.heights) after c.put_on.ensures

pub invariant_of-self : goal.invariant_of-self
invariant_of-self g c = ((moved g c).well, rw (moved g c).others c.self.invariant.1)

pub returns-clause-step : goal.returns-clause-step
returns-clause-step g c = (moved g c).step

pub returns-clause-well_formed : goal.returns-clause-well_formed
returns-clause-well_formed g c = (moved g c).well
