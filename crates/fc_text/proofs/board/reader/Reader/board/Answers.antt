use Rattle.std.proofs.Common.{◌∙◌, ◌≡◌}
use Rattle.fc_board.specs.inside.{board_of_laid, columns_from}
use Rattle.fc_text.proofs.{board.reader.Reader.board.Given.{Over}, FinishLemmas.{ends_up, lies_as_known, past_cells}}
use Rattle.fc_text.{proofs.KeptLemmas.{few_cards}, specs.reader.{board_known}}
use Rattle.fc_text.proofs.board.reader.Reader.board.Goals as goal
use Rattle.fc_text.proofs.board.reader.Reader.board.Goals.{After-known_heights}

pub ends-ends-requires-clause-cards : goal.ends-ends-requires-clause-cards
ends-ends-requires-clause-cards g c = few_cards c.self.inside.kept c.self.invariant

pub of_laid-requires-clause-cells : goal.of_laid-requires-clause-cells
of_laid-requires-clause-cells g c = past_cells c.self.inside.kept c.self.invariant

pub of_laid-requires-clause-ends : goal.of_laid-requires-clause-ends
of_laid-requires-clause-ends g c = rw c.ends-ends.ensures (ends_up c.self.inside.kept c.self.invariant)

-- the parts are those of the board that is known
known_parts : (g : Over) (c : After-known_heights g)
    → board_of_laid g.R.Rule.CELLS c.known_heights.result c.self.inside.kept.cells (columns_from 0 c.self.inside.kept.cards c.ends-ends.result)
    ≡ board_known g.R.Rule.game c.args.self
known_parts g c =
    let laws = g.met.R.Rule.rule_laws in
    rw (← c.self.view_is, c.ends-ends.ensures) (lies_as_known c.self.inside.kept c.self.invariant g.R.Rule.game laws.cells_are laws.at_most_eight _ c.known_heights.ensures)

pub of_laid-requires-clause-well_formed : goal.of_laid-requires-clause-well_formed
of_laid-requires-clause-well_formed g c = rw (known_parts g c) c.requires

pub returns : goal.returns
returns g c = c.of_laid.ensures.parts ∙ known_parts g (goal.at.returns g c).After-known_heights
