use Rattle.std.proofs.Common.{◌∙◌, ◌≤◌, arith}
use Rattle.fc_bytes.proofs.DecodedLemmas.{all_cells, heights_back}
use Rattle.fc_bytes.proofs.board.BoardBytes.of.Goals as goal

pub returns : goal.returns
returns g c =
    let laws = g.met.R.Rule.rule_laws in
    let few : g.R.Rule.game.cells ≤ 8 = omega (arith, laws.cells_are, laws.at_most_eight) in
    let well = c.height_bytes.ensures.well_formed in
    let board = c.args.board.now in
    let heights = c.height_bytes.ensures.bytes ∙ heights_back g.R.Rule.game board well few in
    let cells = c.cell_bytes.ensures ∙ all_cells g.R.Rule.game board well few in
    let lengths = c.column_bytes.ensures.lengths in
    let cards = c.column_bytes.ensures.cards in
    (well, λ i. record { heights = heights i; cells = cells i; lengths = lengths i; cards = cards i })
