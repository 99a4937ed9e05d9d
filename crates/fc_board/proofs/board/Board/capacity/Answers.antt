use Rattle.std.proofs.Common.{◌∙◌, ◌≤◌, subst, sym}
use Rattle.fc_board.proofs.PlacesLemmas.{capacity_of_kings, capacity_small, capacity_there}
use Rattle.fc_board.proofs.board.Board.capacity.Goals as goal

pub returns-then-KINGS_ONLY-clause-value : goal.returns-then-KINGS_ONLY-clause-value
returns-then-KINGS_ONLY-clause-value g c =
    capacity_of_kings g.R.Rule.game g.R.Rule.KINGS_ONLY g.met.R.Rule.rule_laws.fills_by_rank c.args.self.now c.args.target
    (sym c.KINGS_ONLY.ensures ∙ c.if-KINGS_ONLY.true)
    c.free_cells.result.items c.len.result c.free_cells.ensures c.len.ensures.value

pub returns-else-KINGS_ONLY-clause-value : goal.returns-else-KINGS_ONLY-clause-value
returns-else-KINGS_ONLY-clause-value g c =
    let laws = g.met.R.Rule.rule_laws in
    capacity_there g.R.Rule.game g.R.Rule.KINGS_ONLY laws.fills_by_rank c.args.self.now c.args.target g.R.Rule.CELLS
    (sym c.KINGS_ONLY.ensures ∙ c.if-KINGS_ONLY.false)
    laws.cells_are laws.at_most_eight c.free_cells.result.items c.spare_columns.result.items c.len.result c.len-else-KINGS_ONLY.result
    c.free_cells.ensures c.spare_columns.ensures c.len.ensures.value c.len-else-KINGS_ONLY.ensures.value

pub returns-else-KINGS_ONLY-clause-at_most_640 : goal.returns-else-KINGS_ONLY-clause-at_most_640
returns-else-KINGS_ONLY-clause-at_most_640 g c =
    let laws = g.met.R.Rule.rule_laws in
    subst (λ n. n ≤ 640) (sym (returns-else-KINGS_ONLY-clause-value g c))
    (capacity_small g.R.Rule.game g.R.Rule.KINGS_ONLY g.R.Rule.CELLS laws.fills_by_rank laws.cells_are laws.at_most_eight laws.few_cells
    c.args.self.now c.args.target c.requires)
