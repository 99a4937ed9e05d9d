use Rattle.std.proofs.Common.{◌∙◌, rules}
use Rattle.fc_board.{proofs.RunStepLemmas.{room_by, room_there}, specs.Steps.{free_cells, spare_columns}}
use Rattle.fc_board.proofs.board.Board.expand_run.Goals as goal

pub put_expansion-requires-clause-count : goal.put_expansion-requires-clause-count
put_expansion-requires-clause-count g c =
    let laws = g.met.R.Rule.rule_laws in
    let facts = room_there g.R.Rule.game g.R.Rule.KINGS_ONLY laws.builds_one_rank laws.fills_by_rank c.args.self.now c.args.from c.args.to
    c.in_ok-count.count c.args.said (rw c.self.view_is at c.self.invariant.0) c.requires
    c.in_ok-count.ensures.allowed c.in_ok-count.ensures.count in
    (facts.0, facts.1)

pub put_expansion-requires-clause-room : goal.put_expansion-requires-clause-room
put_expansion-requires-clause-room g c =
    let laws = g.met.R.Rule.rule_laws in
    let facts = room_there g.R.Rule.game g.R.Rule.KINGS_ONLY laws.builds_one_rank laws.fills_by_rank c.args.self.now c.args.from c.args.to
    c.in_ok-count.count c.args.said (rw c.self.view_is at c.self.invariant.0) c.requires
    c.in_ok-count.ensures.allowed c.in_ok-count.ensures.count in
    room_by c.as_slice.result.now (free_cells g.R.Rule.game c.args.self.now) c.as_slice-2.result.now (spare_columns c.args.self.now c.args.to)
    c.in_ok-count.count c.args.from c.args.to _
    (c.as_slice.ensures.value ∙ c.free_cells-cells.ensures) (c.as_slice-2.ensures.value ∙ c.spare_columns-columns.ensures) (search rules) facts.2
