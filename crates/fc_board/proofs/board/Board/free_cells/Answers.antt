use Rattle.std.{proofs.Common.{arith}, specs.Option.{is_none}}
use Rattle.fc_board.proofs.board.Board.free_cells.Goals.{else-is_none, then-is_none}
use Rattle.fc_board.{proofs.PlacesLemmas.{found_place, left_place, nothing_held, room_left}, specs.Steps.{cell_at}}
use Rattle.fc_board.proofs.board.Board.free_cells.Goals as goal

pub push-requires : goal.push-requires
push-requires g c = (
  omega arith,
  room_left (λ cell. is_none (cell_at c.args.self.now cell)) c.loop-cell.cells.items c.loop-cell.cell g.R.Rule.CELLS c.loop-cell.invariant (omega arith) g.met.R.Rule.rule_laws.at_most_eight,
)

pub loop-cell-preserved : goal.loop-cell-preserved
loop-cell-preserved g c = elim c.if-is_none.branch [
  | then-is_none w ↦
      found_place (λ cell. is_none (cell_at c.args.self.now cell)) c.loop-cell.cells.items c.if-is_none.cells.items c.loop-cell.cell c.loop-cell.invariant
      (nothing_held _ _ _ _ c.is_none.ensures w.if-is_none.true c.cell.ensures.value) (cc)
  | else-is_none w ↦
      left_place (λ cell. is_none (cell_at c.args.self.now cell)) c.loop-cell.cells.items c.if-is_none.cells.items c.loop-cell.cell c.loop-cell.invariant
      (nothing_held _ _ _ _ c.is_none.ensures w.if-is_none.false c.cell.ensures.value) (cc)
]
