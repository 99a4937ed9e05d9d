use Rattle.std.proofs.Common.{arith}
use Rattle.fc_board.proofs.board.Board.spare_columns.Goals.{else-is_empty, else-is_empty-via-else-is_empty}
use Rattle.fc_board.proofs.board.Board.spare_columns.Goals.{else-is_empty-via-then-is_empty+else-column-target}
use Rattle.fc_board.proofs.board.Board.spare_columns.Goals.{then-is_empty+then-column-target}
use Rattle.fc_board.proofs.PlacesLemmas.{a_helper, found_place, left_place, no_helper, room_left, target_no_helper}
use Rattle.fc_board.specs.Steps.{is_helper}
use Rattle.fc_board.proofs.board.Board.spare_columns.Goals as goal

pub push-requires : goal.push-requires
push-requires g c = (omega arith, room_left (is_helper c.args.self.now c.args.target) c.loop-column.columns.items c.loop-column.column 8 c.loop-column.invariant c.loop-column-test.true (omega arith))

pub loop-column-preserved : goal.loop-column-preserved
loop-column-preserved g c = elim c.if-is_empty.branch [
  | then-is_empty+then-column-target w ↦
      found_place (is_helper c.args.self.now c.args.target) c.loop-column.columns.items c.if-is_empty.columns.items c.loop-column.column c.loop-column.invariant
      (a_helper c.args.self.now c.args.target c.loop-column.column c.from.result c.column.result.now c.is_empty.result c.column.ensures.value c.from.ensures c.is_empty.ensures w.if-is_empty.true w.if-column-target.true) (cc)
  | else-is_empty w ↦ elim w.else-is_empty.branch [
    | else-is_empty-via-then-is_empty+else-column-target w' ↦
        left_place (is_helper c.args.self.now c.args.target) c.loop-column.columns.items c.if-is_empty.columns.items c.loop-column.column c.loop-column.invariant
        (target_no_helper c.args.self.now c.args.target c.loop-column.column w'.if-column-target.false) (cc)
    | else-is_empty-via-else-is_empty w' ↦
        left_place (is_helper c.args.self.now c.args.target) c.loop-column.columns.items c.if-is_empty.columns.items c.loop-column.column c.loop-column.invariant
        (no_helper c.args.self.now c.args.target c.loop-column.column c.from.result c.column.result.now c.is_empty.result c.column.ensures.value c.from.ensures c.is_empty.ensures w'.if-is_empty.false) (cc)
  ]
]
