use Rattle.std.proofs.{Common.{◌-◌, arith, drop, length}, lemmas.List.{length-drop, length-take}}
use Rattle.fc_board.proofs.ExpansionLemmas.{in_parts, part_sizes}
use Rattle.fc_board.proofs.expansion.+put_expansion.Goals as goal

pub overflow_sub-low : goal.overflow_sub-low
overflow_sub-low t c =
    let parts = in_parts c.args.cells.now c.args.spare_columns.now c.args.count c.args.from c.args.to c.half-high.result c.in-len1-up.len_at_least
    c.if-count-reach.true c.half-high.ensures in
    let below = parts.below in
    omega arith

pub put_expansion-requires : goal.put_expansion-requires
put_expansion-requires t c =
    let parts = in_parts c.args.cells.now c.args.spare_columns.now c.args.count c.args.from c.args.to c.half-high.result c.in-len1-up.len_at_least
    c.if-count-reach.true c.half-high.ensures in
    let below = parts.below in
    let some = parts.some in
    let sizes = part_sizes c.args.cells.now c.args.spare_columns.now c.args.count c.args.from c.args.to c.half-high.result parts in
    let room = c.requires.room in (
      omega (arith, length-take (length c.args.spare_columns.now - 1) (drop 1 c.args.spare_columns.now), length-drop 1 c.args.spare_columns.now),
      ((omega arith, omega arith), (omega arith, omega arith)),
    )

pub put_expansion-requires-in-len1-up : goal.put_expansion-requires-in-len1-up
put_expansion-requires-in-len1-up t c =
    let parts = in_parts c.args.cells.now c.args.spare_columns.now c.args.count c.args.from c.args.to c.half-high.result c.in-len1-up.len_at_least
    c.if-count-reach.true c.half-high.ensures in
    let below = parts.below in
    let some = parts.some in
    let sizes = part_sizes c.args.cells.now c.args.spare_columns.now c.args.count c.args.from c.args.to c.half-high.result parts in
    let room = c.requires.room in
    let one = c.put_expansion.ensures.len in (
      omega (arith, length-take (length c.args.spare_columns.now - 1) (drop 1 c.args.spare_columns.now), length-drop 1 c.args.spare_columns.now),
      ((omega arith, omega arith), (omega arith, omega arith)),
    )

pub put_expansion-requires-in-len1-up-2 : goal.put_expansion-requires-in-len1-up-2
put_expansion-requires-in-len1-up-2 t c =
    let parts = in_parts c.args.cells.now c.args.spare_columns.now c.args.count c.args.from c.args.to c.half-high.result c.in-len1-up.len_at_least
    c.if-count-reach.true c.half-high.ensures in
    let below = parts.below in
    let some = parts.some in
    let sizes = part_sizes c.args.cells.now c.args.spare_columns.now c.args.count c.args.from c.args.to c.half-high.result parts in
    let room = c.requires.room in
    let one = c.put_expansion.ensures.len in
    let two = c.put_expansion-in-len1-up.ensures.len in (
      omega (arith, length-take (length c.args.spare_columns.now - 1) (drop 1 c.args.spare_columns.now), length-drop 1 c.args.spare_columns.now),
      ((omega arith, omega arith), (omega arith, omega arith)),
    )
