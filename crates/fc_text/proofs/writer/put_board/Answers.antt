use Rattle.std.proofs.Common.{◌++◌, ◌∙◌, ap, arith, length, take}
use Rattle.fc_text.proofs.WriterLemmas.{all_printed, AreAwaiting-next, AreAwaiting-none, room_after}
use Rattle.fc_text.specs.Printed.{cells_line, foundations_line}
use Rattle.fc_text.proofs.writer.put_board.Goals as goal

pub put_column-end-requires-clause-room : goal.put_column-end-requires-clause-room
put_column-end-requires-clause-room g c =
    room_after c.args.view.now c.loop-index.text c.loop-index.end c.loop-index.index c.loop-index.invariant c.column.ensures.printable c.loop-index-test.true
    c.column.result c.column.ensures.value

pub loop-index-preserved : goal.loop-index-preserved
loop-index-preserved g c =
    AreAwaiting-next c.args.view.now c.loop-index.text c.put_column-end.new.text c.loop-index.end c.loop-index.index c.put_column-end.result c.column.result
    c.column.ensures.printable c.loop-index-test.true c.column.ensures.value c.put_column-end.ensures.text c.put_column-end.ensures.end
    c.put_column-end.ensures.size c.loop-index.invariant

pub loop-index-init : goal.loop-index-init
loop-index-init g c =
    let long = ap length c.printed_heights.ensures in
    AreAwaiting-none _ _ _ c.put-end.result c.put_cells-end.result (c.put-end.ensures.text ∙ c.printed_heights.ensures ∙ ap foundations_line c.heights.ensures.value)
    (c.put_cells-end.ensures.text ∙ ap (λ cells. take c.put-end.result c.put-end.new.text ++ cells_line cells) c.cells.ensures.value)
    (omega (arith, long, c.put-end.ensures.end, c.put_cells-end.ensures.end)) c.put_cells-end.ensures.size

pub put_cells-end-requires-clause-room : goal.put_cells-end-requires-clause-room
put_cells-end-requires-clause-room g c = omega (arith, ap length c.printed_heights.ensures, c.put-end.ensures.end)

pub returns-clause-text : goal.returns-clause-text
returns-clause-text g c = all_printed _ _ _ c.loop-index.invariant.awaits (omega (arith, c.heights.ensures.printable.eight_columns, c.loop-index-test.false))
