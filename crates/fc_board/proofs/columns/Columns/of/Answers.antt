use Rattle.std.proofs.Common.{◌++◌, ◌+◌, ◌∙◌, ap, arith, length, map, subst, sym, take}
use Rattle.fc_board.proofs.columns.Columns.of.Goals.{After-loop-i}
use Rattle.fc_board.proofs.ColumnsLemmas.{all_items_laid, all_laid, AreLaid, FirstLaid, one_more_laid, room_after}
use Rattle.fc_board.proofs.columns.Columns.of.Goals as goal

pub lay-count-requires : goal.lay-count-requires
lay-count-requires c =
    let room =
    room_after (λ column. column.items) c.args.columns.now c.loop-i.i c.index-columns-i.result (omega arith) c.index-columns-i.is c.requires in
    let items = ap length (c.as_slice.ensures.value ∙ ap (λ column. column.items) (sym c.index-columns-i.is)) in
    let so_far = c.loop-i.invariant.counted in
    omega arith

pub loop-i-preserved : goal.loop-i-preserved
loop-i-preserved c =
    let items = c.as_slice.ensures.value ∙ ap (λ column. column.items) (sym c.index-columns-i.is) in
    one_more_laid (λ column. column.items) c.args.columns.now c.loop-i.cards c.lay-count.new.cards c.loop-i.ends c.loop-i.i c.loop-i.count c.lay-count.result c.index-columns-i.result
    (omega arith) c.loop-i-test.true c.index-columns-i.is c.requires c.loop-i.invariant (c.lay-count.ensures.end ∙ ap (λ xs. c.loop-i.count + length xs) items)
    c.lay-count.ensures.size (c.lay-count.ensures.laid ∙ ap (λ xs. take c.loop-i.count c.loop-i.cards ++ xs) items)

laid : (c : After-loop-i) → AreLaid (map (λ column. column.items) c.args.columns.now) c.loop-i.cards c.loop-i.ends 8 c.loop-i.count
laid c =
    all_items_laid (λ column. column.items) c.args.columns.now c.loop-i.cards c.loop-i.ends c.loop-i.count c.type_inv.columns
    (subst (λ i. FirstLaid (λ column. column.items) c.args.columns.now c.loop-i.cards c.loop-i.ends i c.loop-i.count) (omega arith) c.loop-i.invariant)

pub returns : goal.returns
returns c =
    c.from_ends.ensures ∙
    all_laid (map (λ column. column.items) c.args.columns.now) c.loop-i.cards c.loop-i.ends c.loop-i.count (laid (goal.at.returns c).After-loop-i)
