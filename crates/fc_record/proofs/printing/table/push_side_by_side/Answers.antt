use Rattle.fc_record.proofs.TextLineLemmas.{apart-last, apart-next}
use Rattle.fc_record.proofs.printing.table.push_side_by_side.Goals as goal

pub loop-end-preserved : goal.loop-end-preserved
loop-end-preserved c =
    apart-next c.loop-end.left.now c.loop-end.out.items _ _ _ c.in-Some.end c.in-Some.ensures c.loop-end.invariant
    (c.in_ok-extend_from_slice.ensures).items (c.in_ok-extend_from_slice-2.ensures).items

pub returns : goal.returns
returns c = record {
  printed = apart-last c.extend_from_slice-2.result c.loop-end.left.now c.loop-end.out.items _ _ c.in_default.ensures
      c.loop-end.invariant (c.extend_from_slice-2.ensures).items;
}
