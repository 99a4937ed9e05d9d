use Rattle.std.proofs.Common.{◌∙◌}
use Rattle.fc_record.proofs.ObjectLemmas.{six-pushed}
use Rattle.fc_record.proofs.printing.object.push_board_members.Goals as goal

pub returns : goal.returns
returns c = record {
  printed = six-pushed c.args.out.now.items _ _ _ _ _ _ _ _ _ _ c.in_ok-extend_from_slice.ensures.items c.in_ok-push_name_string.ensures.printed c.in_ok-extend_from_slice-2.ensures.items (rw (c.as_bytes.ensures.value ∙ c.word.ensures) at c.in_ok-extend_from_slice-3.ensures.items)
      c.in_ok-extend_from_slice-4.ensures.items _ _ c.in_ok-push_side_by_side.ensures.printed;
}
