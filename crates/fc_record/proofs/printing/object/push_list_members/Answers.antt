use Rattle.fc_record.proofs.ObjectLemmas.{five-pushed}
use Rattle.fc_record.proofs.printing.object.push_list_members.Goals as goal

pub returns : goal.returns
returns g c = record {
  printed = five-pushed c.args.out.now.items _ _ _ _ _ _ _ _ _ _ c.in_ok-extend_from_slice.ensures.items c.in_ok-push_number.ensures.printed c.in_ok-extend_from_slice-2.ensures.items
      c.in_ok-push_win_or_null.ensures.printed c.in_ok-extend_from_slice-3.ensures.items;
}
