use Rattle.fc_record.proofs.ObjectLemmas.{six-pushed}
use Rattle.fc_record.proofs.printing.object.push_passage_members.Goals as goal

pub returns : goal.returns
returns g c = record {
  printed = six-pushed c.args.out.now.items _ _ _ _ _ _ _ _ _ _ c.in_ok-extend_from_slice.ensures.items (rw c.renaming.ensures.value at c.in_ok-push_renaming.ensures.printed) c.in_ok-extend_from_slice-2.ensures.items (rw c.columns.ensures.value at c.in_ok-push_places.ensures.printed)
      c.in_ok-extend_from_slice-3.ensures.items _ _ (rw c.cells.ensures.value at c.in_ok-push_places-2.ensures.printed);
}
