use Rattle.std.proofs.{Common.{◌∙◌, map-id, sym}, lemmas.Iterator.Adapters.{YieldsList-from_vec}}
use Rattle.std.proofs.lemmas.Iterator.Consumers.{YieldsList-end}
use Rattle.fc_record.{proofs.LineLemmas.{all_printed}, specs.Printing.{image_line}}
use Rattle.fc_record.proofs.printing.push_images.Goals as goal

pub returns : goal.returns
returns g c =
    let end = YieldsList-end (YieldsList-from_vec {s = c.into_iter-list-iterator.result} c.args.lists.items (cc) (cc)) c.loop-list.yielded c.loop-list.list-iterator c.loop-list.yielded_by c.next.result c.next.new.self c.in-None.is c.next.ensures.steps in
    record { printed = all_printed (image_line c.args.passage.now) _ _ _ _ (sym (map-id c.loop-list.yielded) ∙ end.0) c.loop-list.invariant }
