use Rattle.fc_record.{proofs.LineLemmas.{shown}, specs.Grammar.{contents_seen, heading_seen}}
use Rattle.fc_record.proofs.printing.ShowLinesPrintsRecord.print.Goals as goal

pub returns : goal.returns
returns g c =
    let lists = rw c.as_slice.ensures.value at c.push_lists.ensures.printed in
    record { printed = shown c.push_lists.result c.args.number (heading_seen g.R.Rule.VARIANT c.args.heading) (contents_seen c.args.contents) _ _ _ _ (rw c.VARIANT.ensures at c.in_ok-push_heading.ensures.printed) c.in_ok-push_board.ensures.printed lists }
