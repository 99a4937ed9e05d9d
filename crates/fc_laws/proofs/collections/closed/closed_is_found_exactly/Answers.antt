use Rattle.fc_collect.specs.Groups.{members_among, summary_of}
use Rattle.fc_laws.proofs.ClosedFindingLemmas.{closed_parts, found_exactly}
use Rattle.fc_laws.proofs.collections.closed.closed_is_found_exactly.Goals as goal

pub returns-clause-exactly : goal.returns-clause-exactly
returns-clause-exactly c variant records = found_exactly variant records

pub returns-clause-counts : goal.returns-clause-counts
returns-clause-counts c variant records count classes found =
    let (none, refused, counted, in_classes) = closed_parts (summary_of variant records) (members_among variant records) count classes found in
    (counted, in_classes)
