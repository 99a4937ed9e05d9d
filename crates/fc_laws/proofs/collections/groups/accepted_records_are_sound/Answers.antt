use Rattle.fc_collect.proofs.MemberLemmas.{member-Can, member-IsWellFormed, one_of_a_number}
use Rattle.fc_collect.specs.Records.{records_of}
use Rattle.fc_laws.proofs.collections.groups.accepted_records_are_sound.Goals as goal

pub returns-clause-boards : goal.returns-clause-boards
returns-clause-boards c variant collection = member-IsWellFormed variant (records_of collection)

pub returns-clause-lists : goal.returns-clause-lists
returns-clause-lists c variant collection member list there listed = (member-Can variant (records_of collection) member list there listed).0

pub returns-clause-numbers : goal.returns-clause-numbers
returns-clause-numbers c = one_of_a_number
