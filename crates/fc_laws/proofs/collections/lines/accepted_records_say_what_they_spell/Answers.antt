use Rattle.fc_collect.proofs.AcceptanceLemmas.{accepted-from_Says, Says-from_accepted}
use Rattle.fc_laws.proofs.collections.lines.accepted_records_say_what_they_spell.Goals as goal

pub returns : goal.returns
returns c variant bytes heading contents = (Says-from_accepted variant bytes heading contents, accepted-from_Says variant bytes heading contents)
