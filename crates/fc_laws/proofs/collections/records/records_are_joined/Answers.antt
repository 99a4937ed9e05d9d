use Rattle.fc_collect.proofs.JoiningLemmas.{records-joined, texts-joined}
use Rattle.fc_laws.proofs.collections.records.records_are_joined.Goals as goal

pub returns : goal.returns
returns c = record { texts = texts-joined; records = records-joined }
