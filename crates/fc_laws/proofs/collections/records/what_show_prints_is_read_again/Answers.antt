use Rattle.fc_collect.proofs.PrintedRecordLemmas.{shown-bytes, shown-records}
use Rattle.fc_laws.proofs.collections.records.what_show_prints_is_read_again.Goals as goal

pub returns : goal.returns
returns c = record { records = shown-records; bytes = shown-bytes }
