use Rattle.fc_collect.proofs.PrintedRecordLemmas.{shown-with_header, shown-without_header}
use Rattle.fc_laws.proofs.collections.lines.shown_records_are_read_again.Goals as goal

pub returns : goal.returns
returns c = record { with_header = shown-with_header; without_header = shown-without_header }
