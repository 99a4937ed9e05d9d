use Rattle.fc_collect.proofs.RecordLemmas.{cut-bytes, cut-number, cut-start}
use Rattle.fc_laws.proofs.collections.records.texts_are_the_collection.Goals as goal

pub returns : goal.returns
returns c = record { bytes = cut-bytes; starts = cut-start; numbers = cut-number }
