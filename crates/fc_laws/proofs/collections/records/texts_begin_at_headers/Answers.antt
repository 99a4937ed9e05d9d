use Rattle.fc_collect.{proofs.HeaderLemmas.{cut-HasHeaders, cut-header_starts}, specs.Records.{nothing}}
use Rattle.fc_laws.proofs.collections.records.texts_begin_at_headers.Goals as goal

pub returns : goal.returns
returns c = record {
  starts = cut-header_starts;
  first = λ collection text rest same. (rw same at (cut-HasHeaders nothing collection)).0;
  others = λ collection text rest same. (rw same at (cut-HasHeaders nothing collection)).1;
}
