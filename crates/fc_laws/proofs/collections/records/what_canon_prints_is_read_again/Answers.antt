use Rattle.fc_laws.proofs.CanonicalAgainLemmas.{canonical-records}
use Rattle.fc_laws.proofs.collections.records.what_canon_prints_is_read_again.Goals as goal

pub returns : goal.returns
returns c = canonical-records
