use Rattle.fc_laws.proofs.CanonicalAgainLemmas.{settled-bytes}
use Rattle.fc_laws.proofs.collections.records.canonical_collections_stay.Goals as goal

pub returns : goal.returns
returns c = settled-bytes
