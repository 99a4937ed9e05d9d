use Rattle.fc_collect.proofs.TallyLemmas.{records-counted}
use Rattle.fc_laws.proofs.collections.figures.each_record_is_counted_once.Goals as goal

pub returns : goal.returns
returns c variant records numbers are =
    rw (← are) (records-counted variant records)
