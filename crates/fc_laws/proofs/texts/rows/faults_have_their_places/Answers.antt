use Rattle.fc_text.proofs.PlaceLemmas.{missing_at_end, others_within}
use Rattle.fc_laws.proofs.texts.rows.faults_have_their_places.Goals as goal

pub returns-clause-missing : goal.returns-clause-missing
returns-clause-missing c = missing_at_end

pub returns-clause-others : goal.returns-clause-others
returns-clause-others c = others_within
