use Rattle.fc_laws.proofs.CaseLemmas.{boards_alike, faults_alike}
use Rattle.fc_laws.proofs.texts.rows.both_cases_are_read.Goals as goal

pub returns-clause-faults : goal.returns-clause-faults
returns-clause-faults c = faults_alike

pub returns-clause-boards : goal.returns-clause-boards
returns-clause-boards c = boards_alike
