use Rattle.fc_collect.proofs.SameLemmas.{passage-carries, passage-none}
use Rattle.fc_laws.proofs.collections.same.passages_lead_from_the_first.Goals as goal

pub returns-clause-leads : goal.returns-clause-leads
returns-clause-leads c = λ first member passage well well'. passage-carries first member well well' passage

pub returns-clause-apart : goal.returns-clause-apart
returns-clause-apart c = passage-none
