use Rattle.fc_text.proofs.ListedLemmas.{Listed-RunFit}
use Rattle.fc_laws.proofs.texts.runs.listed_runs_fit.Goals as goal

pub returns : goal.returns
returns c = Listed-RunFit
