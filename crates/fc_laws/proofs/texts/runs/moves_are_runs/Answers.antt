use Rattle.fc_text.proofs.RunTokenLemmas.{listed-as_runs, print-as_runs}
use Rattle.fc_laws.proofs.texts.runs.moves_are_runs.Goals as goal

pub returns-clause-listed : goal.returns-clause-listed
returns-clause-listed c = listed-as_runs

pub returns-clause-printed : goal.returns-clause-printed
returns-clause-printed c = print-as_runs
