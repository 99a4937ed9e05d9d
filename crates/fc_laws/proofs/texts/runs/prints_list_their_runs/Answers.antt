use Rattle.fc_text.proofs.PrintLemmas.{print_runs-Listed, print_runs-TooManyAt}
use Rattle.fc_laws.proofs.texts.runs.prints_list_their_runs.Goals as goal

pub returns-clause-listed : goal.returns-clause-listed
returns-clause-listed c = print_runs-Listed

pub returns-clause-too_many : goal.returns-clause-too_many
returns-clause-too_many c = print_runs-TooManyAt
