use Rattle.fc_text.proofs.PrintLemmas.{length-print_runs}
use Rattle.fc_laws.proofs.texts.runs.sizes_of_printed_runs.Goals as goal

pub returns-clause-some : goal.returns-clause-some
returns-clause-some c = length-print_runs
