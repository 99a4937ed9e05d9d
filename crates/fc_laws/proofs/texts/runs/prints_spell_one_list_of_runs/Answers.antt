use Rattle.fc_text.proofs.PrintLemmas.{print_runs-injective}
use Rattle.fc_laws.proofs.texts.runs.prints_spell_one_list_of_runs.Goals as goal

pub returns : goal.returns
returns c = print_runs-injective
