use Rattle.fc_text.proofs.PrintLemmas.{print-injective}
use Rattle.fc_laws.proofs.texts.notation.prints_spell_one_list.Goals as goal

pub returns : goal.returns
returns c = print-injective
