use Rattle.fc_text.proofs.PrintLemmas.{length-print}
use Rattle.fc_laws.proofs.texts.notation.sizes_of_prints.Goals as goal

pub returns-clause-some : goal.returns-clause-some
returns-clause-some c = λ moves some. length-print moves
