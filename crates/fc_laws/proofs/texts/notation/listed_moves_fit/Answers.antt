use Rattle.fc_text.proofs.ListedLemmas.{Listed-Fit}
use Rattle.fc_laws.proofs.texts.notation.listed_moves_fit.Goals as goal

pub returns : goal.returns
returns c = Listed-Fit
