use Rattle.fc_text.proofs.PrintLemmas.{print-Listed, print-TooManyAt}
use Rattle.fc_laws.proofs.texts.notation.prints_list_their_moves.Goals as goal

pub returns-clause-listed : goal.returns-clause-listed
returns-clause-listed c = print-Listed

pub returns-clause-too_many : goal.returns-clause-too_many
returns-clause-too_many c = print-TooManyAt
