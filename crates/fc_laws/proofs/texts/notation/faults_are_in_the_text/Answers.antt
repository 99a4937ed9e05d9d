use Rattle.fc_text.{proofs.ListedLemmas.{bad_token_in_text, word_too_many_in_text}, specs.Notation.{IsToken}}
use Rattle.fc_laws.proofs.texts.notation.faults_are_in_the_text.Goals as goal

pub returns-clause-bad_token : goal.returns-clause-bad_token
returns-clause-bad_token c = λ game. bad_token_in_text (IsToken game)

pub returns-clause-too_many : goal.returns-clause-too_many
returns-clause-too_many c = λ game. word_too_many_in_text (IsToken game)
