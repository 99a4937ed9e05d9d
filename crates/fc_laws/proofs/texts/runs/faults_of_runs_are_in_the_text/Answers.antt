use Rattle.fc_text.{proofs.ListedLemmas.{bad_token_in_text, word_too_many_in_text}, specs.Notation.{IsRunToken}}
use Rattle.fc_laws.proofs.texts.runs.faults_of_runs_are_in_the_text.Goals as goal

pub returns-clause-bad_token : goal.returns-clause-bad_token
returns-clause-bad_token c = λ game. bad_token_in_text (IsRunToken game)

pub returns-clause-too_many : goal.returns-clause-too_many
returns-clause-too_many c = λ game. word_too_many_in_text (IsRunToken game)
