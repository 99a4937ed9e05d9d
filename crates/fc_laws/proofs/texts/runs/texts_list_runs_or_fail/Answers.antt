use Rattle.fc_text.proofs.ListedLemmas.{bad_or_too_many, listed_or_bad, listed_or_too_many, one_of_three}
use Rattle.fc_text.{proofs.RunTokenLemmas.{runs-Reads}, specs.{Notation.{IsRunToken}, reader.{run_named}}}
use Rattle.fc_laws.proofs.texts.runs.texts_list_runs_or_fail.Goals as goal

pub returns-clause-one_of_three : goal.returns-clause-one_of_three
returns-clause-one_of_three c = λ game text few. one_of_three (IsRunToken game) (run_named game) (runs-Reads game few) text

pub returns-clause-listed_or_bad : goal.returns-clause-listed_or_bad
returns-clause-listed_or_bad c = λ game. listed_or_bad (IsRunToken game)

pub returns-clause-listed_or_too_many : goal.returns-clause-listed_or_too_many
returns-clause-listed_or_too_many c = λ game. listed_or_too_many (IsRunToken game)

pub returns-clause-bad_or_too_many : goal.returns-clause-bad_or_too_many
returns-clause-bad_or_too_many c = λ game. bad_or_too_many (IsRunToken game)
