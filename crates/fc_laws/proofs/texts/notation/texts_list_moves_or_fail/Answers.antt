use Rattle.fc_text.proofs.ListedLemmas.{bad_or_too_many, listed_or_bad, listed_or_too_many, one_of_three}
use Rattle.fc_text.{proofs.TokenLemmas.{moves-Reads}, specs.{Notation.{IsToken}, reader.{move_named}}}
use Rattle.fc_laws.proofs.texts.notation.texts_list_moves_or_fail.Goals as goal

pub returns-clause-one_of_three : goal.returns-clause-one_of_three
returns-clause-one_of_three c = λ game text few. one_of_three (IsToken game) (move_named game) (moves-Reads game few) text

pub returns-clause-listed_or_bad : goal.returns-clause-listed_or_bad
returns-clause-listed_or_bad c = λ game. listed_or_bad (IsToken game)

pub returns-clause-listed_or_too_many : goal.returns-clause-listed_or_too_many
returns-clause-listed_or_too_many c = λ game. listed_or_too_many (IsToken game)

pub returns-clause-bad_or_too_many : goal.returns-clause-bad_or_too_many
returns-clause-bad_or_too_many c = λ game. bad_or_too_many (IsToken game)
