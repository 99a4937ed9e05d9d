use Rattle.fc_text.{proofs.ListedLemmas.{one_bad_token, one_list, one_word_too_many}, specs.Notation.{IsToken}}
use Rattle.fc_laws.proofs.texts.notation.texts_have_one_reading.Goals as goal

pub returns-clause-one_list : goal.returns-clause-one_list
returns-clause-one_list c = one_list

pub returns-clause-one_bad_token : goal.returns-clause-one_bad_token
returns-clause-one_bad_token c = λ game. one_bad_token (IsToken game)

pub returns-clause-one_word_too_many : goal.returns-clause-one_word_too_many
returns-clause-one_word_too_many c = λ game. one_word_too_many (IsToken game)
