use Rattle.fc_text.proofs.{ListedLemmas.{one_bad_token, one_listing, one_word_too_many}, RunTokenLemmas.{one_run}}
use Rattle.fc_text.specs.Notation.{IsRunToken}
use Rattle.fc_laws.proofs.texts.runs.texts_of_runs_have_one_reading.Goals as goal

pub returns-clause-one_list : goal.returns-clause-one_list
returns-clause-one_list c = λ game text moves other few. one_listing (IsRunToken game) (one_run game few) text moves other

pub returns-clause-one_bad_token : goal.returns-clause-one_bad_token
returns-clause-one_bad_token c = λ game. one_bad_token (IsRunToken game)

pub returns-clause-one_word_too_many : goal.returns-clause-one_word_too_many
returns-clause-one_word_too_many c = λ game. one_word_too_many (IsRunToken game)
