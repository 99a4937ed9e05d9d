use Rattle.fc_text.proofs.MovesReadLemmas.{listed-exactly, read_bad_token-exactly, read_too_many-exactly}
use Rattle.fc_text.{proofs.TokenLemmas.{moves-Reads}, specs.{Notation.{IsToken}, reader.{move_named}}}
use Rattle.fc_laws.proofs.texts.lists.lists_are_read.Goals as goal

pub returns-clause-listed : goal.returns-clause-listed
returns-clause-listed c = listed-exactly

pub returns-clause-bad_token : goal.returns-clause-bad_token
returns-clause-bad_token c = λ game text place few. read_bad_token-exactly (IsToken game) (move_named game) (moves-Reads game few) text place

pub returns-clause-too_many : goal.returns-clause-too_many
returns-clause-too_many c = λ game text place few. read_too_many-exactly (IsToken game) (move_named game) (moves-Reads game few) text place
