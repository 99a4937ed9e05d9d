use Rattle.fc_text.proofs.MovesReadLemmas.{read_bad_token-exactly, read_too_many-exactly, runs_listed-exactly}
use Rattle.fc_text.{proofs.RunTokenLemmas.{runs-Reads}, specs.{Notation.{IsRunToken}, reader.{run_named}}}
use Rattle.fc_laws.proofs.texts.lists.lists_of_runs_are_read.Goals as goal

pub returns-clause-listed : goal.returns-clause-listed
returns-clause-listed c = runs_listed-exactly

pub returns-clause-bad_token : goal.returns-clause-bad_token
returns-clause-bad_token c = λ game text place few. read_bad_token-exactly (IsRunToken game) (run_named game) (runs-Reads game few) text place

pub returns-clause-too_many : goal.returns-clause-too_many
returns-clause-too_many c = λ game text place few. read_too_many-exactly (IsRunToken game) (run_named game) (runs-Reads game few) text place
