use Rattle.fc_text.proofs.RunTokenLemmas.{one_run, runs-Reads}
use Rattle.fc_laws.proofs.texts.runs.words_name_runs.Goals as goal

pub returns-clause-named : goal.returns-clause-named
returns-clause-named c = λ game word move few. runs-Reads game few word move

pub returns-clause-one_move : goal.returns-clause-one_move
returns-clause-one_move c = λ game word move other few. one_run game few word move other
