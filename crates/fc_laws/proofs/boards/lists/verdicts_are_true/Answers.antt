use Rattle.fc_board.proofs.MoveListLemmas.{list_allowed-exactly, list_refused-exactly, list_won-exactly}
use Rattle.fc_laws.proofs.boards.lists.verdicts_are_true.Goals as goal

pub returns-clause-won : goal.returns-clause-won
returns-clause-won c = list_won-exactly

pub returns-clause-allowed : goal.returns-clause-allowed
returns-clause-allowed c = list_allowed-exactly

pub returns-clause-refused : goal.returns-clause-refused
returns-clause-refused c = list_refused-exactly
