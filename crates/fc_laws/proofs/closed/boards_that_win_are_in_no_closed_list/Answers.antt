use Rattle.std.proofs.{Common.{[], refl}, lemmas.List.Elements.{All-contains}}
use Rattle.{fc_board.specs.{Boards.{IsWellFormed}, Moves.{OneCard}}, fc_closed.proofs.ClosedLemmas.{unsolvable}}
use Rattle.fc_laws.proofs.closed.boards_that_win_are_in_no_closed_list.Goals as goal

pub returns-clause-won : goal.returns-clause-won
returns-clause-won g c = λ board won none. none (OneCard []) (board, refl, won)

pub returns-clause-listed : goal.returns-clause-listed
returns-clause-listed g c = λ boards board moves well inside wins closed.
    unsolvable g.met.R.Rule.rule_laws boards closed board (All-contains (IsWellFormed g.R.Rule.game) boards board well inside) inside moves wins
