use Rattle.{fc_board.specs.Boards.{IsWellFormed}, std.proofs.lemmas.List.Elements.{All-contains}}
use Rattle.fc_closed.proofs.ClosedLemmas.{unsolvable}
use Rattle.fc_laws.proofs.closed.closed_boards_are_unsolvable.Goals as goal

pub returns : goal.returns
returns g c = λ boards board well closed inside.
    unsolvable g.met.R.Rule.rule_laws boards closed board (All-contains (IsWellFormed g.R.Rule.game) boards board well inside) inside
