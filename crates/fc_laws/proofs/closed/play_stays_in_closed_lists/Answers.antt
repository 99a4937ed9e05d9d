use Rattle.{fc_board.specs.Boards.{IsWellFormed}, std.proofs.lemmas.List.Elements.{All-contains}}
use Rattle.fc_closed.proofs.ClosedLemmas.{plays-among, plays-not_won}
use Rattle.fc_laws.proofs.closed.play_stays_in_closed_lists.Goals as goal

pub returns-clause-stays : goal.returns-clause-stays
returns-clause-stays g c = λ boards board after moves well closed inside.
    plays-among g.met.R.Rule.rule_laws boards closed board after moves (All-contains (IsWellFormed g.R.Rule.game) boards board well inside) inside

pub returns-clause-not_won : goal.returns-clause-not_won
returns-clause-not_won g c = λ boards board after moves well closed inside.
    plays-not_won g.met.R.Rule.rule_laws boards closed board after moves (All-contains (IsWellFormed g.R.Rule.game) boards board well inside) inside
