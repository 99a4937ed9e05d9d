-- Nothing is printed yet, and no board so far has a flaw.
use Rattle.std.proofs.Common.{◌≡◌, drop, List}
use Rattle.fc_collect.specs.{Closed.{first_flawed}, Groups.{Member}, inside.{KeepsBoards}}
use Rattle.fc_collect.proofs.commands.closed.push_finding.Given as goal

abbrev pub invariant-loop-at : goal.invariant-loop-at
invariant-loop-at g l =
    (l.out.items ≡ l.fn.out.items)
    × ((members : List Member) → KeepsBoards l.kept members → first_flawed members members ≡ first_flawed members (drop l.at members))
