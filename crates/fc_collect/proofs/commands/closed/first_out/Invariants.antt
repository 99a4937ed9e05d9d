-- No move so far leads out.
use Rattle.std.{proofs.Common.{◌≡◌, drop, List}, specs.List.{find}}
use Rattle.fc_bytes.specs.{legal_moves}
use Rattle.fc_collect.specs.{Closed.{leads_out}, Groups.{Member}, inside.{AreKeys, IsOn}}
use Rattle.fc_collect.proofs.commands.closed.first_out.Given as goal

abbrev pub invariant-loop-at : goal.invariant-loop-at
invariant-loop-at g l =
    (all : List Member) (member : Member) → AreKeys l.keys.keys all → IsOn g.R.Rule.VARIANT l.board member
    → find (leads_out all member) (legal_moves g.R.Rule.game l.board) ≡ find (leads_out all member) (drop l.at (legal_moves g.R.Rule.game l.board))
