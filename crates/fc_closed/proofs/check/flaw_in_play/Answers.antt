use Rattle.std.proofs.Common.{refl}
use Rattle.fc_closed.proofs.check.flaw_in_play.Goals as goal

pub returns-in-None-clause-shut : goal.returns-in-None-clause-shut
returns-in-None-clause-shut g c = λ _. (
  c.in-Some.board,
  c.in-Some.ensures.board,
  λ won. let never = c.if-is_won.ensures.won.1 won in cc,
  c.in-None.ensures.stays refl,
)
