use Rattle.std.proofs.Common.{inl, inr}
use Rattle.fc_import.proofs.laws.lines_stand_together.Goals as goal

pub returns-clause-read : goal.returns-clause-read
returns-clause-read c game piece board (inl spells) unread = absurd (unread spells)
returns-clause-read c game piece board (inr lines) unread = lines.together
