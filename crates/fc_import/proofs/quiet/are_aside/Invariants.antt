use Rattle.{fc_text.specs.{Left.{lines_left}, Lines.{lines_from}}, std.proofs.Common.{All}}
use Rattle.fc_import.specs.inside.{IsAside}
use Rattle.fc_import.proofs.quiet.are_aside.Given as goal

-- all lines are so, if those that are left are
abbrev pub invariant-loop-line : goal.invariant-loop-line
invariant-loop-line g l = All (λ line. IsAside l.aside g.R.Rule.game line.bytes) (lines_left l.line-iterator) → All (λ line. IsAside l.aside g.R.Rule.game line.bytes) (lines_from 0 l.lines)
