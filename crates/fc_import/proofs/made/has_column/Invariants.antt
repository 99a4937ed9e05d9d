use Rattle.std.{proofs.Common.{◌≡◌}, specs.List.{list_any}}
use Rattle.{fc_import.specs.Labels.{says_column}, fc_text.specs.{Left.{lines_left}, Lines.{lines_from}}}
use Rattle.fc_import.proofs.made.has_column.Given as goal

-- the lines looked at so far say nothing
abbrev pub invariant-loop-line : goal.invariant-loop-line
invariant-loop-line l =
    list_any (λ line. says_column line.bytes) (lines_left l.line-iterator) ≡ list_any (λ line. says_column line.bytes) (lines_from 0 l.piece)
