use Rattle.std.{proofs.Common.{◌≡◌}, specs.List.{list_all}}
use Rattle.{fc_import.specs.Strips.{has_no_groups}, fc_text.specs.{Left.{lines_left}, Lines.{lines_from}}}
use Rattle.fc_import.proofs.strips.have_no_groups.Given as goal

abbrev pub invariant-loop-line : goal.invariant-loop-line
invariant-loop-line l =
    list_all (λ line. has_no_groups line.bytes) (lines_left l.line-iterator)
    ≡ list_all (λ line. has_no_groups line.bytes) (lines_from 0 l.lines)
