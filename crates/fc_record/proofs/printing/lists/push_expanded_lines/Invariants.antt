use Rattle.std.proofs.Common.{◌++◌, ◌+◌, ◌≡◌, drop}
use Rattle.fc_record.specs.Printing.{expanded_line, numbered_lines}
use Rattle.fc_record.proofs.printing.lists.push_expanded_lines.Given as goal

abbrev pub invariant-loop-index : goal.invariant-loop-index
invariant-loop-index g l =
    l.out.items ++ numbered_lines (expanded_line g.R.Rule.game l.board) (l.index + 1) (drop l.index l.lists)
    ≡ l.fn.out.items ++ numbered_lines (expanded_line g.R.Rule.game l.board) 1 l.lists
