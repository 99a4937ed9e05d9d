use Rattle.std.{proofs.Common.{◌++◌, ◌+◌, ◌≡◌, drop}, specs.Option.{option_map}}
use Rattle.fc_record.specs.Printing.{name_of, numbered_lines, verdict_line}
use Rattle.fc_record.proofs.printing.verdict.push_verdict_lines.Given as goal

abbrev pub invariant-loop-index : goal.invariant-loop-index
invariant-loop-index g l =
    let called = name_of l.number (option_map (λ name. name.now) l.name) in
    l.out.items ++ numbered_lines (verdict_line called g.R.Rule.game l.board) (l.index + 1) (drop l.index l.lists)
    ≡ l.fn.out.items ++ numbered_lines (verdict_line called g.R.Rule.game l.board) 1 l.lists
