use Rattle.std.{proofs.Common.{◌++◌, ◌≡◌}, specs.List.{flat_map}}
use Rattle.{fc_import.specs.Import.{moves_of, moves_of_line}, fc_text.specs.Left.{lines_left}}
use Rattle.fc_import.proofs.quiet.push_moves.Given as goal

abbrev pub invariant-loop-line : goal.invariant-loop-line
invariant-loop-line g l =
    l.moves.items ++ flat_map (λ line. moves_of_line g.R.Rule.game l.in_words line.bytes) (lines_left l.line-iterator)
    ≡ l.fn.moves.items ++ moves_of g.R.Rule.game l.lines
