use Rattle.std.{proofs.Common.{◌++◌, ◌≡◌}, specs.List.{flat_map}}
use Rattle.{fc_import.specs.{Scan.{named_cards}, Words.{ended, named_lines}}, fc_text.specs.Left.{lines_left}}
use Rattle.fc_import.proofs.cards.named_lines.Given as goal

abbrev pub invariant-loop-line : goal.invariant-loop-line
invariant-loop-line l =
    l.cards.items ++ flat_map (λ line. ended (named_cards line.bytes)) (lines_left l.line-iterator) ≡ named_lines l.text
