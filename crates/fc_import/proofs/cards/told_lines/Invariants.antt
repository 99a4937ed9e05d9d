use Rattle.std.{proofs.Common.{◌++◌, ◌≡◌}, specs.List.{flat_map, list_all}}
use Rattle.fc_text.specs.{Left.{lines_left}, Lines.{lines_from}}
use Rattle.fc_import.specs.{Scan.{named_cards}, Strips.{are_below}, Words.{ended, named_lines}}
use Rattle.fc_import.proofs.cards.told_lines.Given as goal

abbrev pub invariant-loop-line : goal.invariant-loop-line
invariant-loop-line g l =
    (l.cards.items ++ flat_map (λ line. ended (named_cards line.bytes)) (lines_left l.line-iterator) ≡ named_lines l.lines)
    × (list_all (λ line. are_below l.strips l.board line.bytes) (lines_left l.line-iterator)
    ≡ list_all (λ line. are_below l.strips l.board line.bytes) (lines_from 0 l.lines))
