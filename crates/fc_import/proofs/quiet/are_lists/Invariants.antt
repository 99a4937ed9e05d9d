use Rattle.std.proofs.Common.{◌↔◌, ◌≡◌, ◌⊎◌, All, length, true}
use Rattle.{fc_import.specs.{Import.{AreLists}, Scan.{lists_moves, words_of}}, fc_text.specs.Left.{lines_left}}
use Rattle.fc_import.proofs.quiet.are_lists.Given as goal

-- all lines are so exactly if those that are left are
abbrev pub invariant-loop-line : goal.invariant-loop-line
invariant-loop-line g l = All (λ line. (lists_moves g.R.Rule.game l.in_words line.bytes ≡ true) ⊎ (length (words_of line.bytes) ≡ 0)) (lines_left l.line-iterator) ↔ AreLists g.R.Rule.game l.lines
