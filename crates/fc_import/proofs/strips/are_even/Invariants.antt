use Rattle.std.proofs.Common.{◌≡◌}
use Rattle.fc_import.specs.{Scan.{uncommented, words_of}, Seen.{words_left}, Strips.{are_even, are_parted_by}}
use Rattle.fc_import.proofs.strips.are_even.Given as goal

-- the words that are left are parted by the mark if all are
abbrev pub invariant-loop-word : goal.invariant-loop-word
invariant-loop-word l =
    are_parted_by l.text l.mark l.start (words_left l.word-iterator) ≡ are_even (uncommented l.line) (words_of l.line)
