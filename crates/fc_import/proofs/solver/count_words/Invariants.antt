use Rattle.std.proofs.Common.{◌+◌, ◌≡◌, ◌≤◌, length, map, min}
use Rattle.{fc_import.specs.{Scan.{parts_words}, Seen.{words_left}}, fc_text.specs.Lines.{with_end, words_from}}
use Rattle.fc_import.proofs.solver.count_words.Given as goal

abbrev pub invariant-loop-word : goal.invariant-loop-word
invariant-loop-word l = record {
  counts : min (l.count + length (words_left l._word-iterator)) 10 ≡ min (length (map with_end (words_from parts_words 0 l.text))) 10;
  few : l.count ≤ 10;
}
