use Rattle.std.proofs.Common.{◌≡◌, map}
use Rattle.fc_text.specs.Lines.{with_end, words_from}
use Rattle.fc_import.specs.{Scan.{parts_words, word_at}, Seen.{words_left}}
use Rattle.fc_import.proofs.solver.word_at.Given as goal

abbrev pub invariant-loop-word : goal.invariant-loop-word
invariant-loop-word l = word_at (words_left l.word-iterator) l.left ≡ word_at (map with_end (words_from parts_words 0 l.text)) l.place
