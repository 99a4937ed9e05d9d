use Rattle.std.{proofs.Common.{◌≡◌}, specs.List.{list_all}}
use Rattle.fc_import.specs.{Scan.{is_drawn, is_drawn_word}, Seen.{words_left}}
use Rattle.fc_import.proofs.hearing.is_drawn.Given as goal

abbrev pub invariant-loop-word : goal.invariant-loop-word
invariant-loop-word l = list_all (λ word. is_drawn_word word.0.bytes) (words_left l.word-iterator) ≡ is_drawn l.line
