use Rattle.std.{proofs.Common.{◌≡◌}, specs.List.{list_any}}
use Rattle.fc_import.specs.{Scan.{is_capital_card, words_of}, Seen.{words_left}}
use Rattle.fc_import.proofs.hearing.has_capital_card.Given as goal

abbrev pub invariant-loop-word : goal.invariant-loop-word
invariant-loop-word l =
    list_any (λ word. is_capital_card word.0.bytes) (words_left l.word-iterator)
    ≡ list_any (λ word. is_capital_card word.0.bytes) (words_of l.line)
