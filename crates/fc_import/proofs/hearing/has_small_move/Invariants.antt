use Rattle.std.{proofs.Common.{◌≡◌}, specs.List.{list_any}}
use Rattle.fc_import.specs.{Scan.{is_small_move, words_of}, Seen.{words_left}}
use Rattle.fc_import.proofs.hearing.has_small_move.Given as goal

abbrev pub invariant-loop-word : goal.invariant-loop-word
invariant-loop-word g l =
    list_any (λ word. is_small_move g.R.Rule.game word.0.bytes) (words_left l.word-iterator)
    ≡ list_any (λ word. is_small_move g.R.Rule.game word.0.bytes) (words_of l.line)
