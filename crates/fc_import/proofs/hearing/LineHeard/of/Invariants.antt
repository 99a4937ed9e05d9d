use Rattle.std.{proofs.Common.{◌≡◌, if◌then◌else◌}, specs.List.{fold}}
use Rattle.fc_import.specs.{Scan.{after_word, said_in, uncommented}, Seen.{said_of, words_left}}
use Rattle.fc_import.proofs.hearing.LineHeard.of.Given as goal

abbrev pub invariant-loop-word : goal.invariant-loop-word
invariant-loop-word g l =
    (if l.is_said then said_of l.moves.items l.heard else fold (after_word g.R.Rule.game (uncommented l.line)) (said_of l.moves.items l.heard) (words_left l.word-iterator)) ≡ said_in g.R.Rule.game l.line
