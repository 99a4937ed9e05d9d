use Rattle.std.proofs.Common.{◌≡◌, []}
use Rattle.fc_import.specs.{Scan.{has_cut_move, words_of}, Seen.{words_left}}
use Rattle.fc_import.proofs.hearing.has_cut_move.Given as goal

abbrev pub invariant-loop-word : goal.invariant-loop-word
invariant-loop-word g l =
    has_cut_move g.R.Rule.game l.before (words_left l.word-iterator) ≡ has_cut_move g.R.Rule.game [] (words_of l.line)
