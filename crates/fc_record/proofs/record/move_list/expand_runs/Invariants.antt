-- The moves so far and those for the moves that are left are those of the list, and the moves before these are played.
use Rattle.std.proofs.Common.{◌++◌, ◌≡◌, drop, take}
use Rattle.fc_board.{proofs.ListLemmas.{HasPlayed}, specs.{Play.{expansions}, Steps.{RunStep}}}
use Rattle.fc_record.proofs.record.move_list.expand_runs.Given as goal

abbrev pub invariant-loop-index : goal.invariant-loop-index
invariant-loop-index g l = record {
  expanded : l.moves.items ++ expansions g.R.Rule.game l.after (drop l.index l.runs) ≡ expansions g.R.Rule.game l.board l.runs;
  played : HasPlayed (RunStep g.R.Rule.game) g.R.Rule.game l.board (take l.index l.runs) l.after;
}
