-- No header is between the first offset and this one.
use Rattle.std.proofs.Common.{◌-◌, ◌≤◌, length}
use Rattle.fc_collect.specs.inside.{PassesNoHeader}
use Rattle.fc_collect.proofs.engine.search.next_header.Given as goal

abbrev pub invariant-loop-at : goal.invariant-loop-at
invariant-loop-at l = record {
  past : l.fn.from ≤ l.at;
  within : l.at ≤ length l.bytes;
  passed : PassesNoHeader l.bytes l.fn.from l.at;
}

abbrev pub decreases-loop-at : goal.decreases-loop-at
decreases-loop-at l = length l.bytes - l.at
