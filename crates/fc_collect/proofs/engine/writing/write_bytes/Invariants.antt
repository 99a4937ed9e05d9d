-- The text up to `at` was written, and no call failed.
use Rattle.std.{proofs.Common.{◌-◌, ◌≤◌, length, take}, specs.Io.KnownBytes.{Appends}}
use Rattle.fc_collect.specs.Streams.{GrowsBy, inner_of}
use Rattle.fc_collect.proofs.engine.writing.write_bytes.Given as goal

abbrev pub invariant-loop-at : goal.invariant-loop-at
invariant-loop-at g l = record {
  within : l.at ≤ length l.text;
  written : Appends (g.Wr.Write.contents (inner_of l.fn.output)) (g.Wr.Write.contents (inner_of l.output)) (take l.at l.text);
  counts : GrowsBy l.fn.output l.output (record { failures = 0; fills = 0; ends = 0; flushes = 0 });
}

abbrev pub decreases-loop-at : goal.decreases-loop-at
decreases-loop-at g l = length l.text - l.at
