use Rattle.std.{proofs.Common.{◌≤◌, length}, specs.Io.KnownBytes.{Consumes}}
use Rattle.fc_collect.specs.{Limits.{most_bytes}, Streams.{GrowsBy, inner_of}}
use Rattle.fc_import.proofs.run.read_to_end.Given as goal

abbrev pub invariant-loop-turn : goal.invariant-loop-turn
invariant-loop-turn g l = record {
  consumed : Consumes (g.Rd.Read.remaining (inner_of l.fn.input)) (g.Rd.Read.remaining (inner_of l.input)) l.bytes.items;
  few : length l.bytes.items ≤ most_bytes;
  counted : GrowsBy l.fn.input l.input (record { failures = 0; fills = l._turn; ends = 0; flushes = 0 });
}
