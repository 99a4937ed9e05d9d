use Rattle.std.{proofs.Common.{◌≡◌, length, take}, specs.List.{flat_map}}
use Rattle.fc_bytes.specs.inside.{pieces}
use Rattle.fc_bytes.proofs.laid.put_short.Given as goal

abbrev pub invariant-loop-place : goal.invariant-loop-place
invariant-loop-place l = record {
  long : length l.all ≡ 80;
  at_end : l.end ≡ length (flat_map (λ piece. piece) (take l.place (pieces l.from l.starts l.counts)));
  so_far : take l.end l.all ≡ flat_map (λ piece. piece) (take l.place (pieces l.from l.starts l.counts));
}
