use Rattle.std.proofs.Common.{◌≡◌, drop, length, map, replicate, take}
use Rattle.fc_bytes.specs.{cell_byte}
use Rattle.fc_bytes.proofs.carried.bytes_of.Given as goal

abbrev pub invariant-loop-place : goal.invariant-loop-place
invariant-loop-place l = record {
  long : length l.bytes ≡ 8;
  written : take l.place l.bytes ≡ map cell_byte (take l.place l.cells);
  left : drop l.place l.bytes ≡ drop l.place (replicate 8 0);
}
