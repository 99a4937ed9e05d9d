use Rattle.std.{proofs.Common.{◌==◌, ◌≡◌, ◌≤◌, take}, specs.List.{count_by}}
use Rattle.fc_text.specs.Bytes.{line_feed}
use Rattle.fc_import.proofs.walk.line_feeds_of_block.Given as goal

abbrev pub invariant-loop-byte : goal.invariant-loop-byte
invariant-loop-byte l = record {
  so_far : l.count ≡ count_by (λ byte. byte == line_feed) (take l.byte-index l.block);
  few : l.count ≤ l.byte-index;
}
