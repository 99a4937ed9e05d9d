use Rattle.std.{proofs.Common.{◌+◌, ◌==◌, ◌≡◌, ◌≤◌, length}, specs.List.{count_by}}
use Rattle.fc_text.specs.Bytes.{line_feed}
use Rattle.fc_import.proofs.walk.line_feeds.Given as goal

abbrev pub invariant-loop-left : goal.invariant-loop-left
invariant-loop-left l = record {
  so_far : l.count + count_by (λ byte. byte == line_feed) l.left ≡ count_by (λ byte. byte == line_feed) l.fn.text;
  few : l.count + length l.left ≤ length l.fn.text;
}

abbrev pub decreases-loop-left : goal.decreases-loop-left
decreases-loop-left l = length l.left
