use Rattle.std.proofs.Common.{◌≡◌, drop, length, map, take}
use Rattle.fc_bytes.specs.{class_hash.{child_hash}, legal_moves}
use Rattle.fc_bytes.proofs.calls.child_hashes.put_hashes.Given as goal

abbrev pub invariant-loop-place : goal.invariant-loop-place
invariant-loop-place g l = record {
  long : length l.children ≡ length l.fn.children;
  written : take l.place l.children
      ≡ map (child_hash g.R.Rule.renamings l.fn.board l.fn.sums) (take l.place (legal_moves g.R.Rule.game l.fn.board));
  left : drop l.place l.children ≡ drop l.place l.fn.children;
}
