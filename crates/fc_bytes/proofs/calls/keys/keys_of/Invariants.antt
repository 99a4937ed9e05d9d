use Rattle.std.proofs.Common.{◌≡◌}
use Rattle.fc_bytes.specs.{HaveKeys}
use Rattle.fc_bytes.proofs.calls.keys.keys_of.Given as goal

abbrev pub invariant-loop-at : goal.invariant-loop-at
invariant-loop-at g l = record {
  keys : HaveKeys g.R.Rule.game g.R.Rule.renamings l.fn.boards l.boards l.at;
  place : l.place ≡ l.fn.place;
}
