use Rattle.std.{proofs.Common.{◌≡◌, ◌≤◌, take}, specs.List.{count_by}}
use Rattle.fc_collect.proofs.commands.count.count_true.Given as goal

abbrev pub invariant-loop-flag : goal.invariant-loop-flag
invariant-loop-flag l = record {
  so_far : l.count ≡ count_by (λ flag. flag) (take l.flag-index l.flags);
  few : l.count ≤ l.flag-index;
}
