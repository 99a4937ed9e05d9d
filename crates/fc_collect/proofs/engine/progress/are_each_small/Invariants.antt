-- Each text so far is small.
use Rattle.std.proofs.Common.{◌+◌, ◌-◌, All, length, List}
use Rattle.{fc_collect.{proofs.WalkLemmas.{Walks}, specs.Promises.{IsSmall}}, fc_record.specs.RecordTexts.{RecordText}}
use Rattle.fc_collect.proofs.engine.progress.are_each_small.Given as goal

abbrev pub invariant-loop-len : goal.invariant-loop-len
invariant-loop-len l = (done : List RecordText) × Walks l.fn.progress l.held l.fn.searched l.at l.front l.from done × All (IsSmall l.limits) done

abbrev pub decreases-loop-len : goal.decreases-loop-len
decreases-loop-len l = length l.held - (l.front + l.from)
