use Rattle.std.{proofs.Common.{◌++◌, ◌≡◌, take}, specs.List.{flat_map}}
use Rattle.fc_record.specs.Printing.{list_line}
use Rattle.fc_record.proofs.printing.lists.push_lists.Given as goal

abbrev pub invariant-loop-list : goal.invariant-loop-list
invariant-loop-list l = l.out.items ≡ l.fn.out.items ++ flat_map list_line (take l.list-index l.lists)
