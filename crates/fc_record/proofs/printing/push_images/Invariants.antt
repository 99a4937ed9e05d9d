use Rattle.std.{proofs.Common.{◌++◌, ◌≡◌}, specs.List.{flat_map}}
use Rattle.fc_record.specs.Printing.{image_line}
use Rattle.fc_record.proofs.printing.push_images.Given as goal

abbrev pub invariant-loop-list : goal.invariant-loop-list
invariant-loop-list g l = l.out.items ≡ l.fn.out.items ++ flat_map (image_line l.passage) l.yielded
