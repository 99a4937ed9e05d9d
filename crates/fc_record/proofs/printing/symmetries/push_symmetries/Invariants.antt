use Rattle.std.{proofs.Common.{◌++◌, ◌≡◌, take}, specs.{List.{flat_map}, Option.{option_map}}}
use Rattle.fc_record.specs.Printing.{name_of, symmetry_line}
use Rattle.fc_record.proofs.printing.symmetries.push_symmetries.Given as goal

abbrev pub invariant-loop-renaming : goal.invariant-loop-renaming
invariant-loop-renaming l =
    let called = name_of l.number (option_map (λ name. name.now) l.name) in
    l.out.items ≡ l.fn.out.items ++ flat_map (symmetry_line called) (take l.renaming-index l.renamings)
