use Rattle.std.proofs.Common.{◌++◌, ◌+◌, ◌≡◌, length, map, slice_index, take}
use Rattle.fc_record.proofs.printing.passage.put_places.Given as goal

abbrev pub invariant-loop-place : goal.invariant-loop-place
invariant-loop-place l =
    (take (l.start + l.place) l.line ≡ take l.start l.fn.line ++ map (slice_index l.letters) (take l.place l.order))
    × (length l.line ≡ length l.fn.line)
