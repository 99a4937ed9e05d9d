use Rattle.std.proofs.Common.{◌-◌, length, take}
use Rattle.fc_import.specs.{Import.{HasNoHeader}, inside.{AreWhole}}
use Rattle.fc_import.proofs.import.lines_len.Given as goal

abbrev pub invariant-loop-len : goal.invariant-loop-len
invariant-loop-len l = record { lines : AreWhole l.text l.len; no_header : HasNoHeader (take l.len l.text) }

abbrev pub decreases-loop-len : goal.decreases-loop-len
decreases-loop-len l = length l.text - l.len
