use Rattle.std.proofs.Common.{◌++◌, ◌-◌, ◌≡◌, length, replicate, take}
use Rattle.fc_text.proofs.board.reader.ends.Given as goal

-- the bounds up to this one are those of the columns that were begun, and then the end of the last one
abbrev pub invariant-loop-at : goal.invariant-loop-at
invariant-loop-at l = record {
  nine : length l.all ≡ 9;
  filled : take l.at l.all ≡ take l.fn.columns l.fn.bounds ++ replicate (l.at - l.fn.columns) l.fn.count;
}
