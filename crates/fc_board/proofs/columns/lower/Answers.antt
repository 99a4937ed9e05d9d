use Rattle.{fc_board.proofs.ShiftLemmas.{lowered_lanes}, std.proofs.Common.{rules}}
use Rattle.fc_board.proofs.columns.lower.Goals as goal

pub returns : goal.returns
returns c =
    lowered_lanes c.args.bounds.now c.from_column.result c.args.column c.args.count (search rules) c.fits-bounds
    (record { eight = c.from_column.ensures.eight; small = c.ranges.count.fits; each = c.from_column.ensures.each })
