use Rattle.{fc_board.proofs.ShiftLemmas.{raised_lanes}, std.proofs.Common.{rules}}
use Rattle.fc_board.proofs.columns.raise.Goals as goal

pub returns : goal.returns
returns c =
    raised_lanes c.args.bounds.now c.from_column.result c.args.column c.args.count (search rules) (λ place inside. c.requires.room place 0 (search rules))
    (record { eight = c.from_column.ensures.eight; small = c.ranges.count.fits; each = c.from_column.ensures.each })
