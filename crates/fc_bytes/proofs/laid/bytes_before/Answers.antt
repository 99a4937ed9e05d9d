use Rattle.{fc_bytes.proofs.LaidBytes.{before-there}, std.proofs.Common.{arith}}
use Rattle.fc_bytes.proofs.laid.bytes_before.Goals as goal

pub returns : goal.returns
returns c =
    before-there c.args.bytes.now c.loop-place.before c.args.end c.loop-place.invariant.long c.requires
    (omega (arith, c.told-bytes))
    (λ k inside. c.loop-place.invariant.so_far k (omega (arith, inside, c.loop-place-test.false)))
