use Rattle.std.proofs.Common.{◌<◌, ◌≡◌, arith, length, min, subst, take}
use Rattle.{fc_bytes.proofs.BitsDecoded.{bits_more}, fc_card.specs.{AreBitsOf}}
use Rattle.fc_bytes.proofs.board.bits_of.Goals as goal

pub loop-place-preserved : goal.loop-place-preserved
loop-place-preserved c = λ total cards laid few are.
    let inside : c.loop-place.place < length c.args.bytes.now =
    omega (arith, c.loop-place-test.true, c.loop-place.auto.place-end, c.type_inv.bytes) in
    bits_more total c.args.bytes.now cards c.loop-place.place c.loop-place.bits c.bit_of-bits.result
    laid are inside c.bit_of-bits.ensures.card c.bit_of-bits.ensures.none
    (c.loop-place.invariant total cards laid few are)

pub returns : goal.returns
returns c = λ total cards laid few are.
    let all : min c.loop-place.place total ≡ total = omega (arith, few, c.loop-place-test.false) in
    subst (λ n. AreBitsOf (take n cards) c.loop-place.bits) all (c.loop-place.invariant total cards laid few are)
