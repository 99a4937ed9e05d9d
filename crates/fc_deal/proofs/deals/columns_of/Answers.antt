use Rattle.{fc_deal.proofs.ColumnLemmas.{AreDealt-push, column-has_room}, std.proofs.Common.{arith}}
use Rattle.fc_deal.proofs.deals.columns_of.Goals as goal

pub push-requires : goal.push-requires
push-requires c = (omega arith, column-has_room _ _ _ _ _ c.loop-place.invariant (omega arith) c.loop-place-test.true)

pub loop-place-preserved : goal.loop-place-preserved
loop-place-preserved c =
    let ensured = c.type_inv.cards in
    let test = c.loop-place-test.true in
    AreDealt-push _ _ _ _ _ _ c.loop-place.invariant (omega arith) c.push.ensures.items
