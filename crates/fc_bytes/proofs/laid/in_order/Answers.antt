use Rattle.fc_bytes.proofs.BytesInOrder.{bytes-in-order, can-order}
use Rattle.fc_bytes.proofs.laid.in_order.Goals as goal

pub swizzle : goal.swizzle
swizzle c =
    can-order c.args.bytes.now c.args.order.now c.places_of.result c.told-bytes c.requires
    c.places_of.ensures.order c.places_of.ensures.lanes

pub returns-clause-value : goal.returns-clause-value
returns-clause-value c =
    bytes-in-order c.args.bytes.now c.args.order.now c.places_of.result c.told-bytes c.requires
    c.places_of.ensures.order c.places_of.ensures.lanes
