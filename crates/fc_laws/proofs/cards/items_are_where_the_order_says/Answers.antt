use Rattle.std.proofs.Common.{◌∙◌, arith, length, sym}
use Rattle.fc_card.{proofs.OrderLemmas.{slice_get-pick}, specs.{AllBelow, laws.OrderLaws.{length-pick}}}
use Rattle.fc_laws.proofs.cards.items_are_where_the_order_says.Goals as goal

pub returns-clause-count : goal.returns-clause-count
returns-clause-count g c =
    let within : AllBelow (length c.args.line.now.items) c.args.order.now = λ i h. omega (arith, c.requires.order.within i h, c.requires.can_act) in
    length-pick c.args.line.now.items c.args.order.now within ∙ sym c.requires.can_act

pub returns-clause-item : goal.returns-clause-item
returns-clause-item g c =
    let within : AllBelow (length c.args.line.now.items) c.args.order.now = λ i h. omega (arith, c.requires.order.within i h, c.requires.can_act) in
    slice_get-pick c.args.line.now.items c.args.order.now c.args.place within c.requires.inside
