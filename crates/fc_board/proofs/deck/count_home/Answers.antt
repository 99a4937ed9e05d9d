use Rattle.std.proofs.{Common.{◌∙◌, arith, sym}, lemmas.Grind.{get_or_default_zero}}
use Rattle.fc_board.proofs.CountedLemmas.{CountsHome-by_suits}
use Rattle.fc_board.proofs.deck.count_home.Goals as goal

pub returns-clause-counted : goal.returns-clause-counted
returns-clause-counted c =
    let heights = c.args.heights.now in
    let four = c.type_inv.heights in
    CountsHome-by_suits heights c.args.cards.now c.insert_up_to.new.self c.insert_up_to-2.new.self c.insert_up_to-3.new.self c.insert_up_to-4.new.self
    c.get.result c.get-2.result c.get-3.result c.get-4.result
    (sym (c.get.ensures.value ∙ get_or_default_zero heights 0 c.index-heights-0.result (omega (arith, four))))
    (sym (c.get-2.ensures.value ∙ get_or_default_zero heights 1 c.index-heights-1.result (omega (arith, four))))
    (sym (c.get-3.ensures.value ∙ get_or_default_zero heights 2 c.index-heights-2.result (omega (arith, four))))
    (sym (c.get-4.ensures.value ∙ get_or_default_zero heights 3 c.index-heights-3.result (omega (arith, four))))
    c.insert_up_to.ensures c.insert_up_to-2.ensures c.insert_up_to-3.ensures c.insert_up_to-4.ensures
