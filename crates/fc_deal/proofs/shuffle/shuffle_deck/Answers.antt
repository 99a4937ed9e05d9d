use Rattle.std.proofs.Common.{◌%◌, ◌+◌, ◌-◌, ◌∙◌, ap, refl, sym}
use Rattle.fc_deal.{proofs.ShuffleLemmas.{IsPartDealt-new, IsPartDealt-swap}, specs.{drawn}}
use Rattle.fc_deal.proofs.shuffle.shuffle_deck.Goals as goal

pub loop-last-init : goal.loop-last-init
loop-last-init c = IsPartDealt-new _ _ _ c.whole_deck-cards.ensures c.new-draws.ensures

pub loop-last-preserved : goal.loop-last-preserved
loop-last-preserved c =
    let test = c.loop-last-test.true in
    let auto = c.loop-last.auto.last in
    IsPartDealt-swap _ _ _ _ _ (c.draw.result % (c.loop-last.last - 1 + 1)) _ _ test auto c.loop-last.invariant refl c.draw.ensures.state
    (ap (λ n. n % (c.loop-last.last - 1 + 1)) (c.draw.ensures.number ∙ ap drawn (sym c.draw.ensures.state))) c.swap.ensures.after
