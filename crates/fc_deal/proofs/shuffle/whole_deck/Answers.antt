use Rattle.fc_deal.proofs.ShuffleLemmas.{is_deck}
use Rattle.fc_deal.proofs.shuffle.whole_deck.Goals as goal

pub returns : goal.returns
returns c = is_deck _ _ c.loop-number.invariant.0 c.loop-number-test.false c.loop-number.invariant.1
