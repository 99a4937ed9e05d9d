use Rattle.fc_deal.proofs.ShuffleLemmas.{IsPartDealt}
use Rattle.fc_deal.proofs.shuffle.shuffle_deck.Given as goal

abbrev pub invariant-loop-last : goal.invariant-loop-last
invariant-loop-last l = IsPartDealt l.fn.seed l.last l.draws.state l.cards
