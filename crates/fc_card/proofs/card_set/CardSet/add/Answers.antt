use Rattle.std.{proofs.Common.{◌+◌, ◌≡◌, List, min, slice_index, subst, ℕ}, specs.Int.{bit_at, Bits.{bit_and, bit_or}}}
use Rattle.fc_card.{proofs.CardSetLemmas.{added, AreCounts-add}, specs.inside.{counts_of}}
use Rattle.fc_card.proofs.card_set.CardSet.add.Goals as goal

pub invariant_of-self : goal.invariant_of-self
invariant_of-self c = AreCounts-add _ _ _ c.self.invariant c.requires

pub returns : goal.returns
returns c = λ card in_deck.
    subst (λ (old : List ℕ). slice_index (counts_of (bit_or c.self.inside.once c.args.bits) (bit_or c.self.inside.twice (bit_and c.self.inside.once c.args.bits))) card ≡ min (slice_index old card + bit_at c.args.bits card) 2)
    c.self.view_is (added c.self.inside.once c.self.inside.twice c.args.bits card c.self.invariant in_deck)
