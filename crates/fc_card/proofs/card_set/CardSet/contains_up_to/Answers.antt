use Rattle.std.proofs.{Common.{List, subst, sym, ℕ}, lemmas.Bool.{eq-eqb, eqb-true, not-false, not_from_true}}
use Rattle.fc_card.{proofs.CardSetLemmas.{none_up_to}, specs.{CountsNoneUpTo, suit_number}}
use Rattle.fc_card.proofs.card_set.CardSet.contains_up_to.Goals as goal

pub returns : goal.returns
returns c =
    let both = none_up_to c.self.inside.once c.self.inside.twice (suit_number c.args.suit) c.args.height c.bits_up_to.result c.self.invariant c.bits_up_to.ensures.below c.bits_up_to.ensures.bits in
    let none_of = λ (counts : List ℕ). CountsNoneUpTo counts (suit_number c.args.suit) c.args.height in (
      λ none. subst none_of c.self.view_is (both.0 (eqb-true _ _ (not-false _ none))),
      λ each. not_from_true _ (eq-eqb _ _ (both.1 (subst none_of (sym c.self.view_is) each))),
    )
