use Rattle.std.proofs.{Common.{subst, sym}, lemmas.Bool.{eq-eqb, eqb-true}}
use Rattle.fc_card.{proofs.CardSetLemmas.{once_whole, whole_once}, specs.{CountsEachOnce}}
use Rattle.fc_card.proofs.card_set.CardSet.is_whole.Goals as goal

pub returns-then-self : goal.returns-then-self
returns-then-self c = (
  λ none. subst CountsEachOnce c.self.view_is (whole_once _ _ c.if-self.true (eqb-true _ _ none)),
  λ each. eq-eqb _ _ (once_whole _ _ c.self.invariant (subst CountsEachOnce (sym c.self.view_is) each)).1,
)

pub returns-else-self : goal.returns-else-self
returns-else-self c = (
  λ full. absurd (c.if-self.false (eqb-true _ _ full)),
  λ each. eq-eqb _ _ (once_whole _ _ c.self.invariant (subst CountsEachOnce (sym c.self.view_is) each)).0,
)
