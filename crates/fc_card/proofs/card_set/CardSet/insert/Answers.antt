use Rattle.std.proofs.{Common.{◌≡◌, List, slice_index, subst, sym, ℕ}, lemmas.Bool.{eq-eqb, eqb-true}}
use Rattle.fc_card.{proofs.CardSetLemmas.{none_of_card, one_added, one_below}, specs.{IsCard}}
use Rattle.fc_card.proofs.card_set.CardSet.insert.Goals as goal

pub add-requires : goal.add-requires
add-requires c = one_below c.number.result c.args.card c.number.ensures.value (subst IsCard c.number.ensures.value c.number.ensures.in_deck)

pub returns-clause-counted : goal.returns-clause-counted
returns-clause-counted c =
    one_added c.args.self.now c.add.new.self c.number.result c.args.card c.number.ensures.value (subst IsCard c.number.ensures.value c.number.ensures.in_deck) c.add.ensures

pub returns-clause-first : goal.returns-clause-first
returns-clause-first c =
    let both = none_of_card c.self.inside.once c.self.inside.twice c.number.result c.args.card c.self.invariant c.number.ensures.value (subst IsCard c.number.ensures.value c.number.ensures.in_deck) in
    let none_of = λ (counts : List ℕ). slice_index counts c.args.card ≡ 0 in (
      λ yes. subst none_of c.self.view_is (both.0 (eqb-true _ _ yes)),
      λ none. eq-eqb _ _ (both.1 (subst none_of (sym c.self.view_is) none)),
    )
