use Rattle.std.proofs.Common.{◌≤◌, List, MatchOption, refl, slice_index, subst, ℕ}
use Rattle.fc_card.{proofs.CardSetLemmas.{repeated_found}, specs.{IsLowest, NoCard}}
use Rattle.fc_card.proofs.card_set.CardSet.lowest_repeated.Goals as goal

pub returns : goal.returns
returns c =
    subst (λ (counts : List ℕ). MatchOption c.from_number.result (NoCard (λ card. 2 ≤ slice_index counts card)) (IsLowest (λ card. 2 ≤ slice_index counts card))) c.self.view_is
    (repeated_found _ _ _ c.from_number.result c.self.invariant refl c.from_number.ensures)
