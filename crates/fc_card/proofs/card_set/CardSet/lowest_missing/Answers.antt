use Rattle.std.proofs.Common.{◌≡◌, List, MatchOption, slice_index, subst, ℕ}
use Rattle.fc_card.{proofs.CardSetLemmas.{missing_found}, specs.{IsLowest, NoCard}}
use Rattle.fc_card.proofs.card_set.CardSet.lowest_missing.Goals as goal

pub returns : goal.returns
returns c =
    subst (λ (counts : List ℕ). MatchOption c.from_number.result (NoCard (λ card. slice_index counts card ≡ 0)) (IsLowest (λ card. slice_index counts card ≡ 0))) c.self.view_is
    (missing_found _ _ _ c.from_number.result c.self.invariant c.trailing_ones.ensures c.from_number.ensures)
