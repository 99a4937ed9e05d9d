use Rattle.std.{proofs.Common.{◌+◌, ◌≡◌, List, subst₂, ℕ}, specs.Prelude.{slice_index_or}}
use Rattle.fc_collect.proofs.TallyLemmas.{double-more, group-more}
use Rattle.fc_laws.proofs.collections.figures.one_more_record_is_a_group_or_a_double.Goals as goal

pub returns-clause-double : goal.returns-clause-double
returns-clause-double c summary members member before after there was is =
    subst₂ (λ (before after : List ℕ). (slice_index_or after 2 0 ≡ slice_index_or before 2 0)
    × (slice_index_or after 3 0 ≡ slice_index_or before 3 0 + 1)) was is (double-more members member there)

pub returns-clause-group : goal.returns-clause-group
returns-clause-group c summary members member before after none was is =
    subst₂ (λ (before after : List ℕ). (slice_index_or after 2 0 ≡ slice_index_or before 2 0 + 1)
    × (slice_index_or after 3 0 ≡ slice_index_or before 3 0)) was is (group-more members member none)
