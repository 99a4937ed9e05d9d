use Rattle.{fc_import.proofs.StrictLemmas.{silent_makes}, std.proofs.Common.{refl}}
use Rattle.fc_import.proofs.laws.changes_are_noted_beside_doubts.Goals as goal

pub returns : goal.returns
returns c = λ variant options bytes made summary makes. silent_makes makes refl
