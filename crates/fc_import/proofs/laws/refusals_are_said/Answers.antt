use Rattle.std.proofs.Common.{◌+◌, ap₂, refl}
use Rattle.fc_import.{proofs.SilenceLemmas.{all_taken}, specs.Notes.{counted}}
use Rattle.fc_import.proofs.laws.refusals_are_said.Goals as goal

pub returns-clause-refusals : goal.returns-clause-refusals
returns-clause-refusals c = λ variant options game text state written imported.
    let (boards, lists, lines) = all_taken imported refl in ap₂ (λ boards lists. counted (boards + lists)) boards lists

pub returns-clause-left_out : goal.returns-clause-left_out
returns-clause-left_out c = λ variant options game text state written imported. (all_taken imported refl).2
