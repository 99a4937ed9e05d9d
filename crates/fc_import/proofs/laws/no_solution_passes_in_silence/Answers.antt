use Rattle.{fc_import.proofs.SilenceLemmas.{not_silent}, std.proofs.Common.{refl}}
use Rattle.fc_import.proofs.laws.no_solution_passes_in_silence.Goals as goal

pub returns : goal.returns
returns c = λ variant game state next piece line inside list reading. not_silent line inside list reading refl refl
