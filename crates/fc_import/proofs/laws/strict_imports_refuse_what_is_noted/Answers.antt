use Rattle.{fc_import.proofs.StrictLemmas.{strict_refuses, strict_silent}, std.proofs.Common.{refl}}
use Rattle.fc_import.proofs.laws.strict_imports_refuse_what_is_noted.Goals as goal

pub returns-clause-noted : goal.returns-clause-noted
returns-clause-noted c = λ variant options bytes made said summary strict makes some. strict_refuses strict makes some

pub returns-clause-silent : goal.returns-clause-silent
returns-clause-silent c = λ variant options bytes made summary makes. strict_silent makes refl
