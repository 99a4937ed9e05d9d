use Rattle.std.{proofs.{Common.{◌++◌, ◌-◌, ap, arith, length, take}, lemmas.Fmt.{decimal_digit}}, specs.Prelude.{codes}}
use Rattle.fc_import.proofs.laws.notes_are_for_people.Goals as goal

pub returns-clause-second : goal.returns-clause-second
returns-clause-second c = ap (λ digits. take (63 - length digits) (codes "a") ++ codes "_" ++ digits) (decimal_digit 2 (omega arith))
