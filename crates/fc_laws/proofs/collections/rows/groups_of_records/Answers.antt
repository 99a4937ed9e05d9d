use Rattle.std.{proofs.Common.{refl}, specs.Fmt.{digits}}
use Rattle.fc_laws.proofs.collections.rows.groups_of_records.Goals as goal

pub returns-clause-grouped : goal.returns-clause-grouped
unfolding digits
returns-clause-grouped c = refl

pub returns-clause-refused : goal.returns-clause-refused
unfolding digits
returns-clause-refused c = refl

pub returns-clause-apart : goal.returns-clause-apart
unfolding digits
returns-clause-apart c = refl

pub returns-clause-unique : goal.returns-clause-unique
unfolding digits
returns-clause-unique c = refl
