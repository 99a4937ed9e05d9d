use Rattle.std.{proofs.Common.{refl}, specs.Fmt.{digits}}
use Rattle.fc_laws.proofs.collections.rows.two_records.Goals as goal

pub returns-clause-checked : goal.returns-clause-checked
unfolding digits
returns-clause-checked c = refl

pub returns-clause-tabulated : goal.returns-clause-tabulated
unfolding digits
returns-clause-tabulated c = refl

pub returns-clause-in_json : goal.returns-clause-in_json
unfolding digits
returns-clause-in_json c = refl
