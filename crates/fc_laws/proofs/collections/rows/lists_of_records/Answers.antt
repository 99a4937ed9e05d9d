use Rattle.std.{proofs.Common.{refl}, specs.Fmt.{digits}}
use Rattle.fc_laws.proofs.collections.rows.lists_of_records.Goals as goal

pub returns-clause-checked : goal.returns-clause-checked
unfolding digits
returns-clause-checked c = refl

pub returns-clause-bad_token : goal.returns-clause-bad_token
unfolding digits
returns-clause-bad_token c = refl
