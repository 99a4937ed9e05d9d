use Rattle.std.{proofs.Common.{refl}, specs.Fmt.{digits}}
use Rattle.fc_laws.proofs.collections.rows.refused_records.Goals as goal

pub returns-clause-bad_variant : goal.returns-clause-bad_variant
unfolding digits
returns-clause-bad_variant c = refl

pub returns-clause-stray_column : goal.returns-clause-stray_column
unfolding digits
returns-clause-stray_column c = refl

pub returns-clause-missing_king : goal.returns-clause-missing_king
unfolding digits
returns-clause-missing_king c = refl
