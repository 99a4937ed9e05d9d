use Rattle.std.{proofs.Common.{refl}, specs.Fmt.{digits}}
use Rattle.fc_laws.proofs.collections.rows.pieces_begin_where_they_are_said_to.Goals as goal

pub returns-clause-record : goal.returns-clause-record
unfolding digits
returns-clause-record c = refl

pub returns-clause-byte : goal.returns-clause-byte
unfolding digits
returns-clause-byte c = refl

pub returns-clause-both : goal.returns-clause-both
unfolding digits
returns-clause-both c = refl
