use Rattle.std.{proofs.Common.{refl}, specs.Fmt.{digits}}
use Rattle.fc_laws.proofs.collections.table.refusals_have_their_objects.Goals as goal

pub returns-clause-named : goal.returns-clause-named
unfolding digits
returns-clause-named c = refl

pub returns-clause-unnamed : goal.returns-clause-unnamed
unfolding digits
returns-clause-unnamed c = refl
