use Rattle.std.{proofs.Common.{refl}, specs.Fmt.{digits}}
use Rattle.fc_laws.proofs.collections.rows.all_at_once.Goals as goal

pub returns-clause-shown : goal.returns-clause-shown
unfolding digits
returns-clause-shown c = refl

pub returns-clause-checked : goal.returns-clause-checked
unfolding digits
returns-clause-checked c = refl

pub returns-clause-expanded : goal.returns-clause-expanded
unfolding digits
returns-clause-expanded c = refl

pub returns-clause-canonical : goal.returns-clause-canonical
unfolding digits
returns-clause-canonical c = refl

pub returns-clause-grouped : goal.returns-clause-grouped
unfolding digits
returns-clause-grouped c = refl

pub returns-clause-shared : goal.returns-clause-shared
unfolding digits
returns-clause-shared c = refl

pub returns-clause-tabulated : goal.returns-clause-tabulated
unfolding digits
returns-clause-tabulated c = refl

pub returns-clause-unique : goal.returns-clause-unique
unfolding digits
returns-clause-unique c = refl

pub returns-clause-compared : goal.returns-clause-compared
unfolding digits
returns-clause-compared c = refl

pub returns-clause-symmetries : goal.returns-clause-symmetries
unfolding digits
returns-clause-symmetries c = refl

pub returns-clause-counted : goal.returns-clause-counted
unfolding digits
returns-clause-counted c = refl

pub returns-clause-in_json : goal.returns-clause-in_json
unfolding digits
returns-clause-in_json c = refl
