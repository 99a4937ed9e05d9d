use Rattle.fc_laws.proofs.TableLawLemmas.{object_with_null, object_with_number, strings_apart}
use Rattle.fc_laws.proofs.collections.table.objects_hold_the_columns.Goals as goal

pub returns-clause-none : goal.returns-clause-none
returns-clause-none c = object_with_null

pub returns-clause-first : goal.returns-clause-first
returns-clause-first c = object_with_number

pub returns-clause-apart : goal.returns-clause-apart
returns-clause-apart c = strings_apart
