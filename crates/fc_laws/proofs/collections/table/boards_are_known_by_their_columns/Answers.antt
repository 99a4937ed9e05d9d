use Rattle.fc_laws.proofs.TableLawLemmas.{columns-ordered, together-columns}
use Rattle.fc_laws.proofs.collections.table.boards_are_known_by_their_columns.Goals as goal

pub returns-clause-together : goal.returns-clause-together
returns-clause-together c = together-columns

pub returns-clause-ordered : goal.returns-clause-ordered
returns-clause-ordered c = columns-ordered
