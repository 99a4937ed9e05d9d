use Rattle.fc_laws.proofs.TableLawLemmas.{dash-exactly, first-number}
use Rattle.fc_laws.proofs.collections.table.the_first_win_is_named.Goals as goal

pub returns-clause-none : goal.returns-clause-none
returns-clause-none c = dash-exactly

pub returns-clause-first : goal.returns-clause-first
returns-clause-first c variant collection member place list there = first-number variant collection member there place list
