use Rattle.fc_laws.proofs.SolutionLemmas.{classes, group-of_members, groups-apart}
use Rattle.fc_laws.proofs.collections.groups.groups_are_classes.Goals as goal

pub returns-clause-together : goal.returns-clause-together
returns-clause-together c = classes

pub returns-clause-of_members : goal.returns-clause-of_members
returns-clause-of_members c = group-of_members

pub returns-clause-apart : goal.returns-clause-apart
returns-clause-apart c = groups-apart
