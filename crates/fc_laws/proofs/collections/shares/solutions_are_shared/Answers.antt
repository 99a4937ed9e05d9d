use Rattle.fc_laws.proofs.SolutionLemmas.{none_for_all, solution_for_all}
use Rattle.fc_laws.proofs.collections.shares.solutions_are_shared.Goals as goal

pub returns-clause-none : goal.returns-clause-none
returns-clause-none c = none_for_all

pub returns-clause-solved : goal.returns-clause-solved
returns-clause-solved c variant collection group winner winning known = solution_for_all variant collection group known winner winning
