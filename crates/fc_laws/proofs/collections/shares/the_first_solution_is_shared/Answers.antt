use Rattle.fc_laws.proofs.SolutionLemmas.{owner-first, solution-first, unchanged}
use Rattle.fc_laws.proofs.collections.shares.the_first_solution_is_shared.Goals as goal

pub returns-clause-owner : goal.returns-clause-owner
returns-clause-owner c = owner-first

pub returns-clause-list : goal.returns-clause-list
returns-clause-list c variant collection member moves there = solution-first variant collection member there moves

pub returns-clause-unchanged : goal.returns-clause-unchanged
returns-clause-unchanged c = unchanged
