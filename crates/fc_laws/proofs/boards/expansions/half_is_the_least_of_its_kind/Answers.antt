use Rattle.fc_laws.proofs.HalfLemmas.{half-enough, half-kind, half-least}
use Rattle.fc_laws.proofs.boards.expansions.half_is_the_least_of_its_kind.Goals as goal

pub returns-clause-kind : goal.returns-clause-kind
returns-clause-kind g = half-kind

pub returns-clause-half : goal.returns-clause-half
returns-clause-half g = half-enough

pub returns-clause-least : goal.returns-clause-least
returns-clause-least g = λ reach count times helpers. half-least reach count helpers times
