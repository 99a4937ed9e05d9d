use Rattle.std.proofs.Common.{codes, lit≤, refl}
use Rattle.fc_board.specs.{Games.{freecell}}
use Rattle.fc_laws.{proofs.ExampleLemmas.{bad_run_by_name}}
use Rattle.fc_laws.proofs.texts.runs.each_letter_is_read_in_runs.Goals as goal

pub returns-clause-no_cell : goal.returns-clause-no_cell
returns-clause-no_cell c = bad_run_by_name freecell (codes "1e") (lit≤ tt) refl refl
