use Rattle.std.proofs.Common.{◌∷◌, [], codes, lit<, lit≤, refl}
use Rattle.fc_board.specs.Games.{freecell}
use Rattle.fc_laws.proofs.ExampleLemmas.{bad_by_names, word_at}
use Rattle.fc_laws.specs.BoardExamples.{column_1_to_cell_a}
use Rattle.fc_laws.proofs.texts.notation.cell_e_is_of_eight_off.Goals as goal

pub returns-clause-freecell : goal.returns-clause-freecell
returns-clause-freecell c =
    bad_by_names freecell (codes "1a 1e") (word_at 0 (codes "1a") ∷ []) (word_at 3 (codes "1e")) [] (column_1_to_cell_a ∷ []) (lit≤ tt)
    refl refl refl (lit< tt)
