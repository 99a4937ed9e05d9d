use Rattle.std.proofs.Common.{◌++◌, ◌∷◌, [], codes, lit<, lit≤, refl}
use Rattle.fc_board.specs.Games.{freecell}
use Rattle.fc_laws.proofs.ExampleLemmas.{bad_by_names, word_at}
use Rattle.fc_laws.specs.BoardExamples.{column_1_to_cell_a, column_3_to_cell_a}
use Rattle.fc_laws.proofs.texts.notation.first_bad_token_counts.Goals as goal

pub returns-clause-of_two : goal.returns-clause-of_two
returns-clause-of_two c =
    bad_by_names freecell (codes "3a h1 1i") (word_at 0 (codes "3a") ∷ []) (word_at 3 (codes "h1")) (word_at 6 (codes "1i") ∷ [])
    (column_3_to_cell_a ∷ []) (lit≤ tt) refl refl refl (lit< tt)

pub returns-clause-of_lines : goal.returns-clause-of_lines
returns-clause-of_lines c =
    bad_by_names freecell (13 ∷ 10 ∷ codes "1a" ++ 10 ∷ codes "1" ++ 10 ∷ []) (word_at 2 (codes "1a") ∷ []) (word_at 5 (codes "1")) []
    (column_1_to_cell_a ∷ []) (lit≤ tt) refl refl refl (lit< tt)

pub returns-clause-no_break_space : goal.returns-clause-no_break_space
returns-clause-no_break_space c =
    bad_by_names freecell (codes "1a" ++ 194 ∷ 160 ∷ codes "2a") [] (word_at 0 (codes "1a" ++ 194 ∷ 160 ∷ codes "2a")) [] [] (lit≤ tt)
    refl refl refl (lit< tt)
