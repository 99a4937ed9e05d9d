use Rattle.{fc_board.specs.Games.{freecell}, std.proofs.Common.{[], codes, lit<, lit≤, refl}}
use Rattle.fc_laws.proofs.ExampleLemmas.{bad_by_names, word_at}
use Rattle.fc_laws.proofs.texts.notation.bad_tokens_of_freecell.Goals as goal

pub returns-clause-from_home : goal.returns-clause-from_home
returns-clause-from_home c = bad_by_names freecell (codes "h1") [] (word_at 0 (codes "h1")) [] [] (lit≤ tt) refl refl refl (lit< tt)

pub returns-clause-no_cell : goal.returns-clause-no_cell
returns-clause-no_cell c = bad_by_names freecell (codes "1i") [] (word_at 0 (codes "1i")) [] [] (lit≤ tt) refl refl refl (lit< tt)

pub returns-clause-no_column : goal.returns-clause-no_column
returns-clause-no_column c = bad_by_names freecell (codes "91") [] (word_at 0 (codes "91")) [] [] (lit≤ tt) refl refl refl (lit< tt)

pub returns-clause-no_column_0 : goal.returns-clause-no_column_0
returns-clause-no_column_0 c = bad_by_names freecell (codes "01") [] (word_at 0 (codes "01")) [] [] (lit≤ tt) refl refl refl (lit< tt)

pub returns-clause-one_character : goal.returns-clause-one_character
returns-clause-one_character c = bad_by_names freecell (codes "1") [] (word_at 0 (codes "1")) [] [] (lit≤ tt) refl refl refl (lit< tt)

pub returns-clause-three_characters : goal.returns-clause-three_characters
returns-clause-three_characters c = bad_by_names freecell (codes "1aa") [] (word_at 0 (codes "1aa")) [] [] (lit≤ tt) refl refl refl (lit< tt)
