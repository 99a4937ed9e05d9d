use Rattle.{fc_board.specs.Games.{eight_off}, std.proofs.Common.{[], codes, lit<, lit≤, refl}}
use Rattle.fc_laws.proofs.ExampleLemmas.{bad_by_names, word_at}
use Rattle.fc_laws.proofs.texts.notation.bad_tokens_of_eight_off.Goals as goal

pub returns-clause-from_home : goal.returns-clause-from_home
returns-clause-from_home c = bad_by_names eight_off (codes "h1") [] (word_at 0 (codes "h1")) [] [] (lit≤ tt) refl refl refl (lit< tt)

pub returns-clause-no_cell : goal.returns-clause-no_cell
returns-clause-no_cell c = bad_by_names eight_off (codes "1i") [] (word_at 0 (codes "1i")) [] [] (lit≤ tt) refl refl refl (lit< tt)

pub returns-clause-no_column : goal.returns-clause-no_column
returns-clause-no_column c = bad_by_names eight_off (codes "91") [] (word_at 0 (codes "91")) [] [] (lit≤ tt) refl refl refl (lit< tt)

pub returns-clause-one_character : goal.returns-clause-one_character
returns-clause-one_character c = bad_by_names eight_off (codes "1") [] (word_at 0 (codes "1")) [] [] (lit≤ tt) refl refl refl (lit< tt)

pub returns-clause-three_characters : goal.returns-clause-three_characters
returns-clause-three_characters c = bad_by_names eight_off (codes "1aa") [] (word_at 0 (codes "1aa")) [] [] (lit≤ tt) refl refl refl (lit< tt)
