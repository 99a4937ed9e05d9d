use Rattle.{fc_board.specs.Games.{freecell}, std.proofs.Common.{[], codes, lit<, lit≤, refl}}
use Rattle.fc_laws.proofs.ExampleLemmas.{bad_by_names, bad_run_by_name, word_at}
use Rattle.fc_laws.proofs.texts.runs.bad_suffixes.Goals as goal

pub returns-clause-zero : goal.returns-clause-zero
returns-clause-zero c = bad_run_by_name freecell (codes "12v0") (lit≤ tt) refl refl

pub returns-clause-fourteen : goal.returns-clause-fourteen
returns-clause-fourteen c = bad_run_by_name freecell (codes "12ve") (lit≤ tt) refl refl

pub returns-clause-to_a_cell : goal.returns-clause-to_a_cell
returns-clause-to_a_cell c = bad_run_by_name freecell (codes "1av1") (lit≤ tt) refl refl

pub returns-clause-home : goal.returns-clause-home
returns-clause-home c = bad_run_by_name freecell (codes "2hv1") (lit≤ tt) refl refl

pub returns-clause-from_a_cell : goal.returns-clause-from_a_cell
returns-clause-from_a_cell c = bad_run_by_name freecell (codes "a1v1") (lit≤ tt) refl refl

pub returns-clause-no_digit : goal.returns-clause-no_digit
returns-clause-no_digit c = bad_run_by_name freecell (codes "12v") (lit≤ tt) refl refl

pub returns-clause-two_digits : goal.returns-clause-two_digits
returns-clause-two_digits c = bad_run_by_name freecell (codes "12v12") (lit≤ tt) refl refl

pub returns-clause-another_letter : goal.returns-clause-another_letter
returns-clause-another_letter c = bad_run_by_name freecell (codes "12x3") (lit≤ tt) refl refl

pub returns-clause-no_letter : goal.returns-clause-no_letter
returns-clause-no_letter c = bad_run_by_name freecell (codes "1213") (lit≤ tt) refl refl

pub returns-clause-of_no_column : goal.returns-clause-of_no_column
returns-clause-of_no_column c = bad_run_by_name freecell (codes "92v1") (lit≤ tt) refl refl

pub returns-clause-of_one_card : goal.returns-clause-of_one_card
returns-clause-of_one_card c = bad_by_names freecell (codes "12v3") [] (word_at 0 (codes "12v3")) [] [] (lit≤ tt) refl refl refl (lit< tt)
