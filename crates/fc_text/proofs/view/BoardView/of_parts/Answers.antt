use Rattle.std.proofs.Common.{◌∙◌, ◌≡◌, ap, map, subst, sym}
use Rattle.fc_board.specs.{inside.{board_of_laid}, Passages.{renamed_column}}
use Rattle.fc_text.{proofs.BoardViewLemmas.{columns-identity}, specs.writer.{IsPrintable}}
use Rattle.fc_text.proofs.view.BoardView.of_parts.Given as given
use Rattle.fc_text.proofs.view.BoardView.of_parts.Goals as goal

same : (g : given.Over) (c : goal.After-identity g) → map (λ column. renamed_column c.identity.result column.now) c.args.columns ≡ map (λ column. column.now) c.args.columns
same g c = ap (λ renaming. map (λ column. renamed_column renaming column.now) c.args.columns) c.identity.ensures ∙ columns-identity (λ column. column.now) c.args.columns

pub invariant_of-result : goal.invariant_of-result
invariant_of-result g c = subst (λ columns. IsPrintable (board_of_laid g.R.Rule.CELLS c.args.heights c.args.cells columns)) (sym (same g c)) c.requires.printable

pub returns : goal.returns
returns g c = record { board = ap (board_of_laid g.R.Rule.CELLS c.args.heights c.args.cells) (same g c) }
