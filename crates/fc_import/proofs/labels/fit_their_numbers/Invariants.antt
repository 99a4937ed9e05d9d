use Rattle.std.{proofs.Common.{◌≡◌}, specs.List.{list_all}}
use Rattle.{fc_import.specs.Strips.{fits_its_number, tells_columns}, fc_text.specs.Left.{lines_left}}
use Rattle.fc_import.specs.declared.layout.Layout.TheVariants.{Columns}
use Rattle.fc_import.proofs.labels.fit_their_numbers.Given as goal

abbrev pub invariant-loop-line : goal.invariant-loop-line
invariant-loop-line g l = list_all (λ line. fits_its_number l.board line.bytes) (lines_left l.line-iterator) ≡ tells_columns Columns l.lines l.board
