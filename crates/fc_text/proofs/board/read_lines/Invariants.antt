use Rattle.std.proofs.Common.{All, map}
use Rattle.fc_text.proofs.board.read_lines.Given as goal
use Rattle.fc_text.specs.{Left.{lines_left}, Lines.{IsPieceOf, lines_from}, reader.{items_left, Leaves}, Rows.{line_of}}

abbrev pub invariant-loop-line : goal.invariant-loop-line
invariant-loop-line g l = record {
  places : All (IsPieceOf 0 l.fn.text) (lines_left l.line-iterator);
  items : Leaves g.R.Rule.game l.initial.reader (items_left l.initial.reader (map line_of (lines_from 0 l.fn.text)))
      l.reader (items_left l.reader (map line_of (lines_left l.line-iterator)));
}
