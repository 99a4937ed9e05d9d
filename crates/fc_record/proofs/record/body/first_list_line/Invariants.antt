-- No line so far is a list.
use Rattle.std.{proofs.Common.{◌≡◌, All}, specs.List.{find}}
use Rattle.fc_text.specs.{Left.{lines_left}, Lines.{IsPieceOf, lines_from}}
use Rattle.fc_record.specs.Grammar.{begins_with, list_mark}
use Rattle.fc_record.proofs.record.body.first_list_line.Given as goal

abbrev pub invariant-loop-line : goal.invariant-loop-line
invariant-loop-line l = record {
  places : All (IsPieceOf 0 l.fn.body) (lines_left l.line-iterator);
  first : find (λ line. begins_with list_mark line.bytes) (lines_from 0 l.fn.body) ≡ find (λ line. begins_with list_mark line.bytes) (lines_left l.line-iterator);
}
