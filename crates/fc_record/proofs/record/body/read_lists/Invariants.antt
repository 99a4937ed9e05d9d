-- The lists so far, and then what the lines that are left say.
use Rattle.std.proofs.Common.{◌≡◌, All, map}
use Rattle.fc_text.specs.{Left.{lines_left}, Lines.{IsPieceOf, lines_from, moved}}
use Rattle.fc_record.{proofs.ContentsLemmas.{after_seen}, specs.{Grammar.{lists_of}, inside.Fitting.{AllFit}}}
use Rattle.fc_record.proofs.record.body.read_lists.Given as goal

abbrev pub invariant-loop-line : goal.invariant-loop-line
invariant-loop-line g l = record {
  places : All (IsPieceOf 0 l.fn.text) (lines_left l.line-iterator);
  fit : AllFit g.R.Rule.game l.lists.items;
  read : lists_of g.R.Rule.game (lines_from l.fn.place l.fn.text)
      ≡ after_seen l.lists.items (lists_of g.R.Rule.game (map (moved l.fn.place) (lines_left l.line-iterator)));
}
