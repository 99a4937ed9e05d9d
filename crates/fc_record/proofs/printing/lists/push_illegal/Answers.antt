use Rattle.std.{proofs.Common.{◌∷◌, [], codes}, specs.Fmt.{decimal}}
use Rattle.{fc_board.specs.Play.{Refused}, fc_text.specs.Bytes.{line_feed}}
use Rattle.fc_record.{proofs.LineLemmas.{four_parts}, specs.Printing.{verdict_words}}
use Rattle.fc_record.proofs.printing.lists.push_illegal.Goals as goal

pub returns : goal.returns
returns c = record {
  printed = four_parts c.args.out.now.items c.extend_from_slice.new.self.items c.push_number.new.out.items c.push_refused.new.out.items c.push.new.self.items
      (codes "# list ") (decimal c.args.number) (verdict_words 0 (Refused c.args.fault.index c.args.fault.fault)) (line_feed ∷ [])
      c.in_ok-extend_from_slice.ensures.items c.in_ok-push_number.ensures.printed (c.in_ok-push_refused.ensures.printed 0) c.in_ok-push.ensures.items;
}
