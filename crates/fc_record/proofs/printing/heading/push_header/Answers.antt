-- A header is what is before its name, the name and the end of its line.
use Rattle.std.proofs.Common.{◌++◌, ◌∙◌, ap, append_assoc}
use Rattle.fc_record.proofs.LineLemmas.{three_parts}
use Rattle.fc_record.proofs.printing.heading.push_header.Goals as goal

pub returns : goal.returns
returns c = record {
  printed = three_parts c.args.out.now.items c.push_front.new.out.items c.extend_from_slice.new.self.items c.push.new.self.items _ c.args.name.now _
      c.in_ok-push_front.ensures.printed c.in_ok-extend_from_slice.ensures.items c.in_ok-push.ensures.items
      ∙ ap (λ text. c.args.out.now.items ++ text) (simp append_assoc);
}
