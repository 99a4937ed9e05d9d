use Rattle.std.proofs.{Common.{◌++◌, ◌∙◌, ap, refl}, lemmas.Result.{on_ok_weaker}}
use Rattle.{fc_board.specs.Games.{Game}, fc_text.specs.Printed.{text_of}}
use Rattle.fc_record.{proofs.LineLemmas.{three_parts}, specs.Grammar.{contents_seen, heading_seen}}
use Rattle.fc_record.specs.Printing.{expanded_line, heading_line, numbered_lines}
use Rattle.fc_record.proofs.printing.ExpandLinesPrintsRecord.print.Goals as goal

pub returns : goal.returns
returns g c =
    let old = c.args.out.now.items in
    let one = c.push_heading.new.out.items in
    let two = c.push_board.new.out.items in
    let new = c.push_expanded_lines.new.out.items in
    let contents = contents_seen c.args.contents in
    let lines = λ (game : Game). numbered_lines (expanded_line game contents.board) 1 contents.lists in
    let lists = rw c.as_slice.ensures.value at c.push_expanded_lines.ensures.printed in
    let named = ap (λ lines. two ++ lines) (ap lines (g.met.R.Rule.named.game_is _ refl)) in
    record {
      printed = on_ok_weaker c.push_expanded_lines.result
          (λ printed. three_parts old one two new (heading_line c.args.number (heading_seen g.R.Rule.VARIANT c.args.heading)) (text_of contents.board) _ (rw c.VARIANT.ensures at c.in_ok-push_heading.ensures.printed) c.in_ok-push_board.ensures.printed (printed ∙ named)) lists;
    }
