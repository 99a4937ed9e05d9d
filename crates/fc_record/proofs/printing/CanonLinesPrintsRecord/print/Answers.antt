use Rattle.std.proofs.Common.{◌∙◌, ap, refl}
use Rattle.{fc_board.specs.Passages.{carried}, fc_text.specs.Printed.{text_of}}
use Rattle.fc_canon.proofs.LeastTextLemmas.{chosen-text, chosen_passage-Chosen, one_chosen}
use Rattle.fc_record.{proofs.LineLemmas.{made_canonical}, specs.Grammar.{contents_seen, heading_seen}}
use Rattle.fc_record.proofs.printing.CanonLinesPrintsRecord.print.Goals as goal

pub returns : goal.returns
returns g c =
    let laws = g.met.R.Rule.rule_laws in
    let board = c.args.contents.board in
    let ensured = c.canon_passage-passage.ensures in
    let passage = one_chosen g.R.Rule.game g.R.Rule.renamings board c.canon_passage-passage.result _ ensured.chosen (chosen_passage-Chosen laws board ensured.well_formed) in
    let least = ap (λ passage. text_of (carried passage board)) passage ∙ chosen-text laws board in
    record {
      printed = made_canonical c.push_images.result g.R.Rule.renamings c.canon_passage-passage.result c.args.number (heading_seen g.R.Rule.VARIANT c.args.heading) (contents_seen c.args.contents)
          _ _ _ _ _ _ (g.met.R.Rule.named.renamings_are _ refl) least passage
          (rw c.VARIANT.ensures at c.in_ok-push_heading.ensures.printed) c.in_ok-push_text.ensures.printed c.in_ok-push_passage.ensures.printed c.push_images.ensures.printed;
    }
