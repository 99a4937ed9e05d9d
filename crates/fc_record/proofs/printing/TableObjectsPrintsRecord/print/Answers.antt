use Rattle.std.proofs.Common.{◌∙◌, refl}
use Rattle.fc_canon.proofs.CanonicalLemmas.{one_canonical}
use Rattle.fc_canon.proofs.LeastTextLemmas.{chosen_passage-Chosen, least_text-Canonical, one_chosen}
use Rattle.fc_record.{proofs.ObjectLemmas.{objected}, specs.Grammar.{contents_seen, heading_seen}}
use Rattle.fc_record.proofs.printing.TableObjectsPrintsRecord.print.Goals as goal

pub returns : goal.returns
returns g c =
    let laws = g.met.R.Rule.rule_laws in
    let board = c.args.contents.board in
    let ensured = c.canon_text-least.ensures in
    let least = one_canonical g.R.Rule.game board c.canon_text-least.result.text.items _ ensured.canonical (least_text-Canonical laws board ensured.well_formed) in
    let passage = one_chosen g.R.Rule.game g.R.Rule.renamings board c.canon_text-least.result.passage _ ensured.chosen (chosen_passage-Chosen laws board ensured.well_formed) in
    let text = c.as_slice.ensures.value ∙ least in
    let lists = rw c.as_slice-2.ensures.value at c.push_list_members.ensures.printed in
    record {
      printed = objected c.push_list_members.result g.R.Rule.game g.R.Rule.renamings c.canon_text-least.result.passage c.args.number (heading_seen g.R.Rule.VARIANT c.args.heading) (contents_seen c.args.contents)
          _ _ _ c.as_slice.result.now _ (g.met.R.Rule.named.game_is _ refl) (g.met.R.Rule.named.renamings_are _ refl) text passage
          (rw c.VARIANT.ensures at c.in_ok-push_board_members.ensures.printed) c.in_ok-push_passage_members.ensures.printed lists;
    }
