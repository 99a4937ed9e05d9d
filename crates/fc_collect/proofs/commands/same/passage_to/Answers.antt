-- The passage is found exactly where the members belong together.
use Rattle.std.proofs.Common.{◌∙◌, refl, sym}
use Rattle.fc_collect.proofs.SameLemmas.{passage-apart, passage-same}
use Rattle.fc_collect.proofs.commands.same.passage_to.Goals as goal

pub returns-in_err-own_canon : goal.returns-in_err-own_canon
returns-in_err-own_canon g c said member holds other there =
    c.from_residual.ensures
    ∙ sym (passage-apart said member (λ alike. c.in_err-own_canon.ensures.other refl (holds.variant ∙ alike ∙ other)))

pub returns : goal.returns
returns g c said member holds other there =
    let named = g.met.R.Rule.named in
    let own = c.in_ok-own_canon.ensures in
    let from = c.passage_from.ensures in
    passage-same said member g.R.Rule.VARIANT g.R.Rule.game g.R.Rule.renamings (named.game_is _ refl) (named.renamings_are _ refl) (sym holds.variant ∙ own.variant) other _ _ _ _ own.text own.passage holds.canon
    _ there from.well_formed c.passage_from.result from.equivalent from.passage
