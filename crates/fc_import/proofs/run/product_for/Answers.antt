use Rattle.std.proofs.Common.{◌++◌, ◌∙◌, ap, refl, subst, sym}
use Rattle.fc_collect.specs.{Limits.{standard}, Promises.{IsWithinLimits}}
use Rattle.fc_import.proofs.CollectionLemmas.{shown_within, written_shown}
use Rattle.fc_import.proofs.RunLemmas.{collection_made, imported_as, nothing_made, unshown_made}
use Rattle.fc_import.specs.{Import.{no_board_line, refused_by}, inside.{state_of}}
use Rattle.fc_import.proofs.run.product_for.Goals as goal

pub returns-then-is_nothing : goal.returns-then-is_nothing
returns-then-is_nothing g c = λ bytes text_is.
    let made = c.in_ok-made.made in
    let imported = imported_as g.R.Rule.VARIANT c.args.options (state_of {R = g.row.R.Denot} made) made.written.items
    made.notes.items (g.met.R.Rule.named.game_is g.R.Rule.VARIANT refl) text_is c.in_ok-made.ensures.made c.in_ok-made.ensures.kept in
    let product = c.in_ok-product.product in
    nothing_made g.R.Rule.VARIANT c.args.options bytes product.written.items product.said.items product.summary
    (state_of {R = g.row.R.Denot} made) made.written.items made.notes.items imported
    (c.is_nothing.ensures.nothing c.if-is_nothing.true).0 (c.is_nothing.ensures.nothing c.if-is_nothing.true).1
    c.in_ok-product.ensures.written
    (c.in_ok-product.ensures.said ∙ ap (λ said. said ++ no_board_line) c.in_ok-notes.ensures)
    c.in_ok-product.ensures.records c.in_ok-product.ensures.refused

pub returns-then-not-is_within_limits : goal.returns-then-not-is_within_limits
returns-then-not-is_within_limits g c = λ bytes text_is.
    let made = c.in_ok-made.made in
    let imported = imported_as g.R.Rule.VARIANT c.args.options (state_of {R = g.row.R.Denot} made) made.written.items
    made.notes.items (g.met.R.Rule.named.game_is g.R.Rule.VARIANT refl) text_is c.in_ok-made.ensures.made c.in_ok-made.ensures.kept in
    let product = c.in_ok-product-2.product in
    unshown_made g.R.Rule.VARIANT c.args.options bytes product.written.items product.said.items product.summary
    (state_of {R = g.row.R.Denot} made) made.written.items made.notes.items imported
    (λ records shown.
    let within = subst (IsWithinLimits standard) (sym c.as_slice.ensures.value) (shown_within g.R.Rule.VARIANT made.written.items records shown) in
    absurd (let yes = c.is_within_limits.ensures.1 within in let no = c.if-not-is_within_limits.true in cc))
    c.in_ok-product-2.ensures.written c.in_ok-product-2.ensures.said c.in_ok-product-2.ensures.records c.in_ok-product-2.ensures.refused

pub returns : goal.returns
returns g c = λ bytes text_is.
    let made = c.in_ok-made.made in
    let imported = imported_as g.R.Rule.VARIANT c.args.options (state_of {R = g.row.R.Denot} made) made.written.items
    made.notes.items (g.met.R.Rule.named.game_is g.R.Rule.VARIANT refl) text_is c.in_ok-made.ensures.made c.in_ok-made.ensures.kept in
    let within = subst (IsWithinLimits standard) c.as_slice.ensures.value (c.is_within_limits.ensures.0 c.if-not-is_within_limits.false) in
    collection_made g.R.Rule.VARIANT c.args.options bytes made.written.items _ _ (state_of {R = g.row.R.Denot} made)
    made.notes.items made.tally.boards _ imported
    (written_shown g.R.Rule.VARIANT imported.imported within)
    (c.is_nothing.ensures.some c.if-is_nothing.false)
    (c.refused_by-refused.ensures ∙ ap (refused_by c.args.options.noted made.tally) c.as_slice-2.ensures.value)
    c.in_ok-with_tally.ensures c.summary_of-summary.ensures.records c.summary_of-summary.ensures.refused
