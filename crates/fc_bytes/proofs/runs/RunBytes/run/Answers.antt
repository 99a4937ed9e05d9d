use Rattle.std.proofs.Common.{◌∙◌, ◌≤◌, arith, sym}
use Rattle.fc_bytes.proofs.MovesDecoded.{answered_none, answered_some, run_read}
use Rattle.fc_bytes.proofs.runs.RunBytes.run.Goals as goal

pub returns-in_err-from-clause-no_run : goal.returns-in_err-from-clause-no_run
returns-in_err-from-clause-no_run g c = λ _ run holds.
    let laws = g.met.R.Rule.rule_laws in
    let few : g.R.Rule.game.cells ≤ 8 = omega (arith, laws.cells_are, laws.at_most_eight) in
    let there = sym c.in_err-from.was ∙ c.source_named.ensures ∙ (run_read g.R.Rule.game c.args.self run few holds).source in
    absurd (cc)

pub returns-in_err-to-clause-no_run : goal.returns-in_err-to-clause-no_run
returns-in_err-to-clause-no_run g c = λ _ run holds.
    let laws = g.met.R.Rule.rule_laws in
    let few : g.R.Rule.game.cells ≤ 8 = omega (arith, laws.cells_are, laws.at_most_eight) in
    let there = sym c.in_err-to.was ∙ c.target_named.ensures ∙ (run_read g.R.Rule.game c.args.self run few holds).target in
    absurd (cc)

pub returns-clause-run : goal.returns-clause-run
returns-clause-run g c =
    answered_some g.R.Rule.game c.args.self c.in_ok-from.from c.in_ok-to.to (sym c.source_named.ensures ∙ c.in_ok-from.was) (sym c.target_named.ensures ∙ c.in_ok-to.was) _ c.run_decoded.ensures

pub returns-clause-no_run : goal.returns-clause-no_run
returns-clause-no_run g c =
    let laws = g.met.R.Rule.rule_laws in
    let few : g.R.Rule.game.cells ≤ 8 = omega (arith, laws.cells_are, laws.at_most_eight) in
    answered_none g.R.Rule.game c.args.self c.in_ok-from.from c.in_ok-to.to (sym c.source_named.ensures ∙ c.in_ok-from.was) (sym c.target_named.ensures ∙ c.in_ok-to.was) few _ c.run_decoded.ensures
