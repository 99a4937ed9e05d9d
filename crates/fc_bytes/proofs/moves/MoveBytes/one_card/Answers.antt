use Rattle.std.proofs.Common.{◌∙◌, ◌≤◌, arith, sym}
use Rattle.fc_bytes.proofs.MovesDecoded.{named_move, named_source, named_target}
use Rattle.fc_bytes.proofs.moves.MoveBytes.one_card.Goals as goal

pub returns-in_err-from-clause-no_move : goal.returns-in_err-from-clause-no_move
returns-in_err-from-clause-no_move g c = λ _ mv holds.
    let laws = g.met.R.Rule.rule_laws in
    let few : g.R.Rule.game.cells ≤ 8 = omega (arith, laws.cells_are, laws.at_most_eight) in
    let there = sym c.in_err-from.was ∙ c.source_named.ensures ∙ named_source g.R.Rule.game c.args.self mv few holds in
    absurd (cc)

pub returns-in_err-to-clause-no_move : goal.returns-in_err-to-clause-no_move
returns-in_err-to-clause-no_move g c = λ _ mv holds.
    let laws = g.met.R.Rule.rule_laws in
    let few : g.R.Rule.game.cells ≤ 8 = omega (arith, laws.cells_are, laws.at_most_eight) in
    let there = sym c.in_err-to.was ∙ c.target_named.ensures ∙ named_target g.R.Rule.game c.args.self mv few holds in
    absurd (cc)

pub returns-clause-one_card : goal.returns-clause-one_card
returns-clause-one_card g c =
    named_move g.R.Rule.game c.args.self c.in_ok-from.from c.in_ok-to.to (sym c.source_named.ensures ∙ c.in_ok-from.was) (sym c.target_named.ensures ∙ c.in_ok-to.was)
