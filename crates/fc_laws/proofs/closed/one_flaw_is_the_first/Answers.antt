use Rattle.std.proofs.Common.{◌≤◌, arith}
use Rattle.fc_closed.proofs.{FlawLemmas.{not_shown, one_flaw, one_place}, KeysLemmas.{not_closed}}
use Rattle.fc_laws.proofs.closed.one_flaw_is_the_first.Goals as goal

pub returns-clause-not_closed : goal.returns-clause-not_closed
returns-clause-not_closed g c =
    let laws = g.met.R.Rule.rule_laws in
    let few : g.R.Rule.game.cells ≤ 8 = omega (arith, laws.cells_are, laws.at_most_eight) in
    not_closed g.R.Rule.game g.R.Rule.renamings few

pub returns-clause-one_place : goal.returns-clause-one_place
returns-clause-one_place g c =
    let laws = g.met.R.Rule.rule_laws in
    let few : g.R.Rule.game.cells ≤ 8 = omega (arith, laws.cells_are, laws.at_most_eight) in
    one_place g.R.Rule.game g.R.Rule.renamings few

pub returns-clause-one_flaw : goal.returns-clause-one_flaw
returns-clause-one_flaw g c =
    let laws = g.met.R.Rule.rule_laws in
    let few : g.R.Rule.game.cells ≤ 8 = omega (arith, laws.cells_are, laws.at_most_eight) in
    one_flaw g.R.Rule.game g.R.Rule.renamings few

pub returns-clause-not_shown : goal.returns-clause-not_shown
returns-clause-not_shown g c =
    let laws = g.met.R.Rule.rule_laws in
    let few : g.R.Rule.game.cells ≤ 8 = omega (arith, laws.cells_are, laws.at_most_eight) in
    not_shown g.R.Rule.game g.R.Rule.renamings few
