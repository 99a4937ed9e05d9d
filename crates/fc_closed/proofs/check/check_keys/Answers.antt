use Rattle.std.proofs.Common.{◌≤◌, arith, refl}
use Rattle.fc_closed.proofs.KeysLemmas.{key_unsolvable, not_closed}
use Rattle.fc_closed.proofs.check.check_keys.Goals as goal

pub check_play-requires : goal.check_play-requires
check_play-requires g c = c.in-Ok.ensures.keys refl

pub returns-in-Ok-clause-unsolvable : goal.returns-in-Ok-clause-unsolvable
returns-in-Ok-clause-unsolvable g c = λ ok.
    let laws = g.met.R.Rule.rule_laws in
    let few : g.R.Rule.game.cells ≤ 8 = omega (arith, laws.cells_are, laws.at_most_eight) in
    key_unsolvable laws few c.args.keys.now (c.check_play.ensures.closed.0 ok)

pub returns-in-Err-clause-closed : goal.returns-in-Err-clause-closed
returns-in-Err-clause-closed g c =
    let laws = g.met.R.Rule.rule_laws in
    let few : g.R.Rule.game.cells ≤ 8 = omega (arith, laws.cells_are, laws.at_most_eight) in
    (λ no. absurd (cc), λ are. absurd (not_closed g.R.Rule.game g.R.Rule.renamings few c.args.keys.now c.in-Err.found.place c.in-Err.found.flaw c.in-Err.ensures.flaw are))
