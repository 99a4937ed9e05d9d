use Rattle.std.proofs.Common.{◌≡◌, arith, length, refl, subst}
use Rattle.fc_closed.{proofs.KeysLemmas.{keys_more}, specs.{AreKeysTo}}
use Rattle.fc_closed.proofs.check.check_order.Goals as goal

pub loop-place-preserved : goal.loop-place-preserved
loop-place-preserved g c =
    keys_more g.R.Rule.game g.R.Rule.renamings c.args.keys.now c.loop-place.place c.loop-place.invariant (c.in_default.ensures.key refl) (c.in_default.ensures.above refl)

pub returns-clause-keys : goal.returns-clause-keys
returns-clause-keys g c = λ _.
    let all : c.loop-place.place ≡ length c.args.keys.now = omega (arith, c.loop-place-test.false, c.loop-place.auto.place-end) in
    subst (AreKeysTo g.R.Rule.game g.R.Rule.renamings c.args.keys.now) all c.loop-place.invariant
