use Rattle.std.proofs.{Common.{◌≡◌, ◌≤◌, arith, length, refl, subst}, lemmas.List.{get_or_default}}
use Rattle.fc_closed.proofs.KeysLemmas.{ascend_at, closed_keys, holds_at, in_play, not_closed, shut_more}
use Rattle.fc_closed.specs.{AreShutTo, IsShut}
use Rattle.fc_closed.proofs.check.check_play.Goals as goal

pub flaw_in_play-requires-clause-board : goal.flaw_in_play-requires-clause-board
flaw_in_play-requires-clause-board g c =
    holds_at g.R.Rule.game g.R.Rule.renamings c.args.keys.now c.requires c.loop-place.place _ c.loop-place-test.true

pub flaw_in_play-requires-clause-above : goal.flaw_in_play-requires-clause-above
flaw_in_play-requires-clause-above g c = ascend_at g.R.Rule.game g.R.Rule.renamings c.args.keys.now c.requires

pub loop-place-preserved : goal.loop-place-preserved
loop-place-preserved g c =
    shut_more g.R.Rule.game g.R.Rule.renamings c.args.keys.now c.loop-place.place c.loop-place.invariant (λ default.
    subst (IsShut g.R.Rule.game g.R.Rule.renamings c.args.keys.now) (get_or_default c.args.keys.now c.loop-place.place _ default c.loop-place-test.true) (c.in_default.ensures.shut refl))

pub returns-clause-closed : goal.returns-clause-closed
returns-clause-closed g c =
    let laws = g.met.R.Rule.rule_laws in
    let few : g.R.Rule.game.cells ≤ 8 = omega (arith, laws.cells_are, laws.at_most_eight) in
    let all : c.loop-place.place ≡ length c.args.keys.now = omega (arith, c.loop-place-test.false, c.loop-place.auto.place-end) in
    let (boards, held, closed) = closed_keys g.R.Rule.game g.R.Rule.renamings few c.args.keys.now (subst (AreShutTo g.R.Rule.game g.R.Rule.renamings c.args.keys.now) all c.loop-place.invariant) in
    (λ _. (c.requires, boards, held, closed), λ _. refl)

pub returns-in-Some-clause-closed : goal.returns-in-Some-clause-closed
returns-in-Some-clause-closed g c =
    let laws = g.met.R.Rule.rule_laws in
    let few : g.R.Rule.game.cells ≤ 8 = omega (arith, laws.cells_are, laws.at_most_eight) in
    let flawed = in_play g.R.Rule.game g.R.Rule.renamings c.args.keys.now c.loop-place.place _ c.requires c.loop-place.invariant c.loop-place-test.true c.in-Some.flaw (c.in-Some.ensures.flaw) in
    (λ no. absurd (cc), λ are. absurd (not_closed g.R.Rule.game g.R.Rule.renamings few c.args.keys.now c.loop-place.place c.in-Some.flaw flawed are))
