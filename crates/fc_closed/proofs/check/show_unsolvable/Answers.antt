use Rattle.std.{proofs.Common.{◌≤◌, arith, refl, subst}, specs.List.{Contains}}
use Rattle.fc_closed.proofs.KeysLemmas.{ascend_at, doubted, one_key, shown_unsolvable}
use Rattle.fc_closed.proofs.check.show_unsolvable.Goals as goal

pub find_key-requires : goal.find_key-requires
find_key-requires g c = ascend_at g.R.Rule.game g.R.Rule.renamings c.args.keys.now (c.in-Ok.ensures.closed.0 refl).0

pub returns-in-Ok-clause-shown : goal.returns-in-Ok-clause-shown
returns-in-Ok-clause-shown g c =
    let laws = g.met.R.Rule.rule_laws in
    let few : g.R.Rule.game.cells ≤ 8 = omega (arith, laws.cells_are, laws.at_most_eight) in
    let has = c.key_of.ensures c.args.board.now c.in-Some.ensures.board in (
      λ ok. (c.key_of.result, has, c.find_key.ensures.found.0 ok, c.in-Ok.ensures.closed.0 refl),
      λ (key, has', inside, are).
          c.find_key.ensures.found.1 (subst (Contains c.args.keys.now) (one_key g.R.Rule.game g.R.Rule.renamings few c.args.board.now key c.key_of.result has' has) inside),
    )

pub returns-in-Ok-clause-unsolvable : goal.returns-in-Ok-clause-unsolvable
returns-in-Ok-clause-unsolvable g c = λ ok.
    let laws = g.met.R.Rule.rule_laws in
    let few : g.R.Rule.game.cells ≤ 8 = omega (arith, laws.cells_are, laws.at_most_eight) in
    let has = c.key_of.ensures c.args.board.now c.in-Some.ensures.board in
    shown_unsolvable laws few c.args.board.now c.args.keys.now (c.key_of.result, has, c.find_key.ensures.found.0 ok, c.in-Ok.ensures.closed.0 refl)

pub returns-in-Ok-clause-doubt : goal.returns-in-Ok-clause-doubt
returns-in-Ok-clause-doubt g c =
    doubted g.R.Rule.game g.R.Rule.renamings c.args.board.now c.args.keys.now c.key_of.result c.find_key.result (c.in-Ok.ensures.closed.0 refl)
    (c.key_of.ensures c.args.board.now c.in-Some.ensures.board) c.find_key.ensures.found c.find_key.ensures.absent
