use Rattle.std.proofs.{Common.{◌≡◌, arith, length, subst}, lemmas.List.{get_or_default}}
use Rattle.fc_bytes.{proofs.PassageDecoded.{keys_next}, specs.{HasKey, HaveKeys}}
use Rattle.fc_bytes.proofs.calls.keys.keys_of.Goals as goal

pub loop-at-preserved : goal.loop-at-preserved
loop-at-preserved g c = record {
  keys = keys_next g.R.Rule.game g.R.Rule.renamings c.args.boards.now c.loop-at.boards c.loop-at.at c.key_of.new.key c.loop-at.invariant.keys c.loop-at-test.true
      (λ default. subst (λ board. HasKey g.R.Rule.game g.R.Rule.renamings board c.key_of.new.key)
      (get_or_default c.loop-at.boards c.loop-at.at _ default (omega (arith, c.loop-at-test.true, c.loop-at.invariant.keys.0))) (c.key_of.ensures.done c.if-key_of-ne-DONE.false));
  place = c.loop-at.invariant.place;
}

pub returns-clause-done : goal.returns-clause-done
returns-clause-done g c = λ _.
    let all : c.loop-at.at ≡ length c.args.boards.now = omega (arith, c.loop-at-test.false, c.loop-at.auto.at-end) in
    subst (HaveKeys g.R.Rule.game g.R.Rule.renamings c.args.boards.now c.loop-at.boards) all c.loop-at.invariant.keys
