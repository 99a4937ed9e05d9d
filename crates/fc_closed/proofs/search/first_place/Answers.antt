use Rattle.std.proofs.Common.{◌+◌, ◌-◌, ◌/◌, ◌<◌, arith}
use Rattle.{fc_bytes.specs.{all_bytes}, fc_closed.proofs.SearchLemmas.{after_less, before_more}}
use Rattle.fc_closed.proofs.search.first_place.Goals as goal

pub loop-first-preserved-then-is_less : goal.loop-first-preserved-then-is_less
loop-first-preserved-then-is_less c =
    let first = c.loop-first.first in
    let end = c.loop-first.end in
    let middle = first + (end - first) / 2 in
    let inside : middle < end = omega (arith, c.loop-first-test.true) in
    record {
      low = omega (arith, inside);
      high = c.loop-first.invariant.high;
      before =
          before_more c.args.keys.now (all_bytes c.args.key.now) middle _ (omega (arith, inside, c.loop-first.invariant.high)) (c.is_less.ensures.0 c.if-is_less.true);
      after = c.loop-first.invariant.after;
    }

pub loop-first-preserved : goal.loop-first-preserved
loop-first-preserved c =
    let first = c.loop-first.first in
    let end = c.loop-first.end in
    let middle = first + (end - first) / 2 in
    let inside : middle < end = omega (arith, c.loop-first-test.true) in
    record {
      low = omega arith;
      high = omega (arith, inside, c.loop-first.invariant.high);
      before = c.loop-first.invariant.before;
      after =
          after_less c.args.keys.now (all_bytes c.args.key.now) middle _ (omega (arith, inside, c.loop-first.invariant.high))
          (λ less. let yes = c.is_less.ensures.1 less in let no = c.if-is_less.false in cc);
    }
