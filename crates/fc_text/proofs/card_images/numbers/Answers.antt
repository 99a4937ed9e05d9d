use Rattle.{fc_text.proofs.BoardViewLemmas.{all-codes, numbered-next, zeros-small}, std.proofs.Common.{arith, refl}}
use Rattle.fc_text.proofs.card_images.numbers.Goals as goal

pub loop-number-init : goal.loop-number-init
loop-number-init c = record {
  numbered = λ card below. absurd (omega (arith, below));
  all = zeros-small 64;
  long = refl;
}

pub loop-number-preserved : goal.loop-number-preserved
loop-number-preserved c = numbered-next c.loop-number.numbers c.loop-number.number c.from.result c.loop-number-test.true c.from.ensures c.loop-number.invariant

pub returns-clause-codes : goal.returns-clause-codes
returns-clause-codes c = all-codes c.loop-number.numbers c.loop-number.invariant.all
