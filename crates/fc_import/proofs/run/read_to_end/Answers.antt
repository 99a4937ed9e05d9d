use Rattle.std.proofs.{Common.{◌∙◌, ap, arith, length, Ok, subst, sym}, KnownBytes.{Consumes-nil}}
use Rattle.std.{proofs.lemmas.Result.{err_from_is_err_and}, specs.Io.KnownBytes.{Consumes}}
use Rattle.fc_import.proofs.RunLemmas.{all_read, counted_all, counted_end, counted_fault, counted_more, counted_none}
use Rattle.fc_import.proofs.RunLemmas.{given_up, grown_none, never_ended, read_on}
use Rattle.fc_import.proofs.run.read_to_end.Goals as goal

pub returns-in_err-room-clause-counted : goal.returns-in_err-room-clause-counted
returns-in_err-room-clause-counted g c =
    let p = err_from_is_err_and c.from_residual.result c.from_residual.ensures.1 in
    rw (p.1, p.2) (counted_none _ c.args.input.now c.args.input.now 0 (grown_none _) (omega arith))

pub loop-turn-init : goal.loop-turn-init
loop-turn-init g c = record {
  consumed = subst (Consumes _ _) (sym c.requires.none) (Consumes-nil _);
  few = omega (arith, ap length c.requires.none);
  counted = grown_none _;
}

pub read_more-requires-clause-failures_low : goal.read_more-requires-clause-failures_low
read_more-requires-clause-failures_low g c = omega (arith, c.requires.low.failures, c.loop-turn.invariant.counted.failures)

pub read_more-requires-clause-fills_low : goal.read_more-requires-clause-fills_low
read_more-requires-clause-fills_low g c = omega (arith, c.requires.low.fills, c.loop-turn-test.true, c.loop-turn.invariant.counted.fills)

pub read_more-requires-clause-ends_low : goal.read_more-requires-clause-ends_low
read_more-requires-clause-ends_low g c = omega (arith, c.requires.low.ends, c.loop-turn.invariant.counted.ends)

pub read_more-requires-clause-few : goal.read_more-requires-clause-few
read_more-requires-clause-few g c = c.loop-turn.invariant.few

pub returns-in-Ok-false-clause-counted : goal.returns-in-Ok-false-clause-counted
returns-in-Ok-false-clause-counted g c =
    counted_end _ _ _ _ c.loop-turn.invariant.counted c.loop-turn-test.true _ (c.in-Ok-false.is ∙ ap (λ more. Ok more) c.in-Ok-false.field-0-test) c.read_more.ensures.counted

pub returns-in-Ok-false-clause-read : goal.returns-in-Ok-false-clause-read
returns-in-Ok-false-clause-read g c =
    all_read _ _ _ _ _ _ c.read_more.ensures.bytes c.loop-turn.invariant.consumed c.loop-turn.invariant.few (c.in-Ok-false.is ∙ ap (λ more. Ok more) c.in-Ok-false.field-0-test)

pub returns-in-Err-clause-counted : goal.returns-in-Err-clause-counted
returns-in-Err-clause-counted g c =
    counted_fault _ _ _ _ c.loop-turn.invariant.counted c.loop-turn-test.true _ _ _ _ _ _ c.read_more.ensures.bytes c.in-Err.is c.read_more.ensures.counted

pub returns-in-Err-clause-read : goal.returns-in-Err-clause-read
returns-in-Err-clause-read g c = given_up _ _ _ _ _ _ c.read_more.ensures.bytes c.loop-turn.invariant.consumed _ c.in-Err.is

pub loop-turn-preserved : goal.loop-turn-preserved
loop-turn-preserved g c =
    let is = c.in-Ok-true.is ∙ ap (λ more. Ok more) c.in-Ok-true.field-0-test in
    let more = read_on _ _ _ _ _ _ c.read_more.ensures.bytes c.loop-turn.invariant.consumed is in
    record {
      consumed = more.0;
      few = more.1;
      counted = counted_more _ _ _ _ c.loop-turn.invariant.counted _ is c.read_more.ensures.counted;
    }

pub returns-clause-counted : goal.returns-clause-counted
returns-clause-counted g c = counted_all _ _ c.loop-turn.input _ c.loop-turn.invariant.counted (omega (arith, c.loop-turn.auto._turn-end))

pub returns-clause-read : goal.returns-clause-read
returns-clause-read g c = never_ended _ _ _ c.loop-turn.invariant.consumed c.loop-turn.invariant.few
