-- A write that took some bytes brings the loop on, and one that took none or failed leaves the rest of the text unwritten.
use Rattle.std.proofs.Common.{◌-◌, ◌∙◌, arith, drop, length, length-drop, length-take, take, take-append-drop}
use Rattle.std.proofs.KnownBytes.{Appends-kept}
use Rattle.fc_collect.proofs.{WindowLemmas.{one_more_if-moved}, WritingLemmas.{Appends-more, Appends-none}}
use Rattle.fc_collect.specs.Streams.{counts_of}
use Rattle.fc_collect.proofs.engine.writing.write_bytes.Goals as goal

pub loop-at-preserved : goal.loop-at-preserved
loop-at-preserved g c =
    record {
      within = omega (arith, c.in-Ok.ensures.bound, length-drop c.loop-at.at c.args.text.now, length-take (length c.args.text.now - c.loop-at.at) (drop c.loop-at.at c.args.text.now));
      written = Appends-more _ _ _ c.args.text.now c.loop-at.at c.in-Ok.taken c.loop-at.invariant.written c.in-Ok.ensures.bytes;
      counts = record { failures = c.in-Ok.ensures.failures ∙ one_more_if-moved (counts_of c.loop-at.output).failures c.in-Ok.taken _ c.if-taken-eq0.false ∙ c.loop-at.invariant.counts.failures; fills = omega (arith, c.in-Ok.ensures.fills); ends = omega (arith, c.in-Ok.ensures.ends); flushes = omega (arith, c.in-Ok.ensures.flushes) };
    }

pub returns-in_default-clause-bytes : goal.returns-in_default-clause-bytes
returns-in_default-clause-bytes g c = record {
  written = take c.loop-at.at c.args.text.now;
  appended = Appends-kept _ _ _ _ c.loop-at.invariant.written c.in_default.ensures.bytes;
  fits = (drop c.loop-at.at c.args.text.now, take-append-drop c.loop-at.at c.args.text.now);
}

pub returns-then-taken-eq0-clause-bytes : goal.returns-then-taken-eq0-clause-bytes
returns-then-taken-eq0-clause-bytes g c = record {
  written = take c.loop-at.at c.args.text.now;
  appended = Appends-none _ _ _ _ c.loop-at.invariant.written (rw c.if-taken-eq0.true at c.in-Ok.ensures.bytes);
  fits = (drop c.loop-at.at c.args.text.now, take-append-drop c.loop-at.at c.args.text.now);
}
