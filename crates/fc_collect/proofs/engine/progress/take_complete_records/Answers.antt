-- The walk leads over each text, and the records among them are printed one after another.
use Rattle.std.proofs.{Common.{◌++◌, ◌∷◌, [], append-nil, arith, sym}, lemmas.List.{take_rest}}
use Rattle.std.proofs.lemmas.Result.{err_from_is_err_and}
use Rattle.fc_collect.proofs.PrintingLemmas.{Sends-texts, SendsSome-texts, Treats-nil, Treats-texts}
use Rattle.fc_collect.proofs.WalkLemmas.{small_more, taken, walks_first, walks_more, walks_on}
use Rattle.fc_collect.proofs.WritingLemmas.{Sends-none}
use Rattle.fc_collect.proofs.engine.progress.take_complete_records.Goals as goal

pub loop-len-init : goal.loop-len-init
loop-len-init g c = record {
  done = [];
  walks = walks_first c.args.printed.now.progress c.args.held.now c.args.searched c.requires.within;
  sent = λ seen holds. Sends-none [] c.args.printed.now.pending.items c.args.printed.now.pending.items _ (sym (append-nil c.args.printed.now.pending.items));
  printed = Treats-nil _ _ c.args.printed.now.progress;
  fewer = c.requires.fewer;
  counts = record { failures = omega arith; fills = omega arith; ends = omega arith; flushes = omega arith };
}

pub take_text-requires-clause-small : goal.take_text-requires-clause-small
take_text-requires-clause-small g c =
    let held = c.args.held.now in
    let front = c.loop-len.front in
    let (more, same) = walks_more c.args.printed.now.progress c.loop-len.printed.progress held _ _ c.args.searched front c.loop-len.from c.in-Some.len _
    c.loop-len.invariant.walks (take_rest held front) c.in-Some.ensures (taken held front c.in-Some.len) in
    omega (arith, c.requires.limits.records, (small_more c.args.config.limits c.args.printed.now.progress held c.args.searched _ more _ same c.requires.small).number)

pub returns-in_err-take_text-clause-sent : goal.returns-in_err-take_text-clause-sent
returns-in_err-take_text-clause-sent g c seen holds =
    let p = err_from_is_err_and c.from_residual.result c.from_residual.ensures.1 in
    let held = c.args.held.now in
    let front = c.loop-len.front in
    let (more, same) = walks_more c.args.printed.now.progress c.loop-len.printed.progress held _ _ c.args.searched front c.loop-len.from c.in-Some.len _
    c.loop-len.invariant.walks (take_rest held front) c.in-Some.ensures (taken held front c.in-Some.len) in
    let so_far = c.loop-len.invariant in
    let sent = c.in_err-take_text.ensures.sent _ (so_far.printed.keeps seen holds) in
    rw (p.1, p.2) (sent.0, SendsSome-texts _ seen _ more _ _ _ _ _ _ _ same (so_far.sent seen holds) sent.1)

pub loop-len-preserved : goal.loop-len-preserved
loop-len-preserved g c =
    let held = c.args.held.now in
    let front = c.loop-len.front in
    let so_far = c.loop-len.invariant in
    let e = c.in_ok-take_text.ensures in
    record {
      done = so_far.done ++ _ ∷ [];
      walks = walks_on c.args.printed.now.progress c.loop-len.printed.progress c.take_text.new.printed.progress held _ _ c.args.searched front c.loop-len.from c.in-Some.len so_far.done
          so_far.walks (take_rest held front) c.in-Some.ensures (taken held front c.in-Some.len) e.passed;
      sent = λ seen holds. Sends-texts _ seen so_far.done _ _ _ _ _ _ _ (so_far.sent seen holds) (e.sent _ (so_far.printed.keeps seen holds));
      printed = Treats-texts _ _ _ _ c.args.printed.now.progress c.loop-len.printed.progress c.take_text.new.printed.progress so_far.done _ so_far.printed e.printed;
      fewer = e.fewer;
      counts = record {
        failures = omega (arith, so_far.counts.failures, e.counted.failures);
        fills = omega (arith, so_far.counts.fills, e.counted.fills);
        ends = omega (arith, so_far.counts.ends, e.counted.ends);
        flushes = omega (arith, so_far.counts.flushes, e.counted.flushes);
      };
    }
