-- Each turn keeps what holds between turns, and each exit fits it.
use Rattle.std.proofs.{Common.{◌∙◌, ap, arith, length}, lemmas.Result.{err_from_is_err_and}}
use Rattle.fc_collect.proofs.RunLemmas.{begun_later, begun_number, bytes_none, counts_failed, counts_none, filled_none}
use Rattle.fc_collect.proofs.RunLemmas.{finish_bytes, finish_counts, held_total, next_turn, run_of, small_begun}
use Rattle.fc_collect.proofs.{RunLemmas.{take_up_bytes, take_up_counts}, WindowLemmas.{GrowsBy-ended, GrowsBy-given}}
use Rattle.fc_collect.specs.{inside.{ended, printed_after, Remembers}, Records.{finished_from, outputs_after}}
use Rattle.fc_collect.specs.Streams.{inner_of}
use Rattle.fc_collect.proofs.engine.run_records.Goals as goal

pub returns-in_err-window-clause-read_counted : goal.returns-in_err-window-clause-read_counted
returns-in_err-window-clause-read_counted g c =
    let p = err_from_is_err_and c.from_residual.result c.from_residual.ensures.1 in
    rw (p.1, p.2) (counts_none c.args.config.limits c.args.input.now)

pub returns-in_err-window-clause-wrote : goal.returns-in_err-window-clause-wrote
returns-in_err-window-clause-wrote g c =
    let p = err_from_is_err_and c.from_residual.result c.from_residual.ensures.1 in
    rw (p.1, p.2)
    (bytes_none (run_of g.C.Refusal.PrintsRefusal.text g.C.Command.lines g.C.Command.fails c.args.config.variant c.args.config.limits) c.requires.limits
    (ended g.C.Command.ending c.args.config.variant) _ _)

pub returns-in_err-pending-clause-read_counted : goal.returns-in_err-pending-clause-read_counted
returns-in_err-pending-clause-read_counted g c =
    let p = err_from_is_err_and c.from_residual-in_err-pending.result c.from_residual-in_err-pending.ensures.1 in
    rw (p.1, p.2) (counts_none c.args.config.limits c.args.input.now)

pub returns-in_err-pending-clause-wrote : goal.returns-in_err-pending-clause-wrote
returns-in_err-pending-clause-wrote g c =
    let p = err_from_is_err_and c.from_residual-in_err-pending.result c.from_residual-in_err-pending.ensures.1 in
    rw (p.1, p.2)
    (bytes_none (run_of g.C.Refusal.PrintsRefusal.text g.C.Command.lines g.C.Command.fails c.args.config.variant c.args.config.limits) c.requires.limits
    (ended g.C.Command.ending c.args.config.variant) _ _)

pub fill-requires : goal.fill-requires
fill-requires g c =
    let i = c.loop-turn.invariant in
    (small_begun c.args.config.limits i.read c.loop-turn.window c.loop-turn.printed.progress i.within i.begins).bytes

pub returns-in_default-clause-read_counted : goal.returns-in_default-clause-read_counted
returns-in_default-clause-read_counted g c =
    let e = c.in_default.ensures in
    counts_failed c.args.config.limits c.args.input.now c.loop-turn.input c.fill.new.input c.loop-turn._turn c.requires.input_low (omega arith) c.loop-turn.invariant.reads e.failures e.fills e.ends e.flushes

pub finish-requires-clause-few : goal.finish-requires-clause-few
finish-requires-clause-few g c =
    let i = c.loop-turn.invariant in
    let same = c.as_slice.ensures ∙ filled_none _ _ _ _ _ c.if-given-eq0.true c.in-Ok.ensures.bytes in
    omega (arith, ap length same, held_total c.args.config.limits i.read c.loop-turn.window c.loop-turn.printed.progress i.begins, i.within.bytes)

pub finish-requires-clause-small : goal.finish-requires-clause-small
finish-requires-clause-small g c =
    let i = c.loop-turn.invariant in
    omega (arith, c.requires.limits.records, (small_begun c.args.config.limits i.read c.loop-turn.window c.loop-turn.printed.progress i.within i.begins).number)

pub finish-requires-clause-later : goal.finish-requires-clause-later
finish-requires-clause-later g c =
    let i = c.loop-turn.invariant in
    begun_later c.args.config.limits i.read c.loop-turn.window c.loop-turn.printed.progress i.begins

pub returns-then-given-eq0-clause-read_counted : goal.returns-then-given-eq0-clause-read_counted
returns-then-given-eq0-clause-read_counted g c =
    let e = c.in-Ok.ensures in
    finish_counts c.args.config.limits c.args.input.now c.fill.new.input c.loop-turn._turn _ _ _ _ _ _ c.finish.result (omega arith)
    (GrowsBy-ended c.args.input.now c.loop-turn.input c.fill.new.input c.loop-turn._turn c.in-Ok.given c.requires.input_low c.if-given-eq0.true c.loop-turn.invariant.reads e.failures e.fills e.ends e.flushes)
    (c.finish.ensures.bytes (finished_from c.args.config.limits c.loop-turn.invariant.read) c.loop-turn.invariant.holds
    (begun_number c.args.config.limits c.loop-turn.invariant.read c.loop-turn.window c.loop-turn.printed.progress c.loop-turn.invariant.begins) c.loop-turn.invariant.refused)

pub returns-then-given-eq0-clause-wrote : goal.returns-then-given-eq0-clause-wrote
returns-then-given-eq0-clause-wrote g c =
    finish_bytes _ (ended g.C.Command.ending c.args.config.variant) _ _ _ _ _ _ _ _ c.finish.result c.loop-turn.invariant c.if-given-eq0.true c.in-Ok.ensures.bytes c.as_slice.ensures c.finish.ensures.bytes

pub consume-requires-clause-few : goal.consume-requires-clause-few
consume-requires-clause-few g c = let i = c.loop-turn.invariant in omega (arith, held_total c.args.config.limits i.read c.loop-turn.window c.loop-turn.printed.progress i.begins, i.within.bytes)

pub returns-in_err-consume-clause-read_counted : goal.returns-in_err-consume-clause-read_counted
returns-in_err-consume-clause-read_counted g c =
    let p = err_from_is_err_and c.from_residual-in_err-consume.result c.from_residual-in_err-consume.ensures.1 in
    let e = c.in-Ok.ensures in
    rw (p.1, p.2)
    (take_up_counts c.args.config.limits c.args.input.now c.fill.new.input c.loop-turn._turn (outputs_after (printed_after g.C.Refusal.PrintsRefusal.text g.C.Command.lines c.args.config.variant) (finished_from c.args.config.limits c.loop-turn.invariant.read))
    c.loop-turn.printed.progress c.fill.new.self (length c.as_slice-searched.result.now)
    (g.Wr.Write.contents (inner_of c.loop-turn.output)) (g.Wr.Write.contents (inner_of c.consume.new.output)) c.in_err-consume.field-0.0 (omega arith)
    (GrowsBy-given c.args.input.now c.loop-turn.input c.fill.new.input c.loop-turn._turn c.in-Ok.given c.requires.input_low (omega arith) c.if-given-eq0.false c.loop-turn.invariant.reads e.failures e.fills e.ends e.flushes)
    (c.in_err-consume.ensures.bytes (finished_from c.args.config.limits c.loop-turn.invariant.read) c.loop-turn.invariant.holds))

pub returns-in_err-consume-clause-wrote : goal.returns-in_err-consume-clause-wrote
returns-in_err-consume-clause-wrote g c =
    let p = err_from_is_err_and c.from_residual-in_err-consume.result c.from_residual-in_err-consume.ensures.1 in
    rw (p.1, p.2)
    (take_up_bytes _ (ended g.C.Command.ending c.args.config.variant) _ _ _ _ _ _ _ _ _ c.loop-turn.invariant c.in-Ok.ensures.bytes (ap length c.as_slice-searched.ensures) c.in_err-consume.ensures.bytes)

pub loop-turn-preserved : goal.loop-turn-preserved
loop-turn-preserved g c =
    let e = c.in-Ok.ensures in
    next_turn _ _ (Remembers g.C.Command.keeps c.args.config.variant c.consume.new.printed.kept) _ _ _ _ c.in-Ok.given _ c.loop-turn.invariant e.bytes (ap length c.as_slice-searched.ensures) c.in_ok-consume.ensures.bytes
    (GrowsBy-given c.args.input.now c.loop-turn.input c.fill.new.input c.loop-turn._turn c.in-Ok.given c.requires.input_low (omega arith) c.if-given-eq0.false c.loop-turn.invariant.reads e.failures e.fills e.ends e.flushes)
    c.in_ok-consume.ensures.counted
