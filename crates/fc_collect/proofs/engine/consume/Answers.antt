-- What was printed is pending, and some of it went out.
use Rattle.std.proofs.lemmas.Result.{err_from_is_err_and}
use Rattle.fc_collect.{proofs.PrintingLemmas.{TakeUpFault-failed}, specs.inside.{printed_after}}
use Rattle.fc_collect.specs.Records.{outputs_after}
use Rattle.fc_collect.proofs.engine.consume.Goals as goal

pub returns-in_err-write_out-clause-bytes : goal.returns-in_err-write_out-clause-bytes
returns-in_err-write_out-clause-bytes g c seen held_seen =
    let p = err_from_is_err_and c.from_residual-in_err-write_out.result c.from_residual-in_err-write_out.ensures.1 in
    let sent = c.in_err-write_out.ensures.bytes in
    rw (p.1, p.2)
    (TakeUpFault-failed c.args.config.limits (outputs_after (printed_after g.C.Refusal.PrintsRefusal.text g.C.Command.lines c.args.config.variant) seen) c.args.printed.now.progress _ c.args.window.now c.args.searched _ _ _ _ _ _ c.as_slice-held.ensures c.requires.none
    (c.is_allowed.ensures.0 c.if-not-is_allowed.false) (c.in_ok-front.ensures.sent seen held_seen) sent.0 sent.1)
