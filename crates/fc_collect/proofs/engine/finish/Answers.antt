-- The last text and the end were pending, and some of them went out.
use Rattle.std.proofs.{Common.{◌++◌, ◌+◌, ◌∙◌, ap, ap₂, if◌then◌else◌}, lemmas.Result.{err_from_is_err_and}}
use Rattle.fc_collect.proofs.PrintingLemmas.{Finishes-begun, Finishes-ended, Finishes-failed, Finishes-whole}
use Rattle.fc_collect.proofs.PrintingLemmas.{next_number-records, Sends-same, SendsSome-same, summary-is}
use Rattle.fc_collect.specs.{Closed.{refused_with}, Groups.{members_among}, inside.{ended, printed_after, text_at}}
use Rattle.fc_collect.specs.Records.{if_record, outputs_after}
use Rattle.fc_collect.proofs.engine.finish.Goals as goal

pub returns-in_err-take_text-clause-bytes : goal.returns-in_err-take_text-clause-bytes
returns-in_err-take_text-clause-bytes g c seen held_seen number refused =
    let p = err_from_is_err_and c.from_residual.result c.from_residual.ensures.1 in
    let sent = c.in_err-take_text.ensures.sent seen held_seen in
    rw (p.1, p.2)
    (Finishes-begun c.args.config.limits.number (outputs_after (printed_after g.C.Refusal.PrintsRefusal.text g.C.Command.lines c.args.config.variant) seen) (refused_with g.C.Command.fails c.args.config.variant (seen ++ if_record (text_at c.args.printed.now.progress c.args.held.now))) (ended g.C.Command.ending c.args.config.variant) seen c.args.printed.now.progress (text_at c.args.printed.now.progress c.args.held.now) _ _ _ _
    c.requires.none sent.0 sent.1)

pub returns-in_err-failed-clause-bytes : goal.returns-in_err-failed-clause-bytes
returns-in_err-failed-clause-bytes g c seen held_seen number refused =
    let p = err_from_is_err_and c.from_residual-in_err-failed.result c.from_residual-in_err-failed.ensures.1 in
    let text = text_at c.args.printed.now.progress c.args.held.now in
    let records = c.summary-summary.ensures.records ∙ c.in_ok-take_text.ensures.passed.number ∙ next_number-records text in
    let refusals = c.summary-summary.ensures.refused ∙ c.in_ok-take_text.ensures.printed.refused in
    let same = summary-is c.args.config.variant c.args.config.limits.number c.args.printed.now.progress.number c.args.printed.now.progress.refused seen (if_record text) c.summary-summary.result records refusals number refused in
    let kept = c.in_ok-take_text.ensures.printed.keeps seen held_seen in
    let members = members_among c.args.config.variant (seen ++ if_record text) in
    let sent = c.in_err-failed.ensures.sent members kept in
    let some = SendsSome-same (ap (λ summary. g.C.Command.ending summary members) same) sent.1 in
    rw (p.1, p.2)
    (Finishes-ended c.args.config.limits.number (outputs_after (printed_after g.C.Refusal.PrintsRefusal.text g.C.Command.lines c.args.config.variant) seen) (refused_with g.C.Command.fails c.args.config.variant (seen ++ if_record (text_at c.args.printed.now.progress c.args.held.now))) (ended g.C.Command.ending c.args.config.variant) seen c.args.printed.now.progress text _ _ _ _ _ _
    c.requires.none (c.in_ok-take_text.ensures.sent seen held_seen) sent.0 some)

pub returns-in_err-write_text-clause-bytes : goal.returns-in_err-write_text-clause-bytes
returns-in_err-write_text-clause-bytes g c seen held_seen number refused =
    let p = err_from_is_err_and c.from_residual-in_err-write_text.result c.from_residual-in_err-write_text.ensures.1 in
    let text = text_at c.args.printed.now.progress c.args.held.now in
    let records = c.summary-summary.ensures.records ∙ c.in_ok-take_text.ensures.passed.number ∙ next_number-records text in
    let refusals = c.summary-summary.ensures.refused ∙ c.in_ok-take_text.ensures.printed.refused in
    let same = summary-is c.args.config.variant c.args.config.limits.number c.args.printed.now.progress.number c.args.printed.now.progress.refused seen (if_record text) c.summary-summary.result records refusals number refused in
    let kept = c.in_ok-take_text.ensures.printed.keeps seen held_seen in
    let members = members_among c.args.config.variant (seen ++ if_record text) in
    let sent = Sends-same (ap (λ summary. g.C.Command.ending summary members) same) (c.in_ok-failed.ensures.sent members kept) in
    rw (p.1, p.2)
    (Finishes-failed c.args.config.limits.number (outputs_after (printed_after g.C.Refusal.PrintsRefusal.text g.C.Command.lines c.args.config.variant) seen) (refused_with g.C.Command.fails c.args.config.variant (seen ++ if_record (text_at c.args.printed.now.progress c.args.held.now))) (ended g.C.Command.ending c.args.config.variant) seen c.args.printed.now.progress text _ _ _ _ _ _ _ _ _
    c.requires.none (c.in_ok-take_text.ensures.sent seen held_seen) sent c.as_slice.ensures.value c.in_err-write_text.ensures.bytes)

pub returns-clause-bytes : goal.returns-clause-bytes
returns-clause-bytes g c seen held_seen number refused =
    let text = text_at c.args.printed.now.progress c.args.held.now in
    let records = c.summary-summary.ensures.records ∙ c.in_ok-take_text.ensures.passed.number ∙ next_number-records text in
    let refusals = c.summary-summary.ensures.refused ∙ c.in_ok-take_text.ensures.printed.refused in
    let same = summary-is c.args.config.variant c.args.config.limits.number c.args.printed.now.progress.number c.args.printed.now.progress.refused seen (if_record text) c.summary-summary.result records refusals number refused in
    let kept = c.in_ok-take_text.ensures.printed.keeps seen held_seen in
    let members = members_among c.args.config.variant (seen ++ if_record text) in
    let sent = Sends-same (ap (λ summary. g.C.Command.ending summary members) same) (c.in_ok-failed.ensures.sent members kept) in
    Finishes-whole c.args.config.limits.number (outputs_after (printed_after g.C.Refusal.PrintsRefusal.text g.C.Command.lines c.args.config.variant) seen) (refused_with g.C.Command.fails c.args.config.variant (seen ++ if_record (text_at c.args.printed.now.progress c.args.held.now))) (ended g.C.Command.ending c.args.config.variant) seen c.args.printed.now.progress text _ _ _ _ _ _ _ _ c.with_failed.result
    c.requires.none (c.in_ok-take_text.ensures.sent seen held_seen) sent c.as_slice.ensures.value c.in_ok-write_text.ensures.bytes
    (ap (λ n. n + c.args.config.limits.number) c.with_failed.ensures.records ∙ records)
    (c.with_failed.ensures.refused ∙ ap₂ (λ failed n. if failed then n + 1 else n) (c.in_ok-failed.ensures.fails members kept) (ap (λ summary. summary.refused) same))
