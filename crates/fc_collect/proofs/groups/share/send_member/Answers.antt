use Rattle.std.proofs.lemmas.Result.{err_from_is_err_and}
use Rattle.fc_collect.{proofs.WritingLemmas.{SendingFits-printed, SendsSome-none}, specs.Groups.{member_lines}}
use Rattle.fc_collect.proofs.groups.share.send_member.Goals as goal

pub returns-in_err-push_member-clause-sent : goal.returns-in_err-push_member-clause-sent
returns-in_err-push_member-clause-sent g c said owner holds keeps alike =
    let p = err_from_is_err_and c.from_residual.result c.from_residual.ensures.1 in
    rw (p.1, p.2) (tt, SendsSome-none (member_lines owner said) _ _)

pub returns-clause-sent : goal.returns-clause-sent
returns-clause-sent g c said owner holds keeps alike =
    SendingFits-printed (member_lines owner said) _ _ _ _ _ c.write_full.result (c.in_ok-push_member.ensures.printed said owner holds keeps alike) c.write_full.ensures.bytes
