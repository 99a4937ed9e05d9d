use Rattle.std.proofs.lemmas.Result.{err_from_is_err_and}
use Rattle.fc_collect.{proofs.WritingLemmas.{SendsSome-none}, specs.Groups.{group_lines}}
use Rattle.fc_collect.proofs.commands.group.GroupLinesGathering.send_group.Goals as goal

pub returns-in_err-push_group-clause-sent : goal.returns-in_err-push_group-clause-sent
returns-in_err-push_group-clause-sent g c members keeps boards keyed =
    let p = err_from_is_err_and c.from_residual.result c.from_residual.ensures.1 in
    rw (p.1, p.2) (tt, SendsSome-none (group_lines members) _ _)
