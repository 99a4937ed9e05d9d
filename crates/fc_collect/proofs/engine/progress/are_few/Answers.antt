use Rattle.{fc_collect.proofs.LimitLemmas.{small_found}, std.proofs.{Common.{arith}, lemmas.Bool.{leb-true}}}
use Rattle.fc_collect.proofs.engine.progress.are_few.Goals as goal

pub returns-then-len-le-MOST_RECORD_BYTES : goal.returns-then-len-le-MOST_RECORD_BYTES
returns-then-len-le-MOST_RECORD_BYTES c is_short =
    small_found c.args.limits c.args.progress c.args.held.now c.args.searched c.in-Some.len c.in-Some.ensures
    (omega (arith, c.if-progress-limits.false, c.if-held-limits.false)) (omega (arith, c.if-len-le-MOST_RECORD_BYTES.true)) (leb-true _ _ is_short)
