use Rattle.std.proofs.{Common.{◌∙◌, sym}, lemmas.Result.{err_from_is_err_and}}
use Rattle.fc_text.proofs.KeptLemmas.{count-grows, IsKept-height, repeats_home, takes_home}
use Rattle.fc_text.proofs.board.reader.Reader.take_foundation.Goals as goal

pub invariant_of-self-2 : goal.invariant_of-self-2
invariant_of-self-2 g c = IsKept-height c.self.inside.kept c.self.invariant _ _ _ (count-grows _ _ _ _ c.mark_foundation.ensures)

pub returns-in_err-mark_foundation : goal.returns-in_err-mark_foundation
returns-in_err-mark_foundation g c =
    let kept = c.self.inside.kept in
    let spelled = sym c.in-Some.ensures.spelled in
    let unnamed = sym c.is_named.ensures ∙ c.if-is_named.false in
    let p = err_from_is_err_and c.from_residual.result c.from_residual.ensures.1 in
    rw (p.1, p.2, ← c.self.view_is, c.in_err-mark_foundation.ensures.1)
    (record { taken = repeats_home kept g.R.Rule.game c.args.word.now c.in-Some.foundation spelled unnamed c.in_err-mark_foundation.ensures.0 })

pub returns : goal.returns
returns g c =
    let kept = c.self.inside.kept in
    let spelled = sym c.in-Some.ensures.spelled in
    let unnamed = sym c.is_named.ensures ∙ c.if-is_named.false in
    rw (← c.self.view_is, c.from.ensures) (record { taken = takes_home kept g.R.Rule.game c.args.word.now c.in-Some.foundation spelled unnamed c.mark_foundation.new.seen c.in_ok-mark_foundation.ensures })
