use Rattle.{fc_text.specs.Lines.{Piece}, std.proofs.{Common.{All, subst, sym}, lemmas.List.Elements.{All-cons}}}
use Rattle.fc_import.specs.inside.{IsAside}
use Rattle.fc_import.proofs.quiet.are_aside.Goals as goal

pub loop-line-preserved : goal.loop-line-preserved
loop-line-preserved g c = λ all. c.loop-line.invariant (subst (All (λ (line : Piece). IsAside c.args.aside g.R.Rule.game line.bytes)) (sym c.in-Some.ensures.steps)
    (All-cons (λ (line : Piece). IsAside c.args.aside g.R.Rule.game line.bytes) _ _ (c.in_ok-is_aside.ensures c.if-not-branch.false) all))
