use Rattle.{fc_board.{proofs.RunStepLemmas.{expanded_fit}, specs.Moves.{Fits}}, std.proofs.Common.{All, subst, sym}}
use Rattle.fc_bytes.proofs.calls.runs.expand_of.Goals as goal

pub put_moves-requires : goal.put_moves-requires
put_moves-requires g c =
    subst (All (Fits g.R.Rule.game)) (sym c.as_slice.ensures.value)
    (expanded_fit g.R.Rule.game c.in-Some.held c.in-Some-run.one c.in-Ok.steps.items c.in-Ok.ensures.expands)
