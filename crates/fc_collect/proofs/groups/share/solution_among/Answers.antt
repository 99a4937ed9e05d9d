-- The list is of the variant's game.
use Rattle.std.proofs.Common.{◌∙◌, ap, refl, subst, sym}
use Rattle.fc_board.specs.{Games.{game_of}, Moves.{ListFits}}
use Rattle.fc_collect.proofs.groups.share.solution_among.Goals as goal

pub invariant_of-result : goal.invariant_of-result
invariant_of-result g c =
    record { fit = subst (λ game. ListFits game c.in_ok-list.list) (g.met.R.Rule.named.game_is _ refl ∙ ap game_of (sym c.any_passage.ensures.variant)) c.in_ok-list.ensures.fits }
