use Rattle.std.proofs.Common.{◌∙◌, ap, IfErr, subst, sym}
use Rattle.{fc_board.specs.{Moves.{OneCard, Runs}, Play.{RefusedAt}}, fc_record.specs.inside.Fitting.{list_seen}}
use Rattle.fc_record.proofs.record.move_list.MoveList.play_on.Goals as goal

pub returns-in-OneCard-clause-refused : goal.returns-in-OneCard-clause-refused
returns-in-OneCard-clause-refused g c =
    let board = c.args.board.now in
    subst (λ list. IfErr c.play.result (λ fault. RefusedAt g.R.Rule.game board list fault.index fault.fault))
    (ap OneCard c.as_slice.ensures.value ∙ ap list_seen (sym c.in-OneCard.is) ∙ c.self.view_is) c.play.ensures.refused

pub returns-in-Runs-clause-refused : goal.returns-in-Runs-clause-refused
returns-in-Runs-clause-refused g c =
    let board = c.args.board.now in
    subst (λ list. IfErr c.play_runs.result (λ fault. RefusedAt g.R.Rule.game board list fault.index fault.fault))
    (ap Runs c.as_slice-in-Runs.ensures.value ∙ ap list_seen (sym c.in-Runs.is) ∙ c.self.view_is) c.play_runs.ensures.refused
