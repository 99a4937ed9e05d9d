-- The moves are copied, in the form that the list has.
use Rattle.std.proofs.Common.{◌∙◌, ap, sym}
use Rattle.{fc_board.specs.Moves.{OneCard, Runs}, fc_record.specs.inside.Fitting.{list_seen}}
use Rattle.fc_record.proofs.record.move_list.MoveList.copy.Goals as goal

pub returns-in_ok-copy_of-in-OneCard : goal.returns-in_ok-copy_of-in-OneCard
returns-in_ok-copy_of-in-OneCard c =
    c.one_card.ensures ∙ ap OneCard (c.in_ok-copy_of-in-OneCard.ensures ∙ c.as_slice.ensures.value)
    ∙ ap list_seen (sym c.in-OneCard.is) ∙ c.self.view_is

pub returns-in_ok-copy_of-in-Runs : goal.returns-in_ok-copy_of-in-Runs
returns-in_ok-copy_of-in-Runs c =
    c.runs.ensures ∙ ap Runs (c.in_ok-copy_of-in-Runs.ensures ∙ c.as_slice-in-Runs.ensures.value)
    ∙ ap list_seen (sym c.in-Runs.is) ∙ c.self.view_is
