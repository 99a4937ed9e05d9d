use Rattle.std.proofs.Common.{◌∙◌, subst, sym}
use Rattle.fc_board.specs.Boards.{HasEachCardOnce}
use Rattle.fc_deal.{proofs.DealtLemmas.{board_of_parts-dealt, count_by-deal, HasEachCardOnce-dealt}, specs.{deal}}
use Rattle.fc_deal.proofs.deals.deal_board.Goals as goal

pub unreachable-requires-in-Err : goal.unreachable-requires-in-Err
unreachable-requires-in-Err g c =
    let laws = g.met.R.Rule.rule_laws in
    let laid = board_of_parts-dealt _ _ _ _ _ _ laws.cells_are laws.at_most_eight c.in-Some.ensures.1 c.in_ok-deal.ensures.cards c.columns_of-columns.ensures in
    let once = HasEachCardOnce-dealt g.R.Rule.game.cells (deal c.args.number) (count_by-deal c.args.number) in
    let wrong = c.in-Err.ensures.deck.1 (subst HasEachCardOnce (sym laid) once) in
    absurd (cc)

pub returns-clause-dealt : goal.returns-clause-dealt
returns-clause-dealt g c =
    let laws = g.met.R.Rule.rule_laws in
    c.in-Ok.ensures.parts
    ∙ board_of_parts-dealt _ _ _ _ _ _ laws.cells_are laws.at_most_eight c.in-Some.ensures.1 c.in_ok-deal.ensures.cards c.columns_of-columns.ensures
