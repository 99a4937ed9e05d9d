use Rattle.std.{proofs.Common.{◌<◌, ◌∙◌, arith, length}, specs.Option.{option_to_list}}
use Rattle.fc_card.proofs.CardSetLemmas.{AreCounted-nil, AreCounted-one}
use Rattle.fc_board.proofs.CountedLemmas.{AreCounted-next}
use Rattle.fc_board.proofs.deck.count_cells.Goals as goal
use Rattle.fc_board.proofs.deck.count_cells.Goals.{in-Some, in_default}

pub loop-cell-preserved : goal.loop-cell-preserved
loop-cell-preserved c =
    let within : c.loop-cell.cell-index < length c.args.cells.now = omega arith in
    let one_more = AreCounted-next option_to_list c.args.cells.now c.loop-cell.cell-index c.cell-item.result c.args.cards.now c.loop-cell.cards c.match-cell.cards within
    c.cell-item.is c.loop-cell.invariant in
    elim c.match-cell.branch [
      | in-Some w ↦ one_more (rw (c.cell-item.is ∙ w.in-Some.is, w.cards-is) (AreCounted-one _ _ _ w.insert.ensures.counted w.insert.ensures.in_deck))
      | in_default w ↦ one_more (rw (c.cell-item.is ∙ w.in_default.is, w.cards-is) (AreCounted-nil _))
    ]
