use Rattle.{arrayvec.specs.ArrayVec.{ArrayVec}, fc_board.proofs.CountedLemmas.{AreCountsOf-next}}
use Rattle.std.proofs.Common.{◌∙◌, ap, arith, sym, ℕ}
use Rattle.fc_board.proofs.deck.cards_of_columns.Goals as goal

pub loop-column-preserved : goal.loop-column-preserved
loop-column-preserved c =
    let cards = c.as_slice.ensures.value ∙ ap (λ (column : ArrayVec ℕ). column.items) (sym c.column-item.is) in
    AreCountsOf-next (λ (column : ArrayVec ℕ). column.items) c.args.columns.now c.loop-column.column-index c.column-item.result c.loop-column.cards c.insert_all.new.self
    (omega (arith, c.loop-column-test.true, c.type_inv.columns)) c.column-item.is c.loop-column.invariant
    (rw cards at c.insert_all.ensures.counted)
    (rw cards at c.insert_all.ensures.in_deck)
