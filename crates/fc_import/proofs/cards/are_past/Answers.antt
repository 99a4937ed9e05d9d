use Rattle.std.proofs.{Common.{◌≤◌, [], arith, length}, lemmas.List.Elements.{All-from_get_or}}
use Rattle.fc_import.proofs.cards.are_past.Goals as goal

pub returns : goal.returns
returns g c = λ yes.
    All-from_get_or (λ column. length column ≤ c.args.row) c.args.board.now.columns []
    (λ place inside. c.loop-index.invariant place
    (omega (arith, inside, c.loop-index-test.false, c.heights.ensures.well_formed.piles.eight_columns)))
