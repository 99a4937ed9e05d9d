use Rattle.{fc_card.specs.{AreCountsOf}, std.{proofs.Common.{take}, specs.List.{flat_map}}}
use Rattle.fc_board.proofs.deck.cards_of_columns.Given as goal

abbrev pub invariant-loop-column : goal.invariant-loop-column
invariant-loop-column l = AreCountsOf l.cards (flat_map (λ column. column.items) (take l.column-index l.columns))
