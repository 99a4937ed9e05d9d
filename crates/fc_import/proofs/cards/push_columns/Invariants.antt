use Rattle.std.{proofs.Common.{◌++◌, ◌≡◌, drop}, specs.List.{flat_map}}
use Rattle.fc_import.specs.Words.{ended}
use Rattle.fc_import.proofs.cards.push_columns.Given as goal

abbrev pub invariant-loop-index : goal.invariant-loop-index
invariant-loop-index g l =
    l.cards.items ++ flat_map ended (drop l.index l.board.columns)
    ≡ l.fn.cards.items ++ flat_map ended l.board.columns
