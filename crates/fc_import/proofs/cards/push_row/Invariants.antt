use Rattle.std.{proofs.Common.{◌++◌, ◌≡◌, drop}, specs.{List.{flat_map}, Option.{option_to_list}, Prelude.{slice_get}}}
use Rattle.fc_import.specs.Import.{in_row}
use Rattle.fc_import.proofs.cards.push_row.Given as goal

abbrev pub invariant-loop-index : goal.invariant-loop-index
invariant-loop-index g l =
    l.cards.items ++ flat_map (λ column. option_to_list (slice_get column l.place)) (drop l.index l.board.columns)
    ≡ l.fn.cards.items ++ in_row l.board l.place
