use Rattle.std.{proofs.Common.{◌++◌, ◌∙◌, [], ap₂, refl}, specs.{List.{flat_map}, Option.{option_to_list}}}
use Rattle.fc_import.specs.Import.{in_cells}
use Rattle.fc_import.proofs.cards.line_of_cells.Goals as goal

pub returns-clause-cards : goal.returns-clause-cards
returns-clause-cards g c = c.in_ok-push_end.ensures [] (in_cells c.args.board.now) (c.in_ok-push_cells.ensures
    ∙ ap₂ (λ old cells. old ++ flat_map option_to_list cells) c.in_ok-cards.ensures.items c.cells-cells.ensures.value) refl
