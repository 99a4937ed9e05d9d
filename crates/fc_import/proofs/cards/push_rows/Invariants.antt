use Rattle.std.{proofs.Common.{◌++◌, ◌≡◌, drop}, specs.List.{flat_map}}
use Rattle.{fc_card.specs.{places}, fc_import.specs.{Import.{in_row}, inside.{part}}}
use Rattle.fc_import.proofs.cards.push_rows.Given as goal

abbrev pub invariant-loop-place : goal.invariant-loop-place
invariant-loop-place g l =
    l.cards.items ++ flat_map (λ row. part l.are_ended (in_row l.board row)) (drop l.place (places 52))
    ≡ l.fn.cards.items ++ flat_map (λ row. part l.are_ended (in_row l.board row)) (places 52)
