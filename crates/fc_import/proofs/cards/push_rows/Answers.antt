use Rattle.std.{proofs.Common.{◌++◌, ◌∙◌, ap, arith, List, rules, ℕ}, specs.List.{flat_map}}
use Rattle.fc_card.specs.{places}
use Rattle.fc_import.proofs.TakingLemmas.{all_places, no_part, none_later, one_place, past_rows}
use Rattle.fc_import.specs.{Import.{in_row}, inside.{part}}
use Rattle.fc_import.proofs.cards.push_rows.Goals as goal

pub loop-place-preserved : goal.loop-place-preserved
loop-place-preserved g c =
    let of : ℕ → List ℕ = λ row. part c.args.are_ended (in_row c.args.board.now row) in
    one_place of 52 c.loop-place.place c.loop-place.cards.items _ (c.args.cards.now.items ++ flat_map of (places 52))
    c.loop-place-test.true c.loop-place.invariant
    (c.in_ok-push_end.ensures c.loop-place.cards.items (in_row c.args.board.now c.loop-place.place) c.in_ok-push_row.ensures (search rules))

pub returns-then-are_past : goal.returns-then-are_past
returns-then-are_past g c =
    let columns = c.args.board.now.columns in
    let of : ℕ → List ℕ = λ row. part c.args.are_ended (in_row c.args.board.now row) in
    none_later of 52 52 c.loop-place.place (omega arith)
    (λ later after. ap (part c.args.are_ended) (past_rows columns c.loop-place.place later after (c.are_past.ensures c.if-are_past.true)) ∙ no_part c.args.are_ended)
    c.loop-place.cards.items (c.args.cards.now.items ++ flat_map of (places 52)) c.loop-place.invariant

pub returns : goal.returns
returns g c =
    let of : ℕ → List ℕ = λ row. part c.args.are_ended (in_row c.args.board.now row) in
    all_places of 52 c.loop-place.place c.loop-place.cards.items (c.args.cards.now.items ++ flat_map of (places 52))
    (omega (arith, c.loop-place-test.false)) c.loop-place.invariant
