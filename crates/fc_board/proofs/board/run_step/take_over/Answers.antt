use Rattle.std.proofs.Common.{◌+◌, ◌-◌, ◌∙◌, ◌≤◌, [], ap, arith, get_or, length, List, set, subst, sym, take, ℕ}
use Rattle.fc_board.{proofs.MoveInPlace.{room_over}, specs.{inside.{size_of}, Steps.{last_cards}}}
use Rattle.fc_board.proofs.board.run_step.take_over.Goals as goal

pub put_on-requires-clause-room : goal.put_on-requires-clause-room
put_on-requires-clause-room c =
    let columns = c.args.columns.now in
    let is =
    c.last_cards-run.ensures ∙ ap (last_cards c.args.count) (c.column.ensures.value ∙ ap (λ place. get_or columns place []) c.from.ensures) in
    let run = c.as_slice.ensures.value ∙ is in
    let shorter =
    c.take_off.ensures ∙
    ap (λ place. set columns place (take (length (get_or columns place []) - c.args.count) (get_or columns place []))) c.from-2.ensures in
    subst (λ (left : List (List ℕ)). size_of left + length c.as_slice.result.now ≤ 52) (sym shorter)
    (room_over columns c.args.from c.args.count c.as_slice.result.now (omega (arith, c.requires.columns.0, c.requires.eight)) c.requires.there c.requires.room run)
