use Rattle.std.proofs.Common.{◌≡◌, arith}
use Rattle.fc_board.proofs.ColumnsLemmas.{IsMoving, IsMoving-on}
use Rattle.fc_board.proofs.columns.close.Goals as goal

pub returns : goal.returns
returns c =
    let old = c.args.cards.now in
    let first = c.move_down-at in
    let moving : IsMoving old first.new.cards c.args.end first.result c.args.count =
    record { out = first.ensures.moved; rest = first.ensures.rest; on = first.ensures.next.0 } in
    let second = c.move_down-at-2 in
    let moving2 = IsMoving-on old _ second.new.cards c.args.end _ second.result c.args.count c.requires.0 moving second.ensures.next.0 second.ensures.moved second.ensures.rest in
    let third = c.move_down-at-3 in
    let moving3 = IsMoving-on old _ third.new.cards c.args.end _ third.result c.args.count c.requires.0 moving2 third.ensures.next.0 third.ensures.moved third.ensures.rest in
    let fourth = c.move_down-at-4 in
    let moving4 = IsMoving-on old _ fourth.new.cards c.args.end _ fourth.result c.args.count c.requires.0 moving3 fourth.ensures.next.0 fourth.ensures.moved fourth.ensures.rest in
    let fifth = c.move_down-at-5 in
    let moving5 = IsMoving-on old _ fifth.new.cards c.args.end _ fifth.result c.args.count c.requires.0 moving4 fifth.ensures.next.0 fifth.ensures.moved fifth.ensures.rest in
    let sixth = c.move_down in
    let moving6 = IsMoving-on old _ sixth.new.cards c.args.end _ sixth.result c.args.count c.requires.0 moving5 sixth.ensures.next.0 sixth.ensures.moved sixth.ensures.rest in
    let next = sixth.ensures.next in
    let all : sixth.result ≡ c.args.last = omega (arith, next.1, next.2) in
    rw all at moving6.out
