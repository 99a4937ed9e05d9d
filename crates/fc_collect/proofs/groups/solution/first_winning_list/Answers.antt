use Rattle.std.proofs.Common.{◌∙◌, ◌≡◌, false, map-id, None, subst, sym, true}
use Rattle.std.proofs.lemmas.Iterator.{Adapters.{YieldsList-from_vec}, Consumers.{YieldsList-so_far, YieldsList-turn}}
use Rattle.std.specs.List.{find}
use Rattle.{fc_board.specs.{Moves.{MoveList}, Play.{list_verdict}}, fc_record.specs.Tables.{is_win}}
use Rattle.fc_collect.proofs.ShareLemmas.{find-first, find-none_more}
use Rattle.fc_collect.proofs.groups.solution.first_winning_list.Goals as goal

pub returns-then-wins-clause-first : goal.returns-then-wins-clause-first
returns-then-wins-clause-first g c =
    let test = λ (moves : MoveList). is_win (list_verdict g.R.Rule.game c.args.board.now moves) in
    let lists = YieldsList-from_vec {s = c.into_iter-list-iterator.result} c.args.lists.items (cc) (cc) in
    let so_far = YieldsList-so_far lists c.loop-list.yielded c.loop-list.list-iterator c.loop-list.yielded_by in
    let turn = YieldsList-turn lists c.loop-list.yielded c.loop-list.list-iterator c.loop-list.yielded_by c.next.result c.next.new.self c.in-Some.list c.in-Some.is c.next.ensures.steps in
    let before = subst (λ xs. find test xs ≡ None) (sym (map-id c.loop-list.yielded) ∙ so_far) c.loop-list.invariant in
    let won : test c.in-Some.list ≡ true = sym c.wins.ensures ∙ c.if-wins.true in
    sym (find-first test c.args.lists.items _ c.in-Some.list before turn.0 turn.1 won)

pub loop-list-preserved-else-wins : goal.loop-list-preserved-else-wins
loop-list-preserved-else-wins g c =
    let test = λ (moves : MoveList). is_win (list_verdict g.R.Rule.game c.args.board.now moves) in
    let lost : test c.in-Some.list ≡ false = sym c.wins.ensures ∙ c.if-wins.false in
    find-none_more test c.loop-list.yielded c.in-Some.list c.loop-list.invariant lost

pub loop-list-preserved : goal.loop-list-preserved
loop-list-preserved g c =
    let test = λ (moves : MoveList). is_win (list_verdict g.R.Rule.game c.args.board.now moves) in
    let lost : test c.in-Some.list ≡ false = sym c.wins.ensures ∙ c.if-wins.false in
    find-none_more test c.loop-list.yielded c.in-Some.list c.loop-list.invariant lost
