use Rattle.std.proofs.Common.{◌∙◌, ◌≡◌, ap, arith, get_or, rules, subst, suc}
use Rattle.fc_board.proofs.ColumnsLemmas.{bound_within, count_there, InMemory, last_within, taken_ascend, taken_columns}
use Rattle.fc_board.specs.inside.{AreOut, columns_between, lowered}
use Rattle.fc_board.proofs.columns.Columns.take_off.Goals as goal

end_is : (c : goal.After-close-arg-1) → c.from-end.result ≡ get_or c.self.inside.bounds (suc c.args.i) 0
end_is c = c.from-end.ensures ∙ ap (λ place. get_or c.self.inside.bounds place 0) (omega arith)

last_is : (c : goal.After-close-arg-1) → c.from-last.result ≡ get_or c.self.inside.bounds 8 0
last_is c = c.from-last.ensures ∙ ap (λ place. get_or c.self.inside.bounds place 0) (omega arith)

pub close-requires : goal.close-requires
close-requires c =
    let is : InMemory c.self.inside.cards c.self.inside.bounds c.args.self.now c.args.i =
    record { same = c.self.view_is; nine = search rules; inside = omega (arith, c.requires.inside); deck = search rules; ascend = c.self.invariant } in
    let there = count_there _ _ _ _ is c.args.count c.requires.there in
    let most = last_within _ _ _ _ is in
    (omega (arith, there, end_is c), omega (arith, most.0, end_is c, last_is c), omega (arith, most.1, last_is c))

pub overflow_cast-count : goal.overflow_cast-count
overflow_cast-count c =
    let is : InMemory c.self.inside.cards c.self.inside.bounds c.args.self.now c.args.i =
    record { same = c.self.view_is; nine = search rules; inside = omega (arith, c.requires.inside); deck = search rules; ascend = c.self.invariant } in
    let there = count_there _ _ _ _ is c.args.count c.requires.there in
    let most = bound_within _ _ _ _ is in
    omega (arith, there, most)

in_memory : (c : goal.After-lower) → InMemory c.self.inside.cards c.self.inside.bounds c.args.self.now c.args.i
in_memory c =
    record { same = c.self.view_is; nine = search rules; inside = omega (arith, c.requires.inside); deck = search rules; ascend = c.self.invariant }

bounds_are : (c : goal.After-lower) → c.lower.new.bounds ≡ lowered c.args.count (suc c.args.i) c.self.inside.bounds
bounds_are c = c.lower.ensures ∙ ap (λ place. lowered c.args.count place c.self.inside.bounds) (omega arith)

pub invariant_of-self : goal.invariant_of-self
invariant_of-self c = rw (bounds_are c) (taken_ascend _ _ _ _ (in_memory c) c.args.count c.requires.there)

pub returns : goal.returns
returns c =
    ap (columns_between c.close.new.cards) (bounds_are c) ∙
    taken_columns _ _ _ _ (in_memory c) c.args.count c.requires.there c.close.new.cards
    (subst (λ last. AreOut c.self.inside.cards c.close.new.cards (get_or c.self.inside.bounds (suc c.args.i) 0) c.args.count last)
    (c.from-last.ensures ∙ ap (λ place. get_or c.self.inside.bounds place 0) (omega arith))
    (subst (λ end. AreOut c.self.inside.cards c.close.new.cards end c.args.count c.from-last.result)
    (c.from-end.ensures ∙ ap (λ place. get_or c.self.inside.bounds place 0) (omega arith)) c.close.ensures))
