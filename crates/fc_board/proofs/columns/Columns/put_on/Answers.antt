use Rattle.std.proofs.{Common.{◌∙◌, ◌≡◌, ap, arith, get_or, length, rules, subst, suc}, lemmas.List.{get_or_default}}
use Rattle.fc_board.proofs.ColumnsLemmas.{bounds_below, InMemory, last_within, put_ascend, put_columns}
use Rattle.fc_board.specs.inside.{AreIn, columns_between, raised}
use Rattle.fc_board.proofs.columns.Columns.put_on.Goals as goal

end_is : (c : goal.After-open-arg-1) → c.from-end.result ≡ get_or c.self.inside.bounds (suc c.args.i) 0
end_is c = c.from-end.ensures ∙ ap (λ place. get_or c.self.inside.bounds place 0) (omega arith)

last_is : (c : goal.After-open-arg-1) → c.from-last.result ≡ get_or c.self.inside.bounds 8 0
last_is c = c.from-last.ensures ∙ ap (λ place. get_or c.self.inside.bounds place 0) (omega arith)

pub open-requires : goal.open-requires
open-requires c =
    let is : InMemory c.self.inside.cards c.self.inside.bounds c.args.self.now c.args.i =
    record { same = c.self.view_is; nine = search rules; inside = omega (arith, c.requires.inside); deck = search rules; ascend = c.self.invariant } in
    let most = last_within _ _ _ _ is in
    let room = bounds_below _ _ _ _ is c.args.cards.now c.requires.room 8 (omega (arith, is.nine)) in
    (omega (arith, most.0, end_is c, last_is c), omega (arith, room, last_is c))

pub raise-requires-clause-room : goal.raise-requires-clause-room
raise-requires-clause-room c = λ k d small.
    let is : InMemory c.self.inside.cards c.self.inside.bounds c.args.self.now c.args.i =
    record { same = c.self.view_is; nine = search rules; inside = omega (arith, c.requires.inside); deck = search rules; ascend = c.self.invariant } in
    let most = bounds_below _ _ _ _ is c.args.cards.now c.requires.room k small in
    let same = get_or_default c.self.inside.bounds k d 0 small in
    omega (arith, most, same)

in_memory : (c : goal.After-raise) → InMemory c.self.inside.cards c.self.inside.bounds c.args.self.now c.args.i
in_memory c =
    record { same = c.self.view_is; nine = search rules; inside = omega (arith, c.requires.inside); deck = search rules; ascend = c.self.invariant }

bounds_are : (c : goal.After-raise) → c.raise.new.bounds ≡ raised (length c.args.cards.now) (suc c.args.i) c.self.inside.bounds
bounds_are c = c.raise.ensures ∙ ap (λ place. raised (length c.args.cards.now) place c.self.inside.bounds) (omega arith)

pub invariant_of-self : goal.invariant_of-self
invariant_of-self c = rw (bounds_are c) (put_ascend _ _ _ _ (in_memory c) c.args.cards.now c.requires.room)

pub returns : goal.returns
returns c =
    ap (columns_between c.open.new.cards) (bounds_are c) ∙
    put_columns _ _ _ _ (in_memory c) c.args.cards.now c.requires.room c.open.new.cards
    (subst (λ last. AreIn c.self.inside.cards c.open.new.cards (get_or c.self.inside.bounds (suc c.args.i) 0) last c.args.cards.now)
    (c.from-last.ensures ∙ ap (λ place. get_or c.self.inside.bounds place 0) (omega arith))
    (subst (λ end. AreIn c.self.inside.cards c.open.new.cards end c.from-last.result c.args.cards.now)
    (c.from-end.ensures ∙ ap (λ place. get_or c.self.inside.bounds place 0) (omega arith)) c.open.ensures))
