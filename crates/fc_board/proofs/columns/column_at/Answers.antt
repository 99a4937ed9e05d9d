use Rattle.std.proofs.Common.{◌∙◌, ◌≡◌, ◌≤◌, ap, arith, get_or, suc}
use Rattle.fc_board.proofs.ColumnsLemmas.{is_between, IsBetween}
use Rattle.fc_board.proofs.columns.column_at.Goals as goal
use Rattle.fc_board.proofs.columns.column_at.Goals.{After-from-end}

between : (c : After-from-end) → IsBetween c.args.bounds.now c.args.i
between c = is_between c.args.bounds.now c.args.i c.requires.ascend (omega (arith, c.requires.place))

end_is : (c : After-from-end) → c.from-end.result ≡ get_or c.args.bounds.now (suc c.args.i) 0
end_is c = c.from-end.ensures ∙ ap (λ place. get_or c.args.bounds.now place 0) (omega arith)

ascends : (c : After-from-end) → c.from-start.result ≤ c.from-end.result
ascends c = let within = (between c).begins in omega (arith, c.from-start.ensures, end_is c, within)

stops : (c : After-from-end) → c.from-end.result ≤ 52
stops c = let within = (between c).stops in omega (arith, end_is c, within)

pub slice_bounds-result-count : goal.slice_bounds-result-count
slice_bounds-result-count c = ascends c

pub slice_bounds-result-start : goal.slice_bounds-result-start
slice_bounds-result-start c = ascends c

pub slice_bounds-result-end : goal.slice_bounds-result-end
slice_bounds-result-end c = let within = stops c in omega (arith, within, c.requires.deck)
