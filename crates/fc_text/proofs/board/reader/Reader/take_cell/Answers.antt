use Rattle.std.proofs.{Common.{◌<◌, ◌≤◌, arith, sym, ℕ}, lemmas.Result.{err_from_is_err_and}}
use Rattle.fc_text.proofs.KeptLemmas.{count-grows, IsKept-cell, repeats_cell, takes_cell}
use Rattle.fc_text.proofs.board.reader.Reader.take_cell.Goals as goal

pub invariant_of-self-2 : goal.invariant_of-self-2
invariant_of-self-2 g c =
    let room = rw c.CELLS.ensures at c.if-self-CELLS.false in
    rw c.put_cell.ensures (IsKept-cell c.self.inside.kept c.self.invariant c.in-Some.cell _ (count-grows _ _ _ _ c.mark_cell.ensures) room)

below_eight : (words limit : ℕ) → words < limit → limit ≤ 8 → words < 8
below_eight words limit room few = omega (arith, room, few)

pub put_cell-requires : goal.put_cell-requires
put_cell-requires g c = below_eight _ _ (rw c.CELLS.ensures at c.if-self-CELLS.false) g.met.R.Rule.rule_laws.at_most_eight

pub returns-in_err-mark_cell : goal.returns-in_err-mark_cell
returns-in_err-mark_cell g c =
    let laws = g.met.R.Rule.rule_laws in
    let room = rw c.CELLS.ensures at c.if-self-CELLS.false in
    let spelled = sym c.in-Some.ensures in
    let p = err_from_is_err_and c.from_residual.result c.from_residual.ensures.1 in
    rw (p.1, p.2, ← c.self.view_is, c.in_err-mark_cell.ensures.1)
    (record { taken = repeats_cell c.self.inside.kept c.self.invariant g.R.Rule.game laws.cells_are laws.at_most_eight room c.args.word.now c.in-Some.cell spelled c.in_err-mark_cell.ensures.0 })

pub returns : goal.returns
returns g c =
    let laws = g.met.R.Rule.rule_laws in
    let room = rw c.CELLS.ensures at c.if-self-CELLS.false in
    let spelled = sym c.in-Some.ensures in
    rw (← c.self.view_is, c.put_cell.ensures)
    (record { taken = takes_cell c.self.inside.kept c.self.invariant g.R.Rule.game laws.cells_are laws.at_most_eight room c.args.word.now c.in-Some.cell spelled c.mark_cell.new.seen c.in_ok-mark_cell.ensures })
