use Rattle.std.proofs.{Common.{◌∙◌, ◌≤◌, arith, length, List, min, sym, take, ℕ}, lemmas.List.{length-take}}
use Rattle.fc_record.proofs.{ContentsLemmas.{fault_within}, PrintedPartLemmas.{part_spells, part_starts, part_text}}
use Rattle.fc_record.proofs.record.body.read_contents.Goals as goal

short : (k : ℕ) (bytes : List ℕ) → length (take k bytes) ≤ length bytes
short k bytes = let long = length-take k bytes in omega (arith, long, least k (length bytes))
  where
    least : (m n : ℕ) → min m n ≤ n
    least m n = omega arith

pub overflow_add-result : goal.overflow_add-result
overflow_add-result g c =
    let inside = fault_within g.R.Rule.game (take c.lists_start-start.result c.args.body.now) c.in-Err.fault c.in-Err.ensures.fault in
    omega (arith, inside, short c.lists_start-start.result c.args.body.now, c.requires)

pub returns-in-Err-clause-small : goal.returns-in-Err-clause-small
returns-in-Err-clause-small g c =
    let inside = fault_within g.R.Rule.game (take c.lists_start-start.result c.args.body.now) c.in-Err.fault c.in-Err.ensures.fault in
    omega (arith, inside, short c.lists_start-start.result c.args.body.now, c.requires)

pub with_lists-requires-clause-start : goal.with_lists-requires-clause-start
with_lists-requires-clause-start g c =
    part_starts g.R.Rule.game c.in-Some.board c.args.body.now c.take_printed.new.text.now c.in-Some.ensures.well_formed c.in-Some.ensures.printed
    (sym c.ends_board.ensures ∙ c.if-ends_board.true)

pub with_lists-requires-clause-board : goal.with_lists-requires-clause-board
with_lists-requires-clause-board g c =
    part_spells g.R.Rule.game c.in-Some.board c.args.body.now c.take_printed.new.text.now c.in-Some.ensures.well_formed c.in-Some.ensures.printed

pub with_lists-requires-clause-printed : goal.with_lists-requires-clause-printed
with_lists-requires-clause-printed g c = part_text c.in-Some.board c.args.body.now c.take_printed.new.text.now c.in-Some.ensures.printed
