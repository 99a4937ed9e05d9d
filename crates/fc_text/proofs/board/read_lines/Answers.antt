use Rattle.std.proofs.{Common.{◌∙◌, All, arith, subst}, lemmas.{List.Elements.{All-tail}, Result.{err_from_is_err_and}}}
use Rattle.fc_text.proofs.LeavingLemmas.{left_of_left, next_line_at_fault, next_line_taken}
use Rattle.fc_text.{proofs.NextLineLemmas.{line_within}, specs.{Left.{lines_left}, Lines.{IsPieceOf, piece_of}}}
use Rattle.fc_text.proofs.board.read_lines.Goals as goal

pub read_line-requires : goal.read_line-requires
read_line-requires g c =
    omega (arith, line_within c.args.text.now _ (piece_of c.in-Some.line) _ c.loop-line.invariant.places c.in-Some.ensures.steps)

pub returns-in_err-read_line : goal.returns-in_err-read_line
returns-in_err-read_line g c =
    let p = err_from_is_err_and c.from_residual.result c.from_residual.ensures.1 in
    rw (p.1, p.2)
    (c.loop-line.invariant.items.faults
    ∙ next_line_at_fault g.R.Rule.game c.loop-line.reader _ (piece_of c.in-Some.line) _ _ c.in-Some.ensures.steps c.in_err-read_line.ensures)

pub loop-line-preserved : goal.loop-line-preserved
loop-line-preserved g c = record {
  places = All-tail (IsPieceOf 0 c.args.text.now) (piece_of c.in-Some.line) (lines_left c.next.new.self)
      (subst (All (IsPieceOf 0 c.args.text.now)) c.in-Some.ensures.steps c.loop-line.invariant.places);
  items = left_of_left c.loop-line.invariant.items
      (next_line_taken g.R.Rule.game c.loop-line.reader c.read_line.new.reader _ (piece_of c.in-Some.line) _ c.in-Some.ensures.steps
      c.in_ok-read_line.ensures.0 c.in_ok-read_line.ensures.1);
}
