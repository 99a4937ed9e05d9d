use Rattle.std.proofs.{Common.{◌∙◌, All, ap, arith, length, subst, sym}, lemmas.List.Elements.{All-tail}}
use Rattle.std.specs.Option.{option_map, unwrap_or}
use Rattle.fc_text.{proofs.NextLineLemmas.{line_within}, specs.{Left.{lines_left}, Lines.{IsPieceOf, piece_of}}}
use Rattle.fc_record.proofs.ContentsLemmas.{first_list-here, first_list-later}
use Rattle.fc_record.proofs.record.body.first_list_line.Goals as goal

pub returns-then-is_list-clause-value : goal.returns-then-is_list-clause-value
returns-then-is_list-clause-value c =
    let here = first_list-here _ _ (piece_of c.in-Some.line) c.in-Some.ensures.steps (sym c.is_list.ensures ∙ c.if-is_list.true) in
    sym (ap (λ found. unwrap_or (option_map (λ line. line.start) found) (length c.args.body.now)) (c.loop-line.invariant.first ∙ here))

pub returns-then-is_list-clause-within : goal.returns-then-is_list-clause-within
returns-then-is_list-clause-within c =
    let inside = line_within c.args.body.now _ (piece_of c.in-Some.line) _ c.loop-line.invariant.places c.in-Some.ensures.steps in
    omega (arith, inside)

pub loop-line-preserved : goal.loop-line-preserved
loop-line-preserved c = record {
  places = All-tail (IsPieceOf 0 c.args.body.now) (piece_of c.in-Some.line) (lines_left c.next.new.self)
      (subst (All (IsPieceOf 0 c.args.body.now)) c.in-Some.ensures.steps c.loop-line.invariant.places);
  first = c.loop-line.invariant.first ∙ first_list-later _ _ (piece_of c.in-Some.line) c.in-Some.ensures.steps (sym c.is_list.ensures ∙ c.if-is_list.false);
}
