use Rattle.std.proofs.Common.{◌++◌, ◌+◌, ◌∙◌, ◌∷◌, ◌≡◌, [], All, ap, arith, map, rules, subst, sym}
use Rattle.std.proofs.lemmas.List.Elements.{All-append, All-cons, All-nil, All-tail}
use Rattle.fc_board.specs.Moves.{ListFits}
use Rattle.fc_text.{proofs.{LineLemmas.{lines_from-moved}, NextLineLemmas.{line_within}}, specs.Left.{lines_left}}
use Rattle.fc_text.specs.Lines.{IsPieceOf, lines_from, moved, piece_of}
use Rattle.fc_record.proofs.ContentsLemmas.{after_seen, after_seen-none, empty-skipped, list-read}
use Rattle.fc_record.specs.Grammar.{lists_of}
use Rattle.fc_record.proofs.record.body.read_lists.Goals as goal

pub loop-line-init : goal.loop-line-init
loop-line-init g c =
    let none : c.new-lists.result.items ≡ [] = search rules in
    let all : lines_left c.into_iter-line-iterator.result ≡ lines_from 0 c.args.text.now = search rules in
    let nowhere : c.args.place ≡ c.args.place + 0 = omega arith in
    record {
      places = search rules;
      fit = subst (All (ListFits g.R.Rule.game)) (sym none) (All-nil (ListFits g.R.Rule.game));
      read =
          ap (λ place. lists_of g.R.Rule.game (lines_from place c.args.text.now)) nowhere
          ∙ ap (lists_of g.R.Rule.game) (lines_from-moved c.args.place 0 c.args.text.now ∙ ap (map (moved c.args.place)) (sym all))
          ∙ sym (after_seen-none (lists_of g.R.Rule.game (map (moved c.args.place) (lines_left c.into_iter-line-iterator.result))))
          ∙ ap (λ seen. after_seen seen (lists_of g.R.Rule.game (map (moved c.args.place) (lines_left c.into_iter-line-iterator.result)))) (sym none);
    }

pub overflow_add-place : goal.overflow_add-place
overflow_add-place g c =
    let inside = line_within c.args.text.now _ (piece_of c.in-Some.line) _ c.loop-line.invariant.places c.in-Some.ensures.steps in
    omega (arith, inside, c.requires)

pub read_list-requires-clause-within : goal.read_list-requires-clause-within
read_list-requires-clause-within g c =
    let inside = line_within c.args.text.now _ (piece_of c.in-Some.line) _ c.loop-line.invariant.places c.in-Some.ensures.steps in
    omega (arith, inside, c.requires)

pub loop-line-preserved-else-is_err : goal.loop-line-preserved-else-is_err
loop-line-preserved-else-is_err g c =
    let pushed : c.push.new.self.items ≡ c.loop-line.lists.items ++ c.in_ok-list.list ∷ [] = search rules in
    record {
      places = All-tail (IsPieceOf 0 c.args.text.now) (piece_of c.in-Some.line) (lines_left c.next.new.self)
          (subst (All (IsPieceOf 0 c.args.text.now)) c.in-Some.ensures.steps c.loop-line.invariant.places);
      fit = subst (All (ListFits g.R.Rule.game)) (sym pushed)
          (All-append (ListFits g.R.Rule.game) c.loop-line.lists.items (c.in_ok-list.list ∷ []) c.loop-line.invariant.fit
          (All-cons (ListFits g.R.Rule.game) c.in_ok-list.list [] c.in_ok-list.ensures.fits (All-nil (ListFits g.R.Rule.game))));
      read =
          c.loop-line.invariant.read
          ∙ list-read g.R.Rule.game c.args.place _ _ (piece_of c.in-Some.line) c.in-Some.ensures.steps c.loop-line.lists.items c.in_ok-list.list (sym c.is_list.ensures ∙ c.if-is_list.true) c.in_ok-list.ensures.list
          ∙ ap (λ seen. after_seen seen (lists_of g.R.Rule.game (map (moved c.args.place) (lines_left c.next.new.self))))
          (sym pushed);
    }

pub overflow_add-result : goal.overflow_add-result
overflow_add-result g c =
    let inside = line_within c.args.text.now _ (piece_of c.in-Some.line) _ c.loop-line.invariant.places c.in-Some.ensures.steps in
    omega (arith, inside, c.requires)

pub loop-line-preserved : goal.loop-line-preserved
loop-line-preserved g c = record {
  places = All-tail (IsPieceOf 0 c.args.text.now) (piece_of c.in-Some.line) (lines_left c.next.new.self)
      (subst (All (IsPieceOf 0 c.args.text.now)) c.in-Some.ensures.steps c.loop-line.invariant.places);
  fit = c.loop-line.invariant.fit;
  read = c.loop-line.invariant.read ∙ empty-skipped g.R.Rule.game c.args.place _ _ (piece_of c.in-Some.line) c.in-Some.ensures.steps _ (sym c.is_list.ensures ∙ c.if-is_list.false) (sym c.is_blank_or_comment.ensures ∙ c.if-not-is_blank_or_comment.false);
}

pub returns-then-not-is_blank_or_comment-clause-small : goal.returns-then-not-is_blank_or_comment-clause-small
returns-then-not-is_blank_or_comment-clause-small g c =
    let inside = line_within c.args.text.now _ (piece_of c.in-Some.line) _ c.loop-line.invariant.places c.in-Some.ensures.steps in
    omega (arith, inside, c.requires)
