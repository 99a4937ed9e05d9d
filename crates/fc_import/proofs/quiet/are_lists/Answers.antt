use Rattle.std.proofs.{Common.{◌≡◌, ◌⊎◌, All, length, subst, sym, true}, lemmas.List.Elements.{All-cons, All-tail}}
use Rattle.{fc_import.specs.Scan.{lists_moves, words_of}, fc_text.specs.Lines.{Piece}}
use Rattle.fc_import.proofs.quiet.are_lists.Goals as goal

pub loop-line-preserved : goal.loop-line-preserved
loop-line-preserved g c = (
  (λ all. c.loop-line.invariant.0 (subst (All (λ (line : Piece). (lists_moves g.R.Rule.game c.is_in_words-in_words.result line.bytes ≡ true) ⊎ (length (words_of line.bytes) ≡ 0))) (sym c.in-Some.ensures.steps)
      (All-cons (λ (line : Piece). (lists_moves g.R.Rule.game c.is_in_words-in_words.result line.bytes ≡ true) ⊎ (length (words_of line.bytes) ≡ 0)) _ _ (c.in_ok-is_list_or_empty.ensures.0 c.if-not-branch.false) all))),
  (λ whole. All-tail (λ (line : Piece). (lists_moves g.R.Rule.game c.is_in_words-in_words.result line.bytes ≡ true) ⊎ (length (words_of line.bytes) ≡ 0)) _ _
      (subst (All (λ (line : Piece). (lists_moves g.R.Rule.game c.is_in_words-in_words.result line.bytes ≡ true) ⊎ (length (words_of line.bytes) ≡ 0))) c.in-Some.ensures.steps (c.loop-line.invariant.1 whole))),
)
