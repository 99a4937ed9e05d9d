use Rattle.std.proofs.Common.{◌++◌, ◌+◌, ◌<◌, ◌∙◌, ◌∷◌, ◌≡◌, ◌≤◌, [], All, ap, append_assoc, arith, Bool, drop, IsNone}
use Rattle.std.proofs.Common.{length, List, Option, slice_set, subst, sym, take, ℕ}
use Rattle.std.proofs.lemmas.List.{Elements.{All-append, All-cons, All-nil}, length-set, length-take-le, take_more_set}
use Rattle.std.specs.List.{flat_map}
use Rattle.fc_board.specs.{Games.{Game, RuleLaws}, laws.ListWords.{IsCell}}
use Rattle.fc_text.proofs.{BeginningLemmas.{next_cell, no_more_cells}, PieceLemmas.{left_next, text_next}}
use Rattle.fc_text.{proofs.printed.take_cells.Invariants.{AreTaken}, specs.Bytes.{line_feed}}
use Rattle.fc_text.specs.Printed.{cell_word, cells_line}
use Rattle.fc_text.proofs.printed.take_cells.Goals as goal

-- one more cell is taken off
next : (text : List ℕ) (cells : List (Option ℕ)) (at : ℕ) (left rest : List ℕ) (cell : Option ℕ) → at < length cells
    → AreTaken text cells at left → left ≡ cell_word cell ++ rest → IsCell cell → AreTaken text (slice_set cells at cell) (at + 1) rest
next text cells at left rest cell inside taken is in_deck = record {
  words = taken.words ∙ ap (λ ys. flat_map cell_word (take at cells) ++ ys) is ∙ text_next cells at cell cell_word rest inside;
  eight = length-set cells at cell ∙ taken.eight;
  empty = left_next cells at cell IsNone taken.empty;
  in_deck = subst (All IsCell) (sym (take_more_set cells at cell inside))
      (All-append IsCell (take at cells) (cell ∷ []) taken.in_deck (All-cons IsCell cell [] in_deck (All-nil IsCell)));
}

inside : {game : Game} {renamings : List (List ℕ)} {cells count : ℕ} {kings_only : Bool} → RuleLaws game renamings cells count kings_only
    → (at length : ℕ) → length ≡ 8 → at < cells → at < length
inside laws at length eight below = omega (arith, laws.cells_are, laws.at_most_eight, eight, below)

at_most : {game : Game} {renamings : List (List ℕ)} {cells count : ℕ} {kings_only : Bool} → RuleLaws game renamings cells count kings_only
    → (at length : ℕ) → length ≡ 8 → at ≡ cells → at ≤ length
at_most laws at length eight all = omega (arith, laws.cells_are, laws.at_most_eight, eight, all)

pub loop-at-preserved : goal.loop-at-preserved
loop-at-preserved g c =
    next _ c.loop-at.cells c.loop-at.at _ _ c.in_ok-cells.field-0 (inside g.met.R.Rule.rule_laws c.loop-at.at _ c.loop-at.invariant.eight (omega (arith, c.loop-at-test.true, c.CELLS-at-end.ensures)))
    c.loop-at.invariant c.in_ok-cells.ensures.word c.in_ok-cells.ensures.in_deck

-- after its name the line of the cells has their words
after_name : (text left rest : List ℕ) (cells : List (Option ℕ)) → text ≡ 70 ∷ 114 ∷ 101 ∷ 101 ∷ 99 ∷ 101 ∷ 108 ∷ 108 ∷ 115 ∷ 58 ∷ left → text ≡ cells_line cells ++ rest
    → left ≡ flat_map cell_word cells ++ line_feed ∷ rest
after_name text left rest cells taken is = ap (drop 10) (sym taken ∙ is) ∙ append_assoc (flat_map cell_word cells) (line_feed ∷ []) rest

pub returns-in_err-cells-clause-found : goal.returns-in_err-cells-clause-found
returns-in_err-cells-clause-found g c = λ cells rest all are is.
    let below : c.loop-at.at < g.R.Rule.CELLS = omega (arith, c.loop-at-test.true, c.CELLS-at-end.ensures) in
    let long = length-take-le c.loop-at.at c.loop-at.cells (omega (arith, inside g.met.R.Rule.rule_laws c.loop-at.at _ c.loop-at.invariant.eight below)) in
    let line = after_name c.args.text.now.now c.strip_prefix.new.text.now rest cells c.in_ok-strip_prefix.ensures.taken is in
    let (cell, later, in_deck, next) = next_cell c.strip_prefix.new.text.now (take c.loop-at.at c.loop-at.cells) cells c.loop-at.text.now rest (omega arith) c.loop-at.invariant.in_deck are c.loop-at.invariant.words line (omega arith) in
    let some = c.in_err-cells.ensures.found cell later in_deck next in
    absurd (cc)

pub returns-in_err-strip_prefix-2-clause-found : goal.returns-in_err-strip_prefix-2-clause-found
returns-in_err-strip_prefix-2-clause-found g c = λ cells rest all are is.
    let full : c.loop-at.at ≡ g.R.Rule.CELLS = omega (arith, c.loop-at-test.false, c.loop-at.auto.at-end, c.CELLS-at-end.ensures) in
    let long = length-take-le c.loop-at.at c.loop-at.cells (at_most g.met.R.Rule.rule_laws c.loop-at.at _ c.loop-at.invariant.eight full) in
    let line = after_name c.args.text.now.now c.strip_prefix.new.text.now rest cells c.in_ok-strip_prefix.ensures.taken is in
    let end = no_more_cells c.strip_prefix.new.text.now (take c.loop-at.at c.loop-at.cells) cells c.loop-at.text.now rest (omega arith) c.loop-at.invariant.in_deck are c.loop-at.invariant.words line (omega arith) in
    let some = c.in_err-strip_prefix-2.ensures.found rest end in
    absurd (cc)
