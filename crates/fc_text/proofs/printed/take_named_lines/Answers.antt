use Rattle.std.proofs.Common.{◌++◌, ◌∙◌, ◌≡◌, All, ap, arith, drop, IsNone, refl, subst, sym, take}
use Rattle.std.specs.List.{flat_map}
use Rattle.fc_board.{proofs.BoardLemmas.{in_cells}, specs.laws.ListWords.{IsCell}}
use Rattle.fc_text.proofs.BeginningLemmas.{text_before}
use Rattle.fc_text.proofs.printed.take_named_lines.Goals.{else-CELLS-eq4, then-CELLS-eq4+in_default}
use Rattle.fc_text.specs.Printed.{cells_line, column_line, foundations_line}
use Rattle.fc_text.proofs.printed.take_named_lines.Goals as goal

pub returns-in-Some-clause-lines : goal.returns-in-Some-clause-lines
returns-in-Some-clause-lines g c =
    let front = c.in-Some.front in
    let four : 4 ≡ g.R.Rule.CELLS = omega arith in
    subst (λ n. c.args.text.now.now ≡ foundations_line front.heights ++ cells_line (take n front.cells) ++ c.strip_fresh_lines.new.text.now) four c.in-Some.ensures.lines

pub returns-in-Some-clause-outside : goal.returns-in-Some-clause-outside
returns-in-Some-clause-outside g c =
    let four : 4 ≡ g.R.Rule.CELLS = omega arith in
    subst (λ n. All IsNone (drop n c.in-Some.front.cells)) four c.in-Some.ensures.outside

pub returns-in-Some-clause-in_deck : goal.returns-in-Some-clause-in_deck
returns-in-Some-clause-in_deck g c =
    let four : 4 ≡ g.R.Rule.CELLS = omega arith in
    subst (λ n. All IsCell (take n c.in-Some.front.cells)) four c.in-Some.ensures.in_deck

pub returns-clause-lines : goal.returns-clause-lines
returns-clause-lines g c =
    let kept : c.args.text.now.now ≡ c.if-CELLS-eq4.text.now = sym (elim c.if-CELLS-eq4.branch [
      | then-CELLS-eq4+in_default w ↦ ap (λ text. text.now) w.text-is ∙ w.in_default.ensures.kept refl
      | else-CELLS-eq4 w ↦ ap (λ text. text.now) w.text-is
    ]) in
    kept ∙ c.in_ok-heights.ensures.line ∙ ap (λ later. foundations_line c.in_ok-heights.heights ++ later) c.in_ok-cells.ensures.line

pub returns-in_err-heights-clause-found : goal.returns-in_err-heights-clause-found
returns-in_err-heights-clause-found g c = λ board rest well is.
    let kept : c.args.text.now.now ≡ c.if-CELLS-eq4.text.now = sym (elim c.if-CELLS-eq4.branch [
      | then-CELLS-eq4+in_default w ↦ ap (λ text. text.now) w.text-is ∙ w.in_default.ensures.kept refl
      | else-CELLS-eq4 w ↦ ap (λ text. text.now) w.text-is
    ]) in
    let some = c.in_err-heights.ensures.found board.heights (cells_line board.cells ++ (flat_map column_line board.columns ++ rest)) well.piles.four_foundations well.heights
    (sym kept ∙ is ∙ text_before board rest) in
    absurd (cc)

pub returns-in_err-cells-clause-found : goal.returns-in_err-cells-clause-found
returns-in_err-cells-clause-found g c = λ board rest well is.
    let kept : c.args.text.now.now ≡ c.if-CELLS-eq4.text.now = sym (elim c.if-CELLS-eq4.branch [
      | then-CELLS-eq4+in_default w ↦ ap (λ text. text.now) w.text-is ∙ w.in_default.ensures.kept refl
      | else-CELLS-eq4 w ↦ ap (λ text. text.now) w.text-is
    ]) in
    let laws = g.met.R.Rule.rule_laws in
    let all = well.piles.all_cells in
    let some = c.in_err-cells.ensures.found board.cells (flat_map column_line board.columns ++ rest) (omega (arith, laws.cells_are, all)) (in_cells g.R.Rule.game board well)
    (ap (drop 29) (sym c.in_ok-heights.ensures.line ∙ sym kept ∙ is ∙ text_before board rest)) in
    absurd (cc)
