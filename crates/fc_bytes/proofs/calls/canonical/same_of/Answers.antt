use Rattle.std.proofs.{Common.{◌∙◌, ◌≤◌, ap, arith, refl, subst, sym}, lemmas.Bool.{iff_false}}
use Rattle.fc_board.specs.Passages.{Carries, inverse_passage, passage_product}
use Rattle.fc_canon.{proofs.LeastTextLemmas.{chosen-between, chosen_passage-Chosen, one_chosen}, specs.{chosen_passage}}
use Rattle.fc_bytes.proofs.PassageDecoded.{canonical_bytes}
use Rattle.fc_bytes.proofs.calls.canonical.same_of.Goals as goal

pub returns-then-not-are_same-clause-apart : goal.returns-then-not-are_same-clause-apart
returns-then-not-are_same-clause-apart g c = λ _.
    let laws = g.met.R.Rule.rule_laws in
    let few : g.R.Rule.game.cells ≤ 8 = omega (arith, laws.cells_are, laws.at_most_eight) in
    let first = c.canon_passage-way.ensures in
    let next = c.canon_passage-back.ensures in (
      c.in-Some.held,
      c.in-Some-board.next,
      c.in-Some.ensures.board,
      c.in-Some-board.ensures.board,
      λ equivalent. iff_false c.are_same.ensures c.if-not-are_same.true
          (c.of_carried-canonical.ensures.1
          ∙ (canonical_bytes g.R.Rule.game g.R.Rule.renamings few c.in-Some.held c.in-Some-board.next c.canon_passage-way.result c.canon_passage-back.result
          first.well_formed next.well_formed first.chosen next.chosen).1 equivalent
          ∙ sym c.of_carried.ensures.1),
    )

pub returns-clause-done : goal.returns-clause-done
returns-clause-done g c = λ _.
    let laws = g.met.R.Rule.rule_laws in
    let game = g.R.Rule.game in
    let renamings = g.R.Rule.renamings in
    let few : g.R.Rule.game.cells ≤ 8 = omega (arith, laws.cells_are, laws.at_most_eight) in
    let held = c.in-Some.held in
    let other = c.in-Some-board.next in
    let way = c.canon_passage-way.result in
    let back = c.canon_passage-back.result in
    let first = c.canon_passage-way.ensures in
    let next = c.canon_passage-back.ensures in
    let equivalent = (canonical_bytes game renamings few held other way back first.well_formed next.well_formed first.chosen next.chosen).0
    (sym c.of_carried-canonical.ensures.1 ∙ c.if-not-are_same.ensures.0 refl ∙ c.of_carried.ensures.1) in
    let one = one_chosen game renamings held way (chosen_passage renamings held) first.chosen (chosen_passage-Chosen laws held first.well_formed) in
    let two = one_chosen game renamings other back (chosen_passage renamings other) next.chosen (chosen_passage-Chosen laws other next.well_formed) in
    let made = c.then.ensures.value ∙ ap (passage_product way) c.inverse.ensures.value in (
      held,
      other,
      c.then.result,
      c.in-Some.ensures.board,
      c.in-Some-board.ensures.board,
      made ∙ ap (λ back. passage_product way (inverse_passage back)) two ∙ ap (λ way. passage_product way (inverse_passage (chosen_passage renamings other))) one,
      subst (λ passage. Carries game passage held other) (sym made)
          (chosen-between game renamings held other way back first.well_formed next.well_formed first.chosen next.chosen equivalent),
      c.of.ensures,
    )
