use Rattle.std.proofs.Common.{◌++◌, ◌∙◌, [], ap, arith, drop, refl, subst, sym, take}
use Rattle.std.proofs.{lemmas.List.{drop-drop, take_rest}, Math.Seq.{take-add}}
use Rattle.fc_import.{proofs.PieceLemmas.{lines_more}, specs.Import.{IsPrinted}}
use Rattle.fc_import.specs.inside.{IsMade, KeepsFirst, TakesFirst}
use Rattle.fc_import.proofs.import.import_text.Goals as goal

pub loop-at-init : goal.loop-at-init
loop-at-init g c = record {
  within = omega arith;
  whole = λ less. refl;
  kept = λ printed. (
    subst (λ last. IsPrinted g.R.Rule.VARIANT g.R.Rule.game last c.args.text.now)
        (sym c.new.ensures.last) printed,
    c.new.ensures.written,
    c.new.ensures.notes,
  );
  so_far = subst (λ options. IsMade {R = g.row.R.Denot} g.R.Rule.VARIANT options g.R.Rule.game [] c.new.result)
      (sym c.new.ensures.options) c.new.ensures.made;
}

pub loop-at-preserved : goal.loop-at-preserved
loop-at-preserved g c =
    let text = c.args.text.now in
    let at = c.loop-at.at in
    let len = c.in_ok-len.len in
    let old = c.loop-at.importer.made in
    let new = c.take_first.new.self.made in
    let taken = subst (λ rest. TakesFirst {R = g.row.R.Denot} g.R.Rule.VARIANT g.R.Rule.game rest len old new)
    (take_rest text at) c.in_ok-len.ensures.takes in
    let ends = c.loop-at.invariant.whole (omega (arith, c.loop-at-test.true)) in
    let (within, whole) = lines_more text at len (omega (arith, c.loop-at-test.true)) ends taken.lines in
    record {
      within = within;
      whole = whole;
      kept = λ printed.
          let (goes_on, written, notes) = c.loop-at.invariant.kept printed in
          let rest = subst (IsPrinted g.R.Rule.VARIANT g.R.Rule.game old.last) (sym (take_rest text at)) goes_on in
          let first = subst (λ rest. KeepsFirst {R = g.row.R.Denot} g.R.Rule.VARIANT g.R.Rule.game rest len old new)
          (take_rest text at) (c.in_ok-len.ensures.kept rest) in (
            subst (IsPrinted g.R.Rule.VARIANT g.R.Rule.game new.last) (drop-drop len at text) first.goes_on,
            first.written ∙ ap (λ front. front ++ take len (drop at text)) written
                ∙ sym (take-add at len text),
            first.notes ∙ notes,
          );
      so_far = subst (λ text. IsMade {R = g.row.R.Denot} g.R.Rule.VARIANT c.new.result.options g.R.Rule.game text new)
          (sym (take-add at len text))
          (taken.takes c.new.result.options (take at text) ends c.loop-at.invariant.so_far);
    }
