use Rattle.std.proofs.Common.{◌∙◌, ap, sym}
use Rattle.fc_text.{proofs.SpellingLemmas.{same_board}, specs.Printed.{text_of}}
use Rattle.fc_import.proofs.spelled.is_same.Goals as goal

pub returns : goal.returns
returns g c =
    let first = c.as_slice.ensures.value ∙ c.text.ensures ∙ ap text_of c.of-first.ensures.board in
    let second = c.as_slice-2.ensures.value ∙ c.text-2.ensures ∙ ap text_of c.of-second.ensures.board in (
      (λ is.
          same_board g.R.Rule.game c.args.first.now c.args.second.now c.of-first.ensures.well_formed
          c.of-second.ensures.well_formed
          (sym first ∙ c.is_equal.ensures.0 is ∙ second)),
      (λ same. c.is_equal.ensures.1 (first ∙ ap text_of same ∙ sym second)),
    )
