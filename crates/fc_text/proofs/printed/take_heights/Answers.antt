use Rattle.std.proofs.Common.{◌++◌, ◌∙◌, ap, sym}
use Rattle.fc_text.proofs.BeginningLemmas.{guessed_heights}
use Rattle.fc_text.proofs.printed.take_heights.Goals as goal

pub returns-in_err-strip_prefix-clause-found : goal.returns-in_err-strip_prefix-clause-found
returns-in_err-strip_prefix-clause-found c = λ heights rest four are is.
    let line = guessed_heights c.args.text.now.now heights rest c.in_ok-height_guessed.field-0 c.in_ok-height_guessed-2.field-0 c.in_ok-height_guessed-3.field-0 c.in_ok-height_guessed-4.field-0
    four are is c.in_ok-height_guessed.ensures.guess c.in_ok-height_guessed-2.ensures.guess c.in_ok-height_guessed-3.ensures.guess c.in_ok-height_guessed-4.ensures.guess in
    let some = c.in_err-strip_prefix.ensures.found rest (line ∙ ap (λ front. front ++ rest) (sym c.printed_heights.ensures)) in
    absurd (cc)
