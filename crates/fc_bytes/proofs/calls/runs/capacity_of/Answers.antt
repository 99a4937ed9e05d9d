use Rattle.std.proofs.Common.{◌∙◌, sym}
use Rattle.fc_text.{proofs.TokenLemmas.{letter_there}, specs.Notation.{column_digits}}
use Rattle.fc_bytes.proofs.calls.runs.capacity_of.Goals as goal

pub returns-clause-done : goal.returns-clause-done
returns-clause-done g c = λ _.
    let (inside, is) = letter_there column_digits c.args.to c.in-Some-column_named.column (sym c.column_named.ensures ∙ c.in-Some-column_named.is) in (
      c.in-Some.held,
      c.in-Some-column_named.column,
      c.in-Some.ensures.board,
      (inside, sym is),
      c.from.ensures ∙ c.capacity.ensures.value,
    )
