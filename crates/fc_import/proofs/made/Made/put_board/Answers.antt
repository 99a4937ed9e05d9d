use Rattle.std.proofs.Common.{◌++◌, ◌∙◌, ap}
use Rattle.{fc_record.specs.Printing.{header_text}, fc_text.specs.Printed.{text_of}}
use Rattle.fc_import.proofs.made.Made.put_board.Goals as goal

pub returns-clause-written : goal.returns-clause-written
returns-clause-written g c = (
  c.in_ok-name.name.items,
  c.in_ok-name.ensures,
  c.go_on.ensures.written ∙ c.in_ok-push_record.ensures.text
      ∙ ap (λ name. c.args.self.now.written.items ++ (header_text g.R.Rule.VARIANT name ++ text_of c.args.board)) c.as_slice.ensures.value,
)
