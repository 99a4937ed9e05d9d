use Rattle.std.proofs.Common.{◌+◌, ◌∙◌, ◌≡◌, ◌≢◌, [], ap, IfSome, IsSome, length, length-append, Some, subst, sym, take}
use Rattle.{fc_record.specs.{Grammar.{heading_of}, Printing.{header_text}}, fc_text.specs.Printed.{text_of}}
use Rattle.fc_import.{proofs.FrontLemmas.{end_is, record_parts, record_taken}, specs.Notes.{name_by}}
use Rattle.fc_import.proofs.made.Made.take_record.Goals as goal

pub returns-in_default-clause-found : goal.returns-in_default-clause-found
returns-in_default-clause-found g c = λ name board rest one some well is.
    let (long, line, after) = record_parts g.R.Rule.VARIANT name board rest c.args.text.now c.line_len-start.result
    (one, some) is c.line_len-start.ensures.first in
    absurd (let e = sym c.in_default.is ∙ c.take_printed.ensures.found board rest well after in cc)

pub returns-in_default-2-clause-found : goal.returns-in_default-2-clause-found
returns-in_default-2-clause-found g c = λ name board rest one some well is.
    let (long, line, after) = record_parts g.R.Rule.VARIANT name board rest c.args.text.now c.line_len-start.result
    (one, some) is c.line_len-start.ensures.first in
    let found = c.in_ok-name.ensures.found name one some (line
    ∙ ap (λ variant. header_text variant name) (sym c.VARIANT.ensures)) in
    absurd (let e = subst IsSome c.in_default-2.is found in cc)

pub returns-clause-taken : goal.returns-clause-taken
returns-clause-taken g c =
    let text = c.args.text.now in
    let start = c.line_len-start.result in
    let name = c.in-Some-2.name.items in
    let board = c.in-Some.board in
    let read = subst (λ found. IfSome found (λ name. name.items ≡ name_by
    (heading_of c.VARIANT.result (take start text)))) c.in-Some-2.is c.in_ok-name.ensures.name in
    let printed = subst (λ found. IfSome found (λ name. take start text ≡ header_text c.VARIANT.result name.items))
    c.in-Some-2.is c.in_ok-name.ensures.printed in
    let some = subst (λ found. IfSome found (λ name. name.items ≢ [])) c.in-Some-2.is c.in_ok-name.ensures.some in
    record_taken g.R.Rule.VARIANT g.R.Rule.game text c.take_printed.new.text.now name start board
    c.line_len-start.ensures.lines
    (printed ∙ ap (λ variant. header_text variant name) c.VARIANT.ensures) c.in-Some.ensures.well_formed
    c.in-Some.ensures.printed {R = g.row.R.Denot} c.args.self.now c.put_name.new.self c.go_on.new.self
    c.line_len-start.ensures.one
    (read ∙ ap (λ variant. name_by (heading_of variant (take start text))) c.VARIANT.ensures) some c.put_name.ensures
    c.go_on.ensures.state
    (c.go_on.ensures.written ∙ c.in_ok-extend_from_slice.ensures.items) c.go_on.ensures.notes

pub returns-clause-found : goal.returns-clause-found
returns-clause-found g c = λ name board rest one some well is.
    let text = c.args.text.now in
    let start = c.line_len-start.result in
    let held = c.in-Some.board in
    let (long, line, after) = record_parts g.R.Rule.VARIANT name board rest text start
    (one, some) is c.line_len-start.ensures.first in
    let same : held ≡ board = let e = sym c.in-Some.is
    ∙ c.take_printed.ensures.found board rest well after in cc in
    let end = end_is g.R.Rule.VARIANT g.R.Rule.game text c.take_printed.new.text.now name start held
    c.line_len-start.ensures.lines line
    c.in-Some.ensures.well_formed c.in-Some.ensures.printed in (
      ap Some (end ∙ ap (λ board. start + length (text_of board)) same
          ∙ ap (λ start. start + length (text_of board)) long
          ∙ sym (length-append (header_text g.R.Rule.VARIANT name) (text_of board))),
      ap (λ state. state.last) c.go_on.ensures.state ∙ ap Some same,
    )
