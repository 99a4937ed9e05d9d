use Rattle.std.proofs.Common.{◌∙◌, ◌≡◌, ◌≤◌, ap, IfSome, Some, subst, sym}
use Rattle.{fc_board.specs.{Boards.{Board}, Moves.{move_count}, Play.{Legal}}, fc_record.specs.Printing.{list_line}}
use Rattle.fc_text.{proofs.WriterLemmas.{few_cells}, specs.Notation.{most_moves}}
use Rattle.fc_import.proofs.{FrontLemmas.{in_front, list_len, list_taken}, PieceLemmas.{begins_front}}
use Rattle.fc_import.{proofs.PrintedLemmas.{legal_fits, printed_names}, specs.Import.{Names}}
use Rattle.fc_import.proofs.made.Made.take_list.Goals as goal

pub returns-in_default-clause-found : goal.returns-in_default-clause-found
returns-in_default-clause-found g c = λ board list rest last legal short is.
    let game = g.R.Rule.game in
    let line = (in_front (list_line list) rest c.args.text.now c.line_len-len.result is
    (list_len game (few_cells g.met.R.Rule.rule_laws) board list rest c.args.text.now c.line_len-len.result
    legal is c.line_len-len.ensures.first)).0 in
    let (form, words) = c.printed_words-form.ensures list line in
    let names = subst (λ words. Names game words list) (sym words)
    (printed_names game (few_cells g.met.R.Rule.rule_laws) list (legal_fits game board list legal) short) in
    absurd (let e = sym c.in_default.is ∙ c.in_ok-list.ensures.found board list last legal form names in cc)

pub returns-then-not-is_equal-clause-found : goal.returns-then-not-is_equal-clause-found
returns-then-not-is_equal-clause-found g c = λ board list rest last legal short is.
    let game = g.R.Rule.game in
    let line = (in_front (list_line list) rest c.args.text.now c.line_len-len.result is
    (list_len game (few_cells g.met.R.Rule.rule_laws) board list rest c.args.text.now c.line_len-len.result
    legal is c.line_len-len.ensures.first)).0 in
    let (form, words) = c.printed_words-form.ensures list line in
    let names = subst (λ words. Names game words list) (sym words)
    (printed_names game (few_cells g.met.R.Rule.rule_laws) list (legal_fits game board list legal) short) in
    let same : c.in-Some.list ≡ list = let e = sym c.in-Some.is
    ∙ c.in_ok-list.ensures.found board list last legal form names in cc in
    let printed = c.as_slice.ensures.value ∙ c.in_ok-line_of.ensures ∙ ap list_line same in
    absurd (let e = sym c.if-not-is_equal.true ∙ c.is_equal.ensures.1 (line ∙ sym printed) in cc)

pub returns-clause-taken : goal.returns-clause-taken
returns-clause-taken g c =
    let text = c.args.text.now in
    let len = c.line_len-len.result in
    let list = c.in-Some.list in
    let (board, last, legal) = subst (λ found. IfSome found (λ list. (board : Board) ×
    (c.args.self.now.last ≡ Some board) × Legal g.R.Rule.game board list)) c.in-Some.is
    c.in_ok-list.ensures.legal in
    let short = subst (λ found. IfSome found (λ list. move_count list ≤ most_moves)) c.in-Some.is
    c.in_ok-list.ensures.few in
    list_taken {R = g.row.R.Denot} g.R.Rule.VARIANT g.R.Rule.game text len c.line_len-len.ensures.lines board list
    c.args.self.now c.go_on.new.self
    c.line_len-len.ensures.one (begins_front text len c.line_len-len.ensures.lines.some
    ∙ c.requires.no_header) last legal short
    (c.is_equal.ensures.0 c.if-not-is_equal.false ∙ c.as_slice.ensures.value ∙ c.in_ok-line_of.ensures)
    c.go_on.ensures.state (c.go_on.ensures.written ∙ c.in_ok-extend_from_slice.ensures.items) c.go_on.ensures.notes

pub returns-clause-found : goal.returns-clause-found
returns-clause-found g c = λ board list rest last legal short is. (
  ap Some (list_len g.R.Rule.game (few_cells g.met.R.Rule.rule_laws) board list rest c.args.text.now
      c.line_len-len.result legal is c.line_len-len.ensures.first),
  ap (λ state. state.last) c.go_on.ensures.state ∙ last,
)
