use Rattle.std.proofs.Common.{◌==◌, ◌∙◌, ◌≡◌, [], ap, append-nil, false, length, sym, true}
use Rattle.fc_text.{proofs.BeginningLemmas.{one_board, piles_of}, specs.Printed.{text_of}}
use Rattle.fc_text.proofs.printed.read_printed.Goals as goal

pub returns-in_err-board-clause-found : goal.returns-in_err-board-clause-found
returns-in_err-board-clause-found g c = λ board well is.
    let some = c.in_err-board.ensures.found board [] well (is ∙ sym (append-nil (text_of board))) in
    absurd (cc)

pub returns-then-is_empty-clause-found : goal.returns-then-is_empty-clause-found
returns-then-is_empty-clause-found g c = λ board well is. c.in_ok-board.ensures.found board [] well (is ∙ sym (append-nil (text_of board)))

pub returns-else-is_empty-clause-found : goal.returns-else-is_empty-clause-found
returns-else-is_empty-clause-found g c = λ board well is.
    let none = (one_board g.R.Rule.game.cells c.in_ok-board.board board c.take_printed.new.text.now [] (piles_of g.R.Rule.game c.in_ok-board.board c.in_ok-board.ensures.well_formed) (piles_of g.R.Rule.game board well)
    (sym c.in_ok-board.ensures.printed ∙ is ∙ sym (append-nil (text_of board)))).1 in
    let nothing : false ≡ true = c.if-is_empty.ensures ∙ ap (λ bytes. length bytes == 0) none in
    absurd (cc)
