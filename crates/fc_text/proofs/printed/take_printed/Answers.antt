use Rattle.std.proofs.Common.{◌++◌, ◌∙◌, ◌≡◌, All, ap, arith, length, List, rules, Some, subst, sym, take, ℕ}
use Rattle.std.specs.List.{flat_map}
use Rattle.fc_card.specs.{IsCard}
use Rattle.fc_board.proofs.BoardLemmas.{all_cards, columns_together, game_cells}
use Rattle.fc_board.proofs.ColumnsLemmas.{all_cards_laid, column_within, length-columns_from}
use Rattle.fc_board.specs.{Boards.{Board, HasEachCardOnce}, inside.{board_of_laid, columns_from}}
use Rattle.fc_text.proofs.BeginningLemmas.{columns_after, one_board, piles_of, same_columns, text_before}
use Rattle.fc_text.specs.Printed.{cells_line, column_line, foundations_line, text_of}
use Rattle.fc_text.proofs.printed.take_printed.Goals as goal

-- the lines of the columns end the text of the board
printed_front : (board : Board) (text middle rest : List ℕ)
    → text ≡ foundations_line board.heights ++ (cells_line board.cells ++ middle) → middle ≡ flat_map column_line board.columns ++ rest → text ≡ text_of board ++ rest
printed_front board text middle rest front columns =
    front ∙ ap (λ middle. foundations_line board.heights ++ (cells_line board.cells ++ middle)) columns ∙ sym (text_before board rest)

pub returns-in_err-front-clause-found : goal.returns-in_err-front-clause-found
returns-in_err-front-clause-found g c = λ board rest well is.
    let some = c.in_err-front.ensures.found board rest well is in
    absurd (cc)

pub returns-in_err-bits-clause-found : goal.returns-in_err-bits-clause-found
returns-in_err-bits-clause-found g c = λ board rest well is.
    let laws = g.met.R.Rule.rule_laws in
    let front = c.in_ok-front.front in
    let four : length front.heights ≡ 4 = search rules in
    let cells : length front.cells ≡ 8 = search rules in
    let all = game_cells front.cells g.R.Rule.CELLS g.R.Rule.game.cells cells laws.at_most_eight laws.cells_are in
    let after = columns_after g.R.Rule.game.cells board front.heights (take g.R.Rule.CELLS front.cells) c.take_named_lines.new.text.now rest (piles_of g.R.Rule.game board well)
    four c.in_ok-front.ensures.within all c.in_ok-front.ensures.in_deck (sym c.in_ok-front.ensures.lines ∙ is) in
    let piles = piles_of g.R.Rule.game board well in
    let some = c.in_err-bits.ensures.found board.columns rest piles.eight piles.cards (columns_together g.R.Rule.game board well) after.2 in
    absurd (cc)

pub returns-in-Ok-clause-found : goal.returns-in-Ok-clause-found
returns-in-Ok-clause-found g c = λ board rest well is.
    let front = c.in_ok-front.front in
    let printed : c.args.text.now.now ≡ text_of c.in-Ok.board ++ c.take_columns.new.text.now =
    subst (λ board. c.args.text.now.now ≡ text_of board ++ c.take_columns.new.text.now) (sym c.in-Ok.ensures.parts)
    (printed_front (board_of_laid g.R.Rule.CELLS front.heights front.cells (columns_from 0 c.take_columns.new.cards c.take_columns.new.ends))
    c.args.text.now.now c.take_named_lines.new.text.now c.take_columns.new.text.now c.in_ok-front.ensures.lines c.in_ok-bits.ensures.lines) in
    ap Some (one_board g.R.Rule.game.cells c.in-Ok.board board c.take_columns.new.text.now rest (piles_of g.R.Rule.game c.in-Ok.board c.in-Ok.ensures.well_formed) (piles_of g.R.Rule.game board well)
    (sym printed ∙ is)).0

pub returns-in-Err-clause-found : goal.returns-in-Err-clause-found
returns-in-Err-clause-found g c = λ board rest well is.
    let laws = g.met.R.Rule.rule_laws in
    let front = c.in_ok-front.front in
    let cards = c.take_columns.new.cards in
    let ends = c.take_columns.new.ends in
    let piles = piles_of g.R.Rule.game board well in
    let four : length front.heights ≡ 4 = search rules in
    let cells : length front.cells ≡ 8 = search rules in
    let deck = c.in_ok-bits.ensures.deck in
    let eight : length ends ≡ 8 = search rules in
    let all = game_cells front.cells g.R.Rule.CELLS g.R.Rule.game.cells cells laws.at_most_eight laws.cells_are in
    let after = columns_after g.R.Rule.game.cells board front.heights (take g.R.Rule.CELLS front.cells) c.take_named_lines.new.text.now rest piles
    four c.in_ok-front.ensures.within all c.in_ok-front.ensures.in_deck (sym c.in_ok-front.ensures.lines ∙ is) in
    let laid = all_cards (columns_from 0 cards ends) (subst (All IsCard) (sym (all_cards_laid cards ends 52 eight c.in_ok-bits.ensures.ends (omega (arith, deck)))) c.in_ok-bits.ensures.bits.in_deck) in
    let columns = same_columns (columns_from 0 cards ends) board.columns c.take_columns.new.text.now rest (length-columns_from 0 cards ends ∙ eight ∙ sym piles.eight) laid piles.cards
    (sym c.in_ok-bits.ensures.lines ∙ after.2) in
    let same : board_of_laid g.R.Rule.CELLS front.heights front.cells (columns_from 0 cards ends) ≡ board =
    (λ i. record { heights = after.0 i; cells = after.1 i; columns = columns.0 i }) in
    let okay = c.in-Err.ensures.deck.1 (subst HasEachCardOnce (sym same) well.one_place) in
    absurd (cc)

pub shared_whole_as_front-of_bits : goal.shared_whole_as_front-of_bits
shared_whole_as_front-of_bits g c = omega (arith, column_within 0 c.take_columns.new.ends 52 7 c.in_ok-bits.ensures.ends (search rules), c.from.ensures)
