use Rattle.std.proofs.Common.{◌∙◌, arith, sym}
use Rattle.fc_text.proofs.FrontLemmas.{cells_head, heights_head, plain_head}
use Rattle.fc_text.proofs.board.head_before_words.Goals as goal

pub returns-then-colon-bytes-clause-row : goal.returns-then-colon-bytes-clause-row
returns-then-colon-bytes-clause-row c = λ start.
    plain_head start c.args.bytes.now (sym c.colon_place-colon.ensures.value ∙ c.if-colon-bytes.true)

pub returns-then-is_heights_name-clause-row : goal.returns-then-is_heights_name-clause-row
returns-then-is_heights_name-clause-row c = λ start.
    heights_head start c.args.bytes.now c.colon_place-colon.result c.colon_place-colon.ensures.value (omega (arith, c.if-colon-bytes.false, c.colon_place-colon.ensures.within)) (sym c.if-is_heights_name.ensures)

pub returns-then-is_cells_name-clause-row : goal.returns-then-is_cells_name-clause-row
returns-then-is_cells_name-clause-row c = λ start.
    cells_head start c.args.bytes.now c.colon_place-colon.result c.colon_place-colon.ensures.value (omega (arith, c.if-colon-bytes.false, c.colon_place-colon.ensures.within)) (sym c.if-is_heights_name.ensures) (sym c.if-is_cells_name.ensures)
