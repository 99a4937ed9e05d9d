use Rattle.fc_text.proofs.LeavingLemmas.{further, row_taken, then_left}
use Rattle.fc_text.proofs.board.read_row.Goals as goal

pub returns : goal.returns
returns g c =
    row_taken g.R.Rule.game c.args.reader.now c.read_start.new.reader c.read_words.new.reader c.args.start c.row_head-section.result.1 c.args.bytes.now c.row_head-section.result.0 c.read_words.result
    (c.row_head-section.ensures.row c.args.start) c.in_ok-read_start.ensures.0 c.in_ok-read_start.ensures.1
    (then_left g.R.Rule.game c.row_head-section.result.0 c.read_start.new.reader c.read_front-left.new.reader c.read_words.new.reader _ _ _ _ c.read_words.result
    c.read_front-left.ensures (further c.args.bytes.now c.row_head-section.result.1 c.args.start _ c.row_head-section.ensures.within c.read_front-left.ensures.within) c.read_words.ensures)
