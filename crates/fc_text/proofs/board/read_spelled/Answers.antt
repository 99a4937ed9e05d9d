use Rattle.std.proofs.{Common.{refl}, lemmas.Result.{err_from_is_err_and}}
use Rattle.fc_text.proofs.WholeLemmas.{read_to_board, read_to_fault, read_to_missing, ReadWhole, whole_deck}
use Rattle.fc_text.specs.reader.{board_known}
use Rattle.fc_text.proofs.board.read_spelled.Goals as goal

pub returns-in_err-read_lines-clause-fault : goal.returns-in_err-read_lines-clause-fault
returns-in_err-read_lines-clause-fault g c =
    let p = err_from_is_err_and c.from_residual.result c.from_residual.ensures.1 in
    rw (p.1, p.2) (read_to_fault g.R.Rule.game c.args.text.now c.new-reader.result _ c.new-reader.ensures c.in_err-read_lines.ensures)

pub board-requires : goal.board-requires
board-requires g c =
    let whole : ReadWhole g.R.Rule.game c.args.text.now c.new-reader.result c.read_lines.new.reader = record { start = c.new-reader.ensures; faultless = c.in_ok-read_lines.ensures.0; all = c.in_ok-read_lines.ensures.1 } in
    let once = whole_deck g.R.Rule.game c.args.text.now c.new-reader.result c.read_lines.new.reader whole c.in-None.ensures in
    (read_to_board g.R.Rule.game c.args.text.now c.new-reader.result c.read_lines.new.reader whole (board_known g.R.Rule.game c.read_lines.new.reader) refl once).well_formed

pub returns-in-None-clause-board : goal.returns-in-None-clause-board
returns-in-None-clause-board g c =
    let whole : ReadWhole g.R.Rule.game c.args.text.now c.new-reader.result c.read_lines.new.reader = record { start = c.new-reader.ensures; faultless = c.in_ok-read_lines.ensures.0; all = c.in_ok-read_lines.ensures.1 } in
    let once = whole_deck g.R.Rule.game c.args.text.now c.new-reader.result c.read_lines.new.reader whole c.in-None.ensures in
    read_to_board g.R.Rule.game c.args.text.now c.new-reader.result c.read_lines.new.reader whole c.board.result c.board.ensures once

pub returns-in-Some-clause-fault : goal.returns-in-Some-clause-fault
returns-in-Some-clause-fault g c =
    read_to_missing g.R.Rule.game c.args.text.now c.new-reader.result c.read_lines.new.reader
    (record { start = c.new-reader.ensures; faultless = c.in_ok-read_lines.ensures.0; all = c.in_ok-read_lines.ensures.1 })
    c.in-Some.card c.in-Some.ensures
