use Rattle.std.proofs.{Common.{◌+◌, ◌∙◌, ap, sym}, lemmas.{List.{take_rest}, Result.{err_from_is_err_and}}}
use Rattle.fc_text.{proofs.ReadingLemmas.{faultless-from_Spells, Spells-board_of}, specs.Lines.{lines_from}}
use Rattle.fc_record.proofs.ContentsLemmas.{contents-at_fault, contents-read, IfFaultOf-weaker}
use Rattle.fc_record.specs.Grammar.{lists_of}
use Rattle.fc_record.proofs.record.body.with_lists.Goals as goal

pub returns-in_err-lists-clause-fault : goal.returns-in_err-lists-clause-fault
returns-in_err-lists-clause-fault g c =
    let p = err_from_is_err_and c.from_residual.result c.from_residual.ensures.1 in
    let rest = take_rest c.args.body.now c.args.start in
    rw (p.1, p.2)
    (IfFaultOf-weaker _ _
    (λ fault read. contents-at_fault g.R.Rule.game c.args.place c.args.body.now c.args.start c.requires.start
    (faultless-from_Spells g.R.Rule.game _ _ c.requires.board) fault
    (ap (λ text. lists_of g.R.Rule.game (lines_from (c.args.place + c.args.start) text)) (sym rest) ∙ read))
    c.in_err-lists.field-0.0 c.in_err-lists.ensures.fault)

pub returns-clause-contents : goal.returns-clause-contents
returns-clause-contents g c =
    let rest = take_rest c.args.body.now c.args.start in
    contents-read g.R.Rule.game c.args.place c.args.body.now c.args.start c.requires.start
    (faultless-from_Spells g.R.Rule.game _ _ c.requires.board) c.args.board c.in_ok-lists.lists.items
    (Spells-board_of g.R.Rule.game _ _ c.requires.board)
    (ap (λ text. lists_of g.R.Rule.game (lines_from (c.args.place + c.args.start) text)) (sym rest) ∙ c.in_ok-lists.ensures.lists)
