use Rattle.std.proofs.Common.{◌≡◌, if◌then◌else◌, subst, sym}
use Rattle.fc_board.proofs.MoveListLemmas.{list_refused-exactly, list_verdict-played}
use Rattle.fc_board.specs.Play.{list_verdict, OnlyLegal, RefusedAt, Won}
use Rattle.fc_record.proofs.record.move_list.MoveList.play.Goals as goal

pub returns-in-Ok-clause-verdict : goal.returns-in-Ok-clause-verdict
returns-in-Ok-clause-verdict g c =
    let game = g.R.Rule.game in
    let list = c.args.self.now in
    let four = c.copy-after.ensures.well_formed.piles.four_foundations in
    let ensured = list_verdict-played game _ _ list _ four c.in-Ok.ensures.played c.is_won.ensures.won in
    sym (subst (λ board. list_verdict game board list ≡ (if c.is_won.result then Won else OnlyLegal))
    c.copy-after.ensures.same ensured)

pub returns-in-Err-clause-verdict : goal.returns-in-Err-clause-verdict
returns-in-Err-clause-verdict g c =
    let game = g.R.Rule.game in
    let list = c.args.self.now in
    let refused =
    subst (λ board. RefusedAt game board list c.in-Err.fault.index c.in-Err.fault.fault)
    c.copy-after.ensures.same c.in-Err.ensures.refused in
    sym ((list_refused-exactly game c.args.board.now list _ _ c.requires).1 refused)
