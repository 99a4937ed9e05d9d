use Rattle.std.proofs.Common.{◌∙◌, refl}
use Rattle.fc_collect.proofs.ClosedLemmas.{all_home, open_flaw}
use Rattle.fc_collect.proofs.commands.closed.flaw_of.Goals as goal

pub returns : goal.returns
returns g c = λ all member are on.
    let home = all_home g.R.Rule.game c.args.board.now c.is_won.result c.is_won.ensures.well_formed c.is_won.ensures.won ∙ c.if-is_won.false in
    open_flaw all member g.R.Rule.game g.R.Rule.VARIANT c.args.board.now c.first_out.result on (g.met.R.Rule.named.game_is _ refl) home (c.first_out.ensures all member are on)
