use Rattle.std.proofs.Common.{◌≤◌, arith}
use Rattle.fc_text.proofs.TokenLemmas.{target_of_home}
use Rattle.fc_text.proofs.named.target_of.Goals as goal

pub returns-then-letter-eq104 : goal.returns-then-letter-eq104
returns-then-letter-eq104 g c =
    let laws = g.met.R.Rule.rule_laws in
    let few : g.R.Rule.game.cells ≤ 8 = omega (arith, laws.cells_are, laws.at_most_eight) in
    target_of_home g.R.Rule.game c.args.letter few c.if-letter-eq104.true
