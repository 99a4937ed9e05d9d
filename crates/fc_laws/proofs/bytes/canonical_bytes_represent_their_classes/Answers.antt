use Rattle.std.proofs.Common.{◌≤◌, arith}
use Rattle.fc_bytes.proofs.PassageDecoded.{canonical_bytes}
use Rattle.fc_laws.proofs.bytes.canonical_bytes_represent_their_classes.Goals as goal

pub returns : goal.returns
returns g c = let laws = g.met.R.Rule.rule_laws in
    let few : g.R.Rule.game.cells ≤ 8 = omega (arith, laws.cells_are, laws.at_most_eight) in
    canonical_bytes g.R.Rule.game g.R.Rule.renamings few
