use Rattle.std.proofs.Common.{◌≤◌, ap, arith}
use Rattle.fc_bytes.proofs.PassageDecoded.{canonical_bytes}
use Rattle.fc_laws.proofs.bytes.equivalent_boards_have_one_hash.Goals as goal
use Rattle.fc_bytes.specs.{board_hash}

pub returns : goal.returns
returns g c = let laws = g.met.R.Rule.rule_laws in
    let few : g.R.Rule.game.cells ≤ 8 = omega (arith, laws.cells_are, laws.at_most_eight) in
    λ board other first next well well' chosen chosen' equivalent.
    ap board_hash ((canonical_bytes g.R.Rule.game g.R.Rule.renamings few board other first next well well' chosen chosen').1 equivalent)
