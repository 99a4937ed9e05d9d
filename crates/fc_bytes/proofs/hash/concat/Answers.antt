use Rattle.std.proofs.Common.{◌++◌, ◌≡◌, arith, length}
use Rattle.fc_canon.proofs.LeadingPairs.{eight_items}
use Rattle.fc_bytes.proofs.hash.concat.Goals as goal

pub returns : goal.returns
returns c =
    let eight : length c.args.first ≡ 8 = omega (arith, c.well_formed.0) in
    let eight' : length c.args.next ≡ 8 = omega (arith, c.well_formed.1) in
    λ i. eight_items c.args.first eight i ++ eight_items c.args.next eight' i
