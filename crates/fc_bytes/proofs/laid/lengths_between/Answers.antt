use Rattle.fc_bytes.proofs.BytesInOrder.{lengths-lanes}
use Rattle.fc_bytes.proofs.laid.lengths_between.Goals as goal

pub returns : goal.returns
returns c = λ cards room. lengths-lanes cards c.args.bounds.now c.requires c.told-bounds room
