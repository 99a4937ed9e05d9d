use Rattle.fc_laws.proofs.PieceLemmas.{count-pieces, records-pieces, within-pieces}
use Rattle.fc_laws.proofs.collections.records.pieces_are_joined.Goals as goal

pub returns : goal.returns
returns c = record { records = records-pieces; counts = count-pieces; within = within-pieces }
