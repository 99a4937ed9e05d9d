use Rattle.fc_laws.proofs.PieceLemmas.{output-pieces, outputs-pieces}
use Rattle.fc_laws.proofs.collections.records.outputs_of_pieces_are_joined.Goals as goal

pub returns : goal.returns
returns c = record { two = output-pieces; many = outputs-pieces }
