use Rattle.fc_laws.proofs.PieceLemmas.{finished_records-placed, records-placed, within-placed}
use Rattle.fc_laws.proofs.collections.records.pieces_are_placed.Goals as goal

pub returns : goal.returns
returns c = record { records = records-placed; finished = finished_records-placed; within = within-placed }
