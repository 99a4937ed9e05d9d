use Rattle.fc_collect.proofs.AcceptanceLemmas.{IsFaulty-from_refused, refused-from_IsFaulty}
use Rattle.fc_laws.proofs.collections.lines.records_are_refused_for_their_first_fault.Goals as goal

pub returns : goal.returns
returns c variant bytes name fault = (IsFaulty-from_refused variant bytes name fault, refused-from_IsFaulty variant bytes)
