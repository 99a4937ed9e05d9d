use Rattle.fc_import.proofs.SilenceLemmas.{not_cut}
use Rattle.fc_import.proofs.laws.solutions_are_whole.Goals as goal

pub returns : goal.returns
returns c = λ variant game state next piece written said goes_on joined reading. not_cut joined reading
