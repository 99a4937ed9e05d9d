use Rattle.fc_import.proofs.NameLemmas.{names}
use Rattle.fc_import.proofs.laws.names_are_those_of_the_last_header.Goals as goal

pub returns : goal.returns
returns c = λ variant options game text state written said imported. names variant imported
