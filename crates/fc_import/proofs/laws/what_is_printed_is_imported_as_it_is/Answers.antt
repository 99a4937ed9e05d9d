use Rattle.fc_import.proofs.PrintedAgainLemmas.{printed_kept}
use Rattle.fc_import.proofs.laws.what_is_printed_is_imported_as_it_is.Goals as goal

pub returns : goal.returns
returns c = λ variant options bytes made said summary records makes printed some shows. printed_kept makes printed some
    shows
