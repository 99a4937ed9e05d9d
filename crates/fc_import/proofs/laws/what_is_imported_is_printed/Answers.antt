use Rattle.fc_import.proofs.PrintedAgainLemmas.{makes_again, makes_printed}
use Rattle.fc_import.proofs.laws.what_is_imported_is_printed.Goals as goal

pub returns-clause-printed : goal.returns-clause-printed
returns-clause-printed c = λ variant options bytes made said summary makes. makes_printed makes

pub returns-clause-again : goal.returns-clause-again
returns-clause-again c = λ variant options other bytes made said more again says summary next makes some read second.
    makes_again makes some read second
