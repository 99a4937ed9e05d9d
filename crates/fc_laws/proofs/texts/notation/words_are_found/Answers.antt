use Rattle.fc_text.proofs.WordLemmas.{AreWords-unique, words-are_pieces, words_from-AreWords}
use Rattle.fc_text.specs.Lines.{words_from}
use Rattle.fc_laws.proofs.texts.notation.words_are_found.Goals as goal

pub returns-clause-all_in_order : goal.returns-clause-all_in_order
returns-clause-all_in_order c = words_from-AreWords

pub returns-clause-one_list : goal.returns-clause-one_list
returns-clause-one_list c =
    λ separates place text others are. AreWords-unique separates place text others (words_from separates place text) are
    (words_from-AreWords separates place text)

pub returns-clause-in_the_text : goal.returns-clause-in_the_text
returns-clause-in_the_text c = words-are_pieces
