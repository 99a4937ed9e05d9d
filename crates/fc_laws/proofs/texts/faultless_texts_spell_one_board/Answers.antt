use Rattle.fc_text.proofs.ReadingLemmas.{faultless-from_Spells, Spells-board_of, Spells-from_faultless}
use Rattle.fc_laws.proofs.texts.faultless_texts_spell_one_board.Goals as goal

pub returns-clause-spelled : goal.returns-clause-spelled
returns-clause-spelled c = Spells-from_faultless

pub returns-clause-faultless : goal.returns-clause-faultless
returns-clause-faultless c = faultless-from_Spells

pub returns-clause-one_board : goal.returns-clause-one_board
returns-clause-one_board c = Spells-board_of
