use Rattle.std.proofs.Common.{◌∙◌, sym}
use Rattle.fc_text.{proofs.{PrintedTextLemmas.{text_spells}, ReadingLemmas.{Spells-board_of}}, specs.Printed.{text_of}}
use Rattle.fc_laws.proofs.texts.printed_texts_spell_their_boards.Goals as goal

pub returns-clause-spelled : goal.returns-clause-spelled
returns-clause-spelled c = text_spells

pub returns-clause-no_other : goal.returns-clause-no_other
returns-clause-no_other c = λ game board other well spells.
    Spells-board_of game (text_of board) other spells ∙ sym (Spells-board_of game (text_of board) board (text_spells game board well))
