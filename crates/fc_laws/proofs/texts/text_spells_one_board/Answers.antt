use Rattle.fc_text.proofs.SpellingLemmas.{same_board}
use Rattle.fc_laws.proofs.texts.text_spells_one_board.Goals as goal

pub returns : goal.returns
returns c = same_board
