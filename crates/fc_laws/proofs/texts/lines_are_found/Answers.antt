use Rattle.fc_text.proofs.LineLemmas.{ended_text, line_starts, lines_are_pieces, lines_in_one_piece, lines_of_bytes}
use Rattle.fc_text.proofs.LineLemmas.{text_without_end}
use Rattle.fc_laws.proofs.texts.lines_are_found.Goals as goal

pub returns-clause-ended : goal.returns-clause-ended
returns-clause-ended c = ended_text

pub returns-clause-not_ended : goal.returns-clause-not_ended
returns-clause-not_ended c = text_without_end

pub returns-clause-in_one_piece : goal.returns-clause-in_one_piece
returns-clause-in_one_piece c = lines_in_one_piece

pub returns-clause-in_the_text : goal.returns-clause-in_the_text
returns-clause-in_the_text c = lines_are_pieces

pub returns-clause-one_after_another : goal.returns-clause-one_after_another
returns-clause-one_after_another c = line_starts

pub returns-clause-no_others : goal.returns-clause-no_others
returns-clause-no_others c = lines_of_bytes
