use Rattle.fc_text.proofs.PieceLemmas.{cut_piece}
use Rattle.fc_laws.proofs.texts.pieces_are_cut_from_their_text.Goals as goal

pub returns-clause-pieces : goal.returns-clause-pieces
returns-clause-pieces c = cut_piece
