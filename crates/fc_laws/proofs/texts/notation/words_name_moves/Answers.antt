use Rattle.fc_text.proofs.TokenLemmas.{IsToken-named, named-IsToken, one_move}
use Rattle.fc_laws.proofs.texts.notation.words_name_moves.Goals as goal

pub returns-clause-named : goal.returns-clause-named
returns-clause-named c = λ game word move few. (IsToken-named game few word move, named-IsToken game word move)

pub returns-clause-one_move : goal.returns-clause-one_move
returns-clause-one_move c = λ game word move other few. one_move game few word move other
