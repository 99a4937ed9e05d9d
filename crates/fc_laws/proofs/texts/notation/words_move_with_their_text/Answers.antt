use Rattle.std.proofs.Common.{◌∙◌, ap, arith}
use Rattle.fc_text.{proofs.WordLemmas.{words_from-moved}, specs.Lines.{words_from}}
use Rattle.fc_laws.proofs.texts.notation.words_move_with_their_text.Goals as goal

pub returns : goal.returns
returns c = λ separates place text. ap (λ at. words_from separates at text) (omega arith) ∙ words_from-moved separates place 0 text
