use Rattle.std.proofs.Common.{◌∙◌, ap, arith}
use Rattle.fc_text.{proofs.LineLemmas.{lines_from-moved}, specs.Lines.{lines_from}}
use Rattle.fc_laws.proofs.texts.lines_move_with_their_text.Goals as goal

pub returns : goal.returns
returns c = λ place text. ap (λ at. lines_from at text) (omega arith) ∙ lines_from-moved place 0 text
