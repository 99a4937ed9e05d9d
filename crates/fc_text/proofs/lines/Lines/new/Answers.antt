use Rattle.fc_text.proofs.LineLemmas.{lines_are_pieces}
use Rattle.fc_text.proofs.lines.Lines.new.Goals as goal

pub returns-clause-places : goal.returns-clause-places
returns-clause-places c = lines_are_pieces 0 c.args.text.now
