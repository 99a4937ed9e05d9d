use Rattle.fc_text.proofs.TakingLemmas.{rows_first}
use Rattle.fc_laws.proofs.texts.reading.rows_come_line_by_line.Goals as goal

pub returns-clause-next : goal.returns-clause-next
returns-clause-next c = rows_first
