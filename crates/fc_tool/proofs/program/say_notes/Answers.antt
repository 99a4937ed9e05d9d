use Rattle.fc_tool.proofs.NoteLemmas.{then_written}
use Rattle.fc_tool.proofs.program.say_notes.Goals as goal

pub returns-clause-bytes : goal.returns-clause-bytes
returns-clause-bytes g c = then_written _ _ _ _ _ _ c.in_ok-write_bytes.ensures.bytes c.write_text.ensures.bytes
