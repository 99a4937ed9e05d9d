use Rattle.fc_laws.proofs.AloneLemmas.{faulty_alone, one_record, spelled_alone}
use Rattle.fc_laws.proofs.collections.lines.a_board_alone.Goals as goal

pub returns : goal.returns
returns c = record { one_record = one_record; spelled = spelled_alone; faulty = faulty_alone }
