use Rattle.fc_record.proofs.ObjectLemmas.{win_shown}
use Rattle.fc_record.proofs.printing.object.push_win_or_null.Goals as goal

pub returns-in-Some : goal.returns-in-Some
returns-in-Some g c = record { printed = win_shown c.push_number.result _ _ _ _ c.in-Some.ensures.some c.push_number.ensures.printed }
