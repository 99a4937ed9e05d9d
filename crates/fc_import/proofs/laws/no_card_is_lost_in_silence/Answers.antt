use Rattle.{fc_import.proofs.SilenceLemmas.{no_card_lost}, std.proofs.Common.{refl}}
use Rattle.fc_import.proofs.laws.no_card_is_lost_in_silence.Goals as goal

pub returns : goal.returns
returns c = λ variant options game text state imported. (no_card_lost imported refl refl).1
