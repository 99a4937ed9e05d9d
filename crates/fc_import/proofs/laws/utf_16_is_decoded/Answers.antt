use Rattle.std.{proofs.Common.{refl}, specs.Char.{encode_utf8, Utf16.{utf16_chars}}}
use Rattle.fc_import.proofs.SignLemmas.{utf_8_stays}
use Rattle.fc_import.proofs.laws.utf_16_is_decoded.Goals as goal

pub returns-clause-low_first : goal.returns-clause-low_first
unfolding utf16_chars encode_utf8
returns-clause-low_first c = refl

pub returns-clause-high_first : goal.returns-clause-high_first
unfolding utf16_chars encode_utf8
returns-clause-high_first c = refl

pub returns-clause-two_units : goal.returns-clause-two_units
unfolding utf16_chars encode_utf8
returns-clause-two_units c = refl

pub returns-clause-byte_alone : goal.returns-clause-byte_alone
unfolding utf16_chars encode_utf8
returns-clause-byte_alone c = refl

pub returns-clause-utf_8 : goal.returns-clause-utf_8
returns-clause-utf_8 c = utf_8_stays
