use Rattle.std.{proofs.Common.{refl}, specs.Char.{encode_utf8}}
use Rattle.fc_import.proofs.laws.signs_are_letters.Goals as goal

pub returns-clause-spade : goal.returns-clause-spade
unfolding encode_utf8
returns-clause-spade c = refl

pub returns-clause-outlined : goal.returns-clause-outlined
unfolding encode_utf8
returns-clause-outlined c = refl

pub returns-clause-filled_suits : goal.returns-clause-filled_suits
unfolding encode_utf8
returns-clause-filled_suits c = refl

pub returns-clause-outlined_suits : goal.returns-clause-outlined_suits
unfolding encode_utf8
returns-clause-outlined_suits c = refl

pub returns-clause-no_break_space : goal.returns-clause-no_break_space
unfolding encode_utf8
returns-clause-no_break_space c = refl

pub returns-clause-wide_space : goal.returns-clause-wide_space
unfolding encode_utf8
returns-clause-wide_space c = refl

pub returns-clause-marks : goal.returns-clause-marks
unfolding encode_utf8
returns-clause-marks c = refl

pub returns-clause-direction : goal.returns-clause-direction
unfolding encode_utf8
returns-clause-direction c = refl

pub returns-clause-other_letter : goal.returns-clause-other_letter
unfolding encode_utf8
returns-clause-other_letter c = refl

pub returns-clause-playing_cards : goal.returns-clause-playing_cards
unfolding encode_utf8
returns-clause-playing_cards c = refl

pub returns-clause-red_cards : goal.returns-clause-red_cards
unfolding encode_utf8
returns-clause-red_cards c = refl

pub returns-clause-knight : goal.returns-clause-knight
unfolding encode_utf8
returns-clause-knight c = refl

pub returns-clause-wide_letters : goal.returns-clause-wide_letters
unfolding encode_utf8
returns-clause-wide_letters c = refl

pub returns-clause-other_sign : goal.returns-clause-other_sign
unfolding encode_utf8
returns-clause-other_sign c = refl
